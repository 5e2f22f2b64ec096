-- The records of a trace that are not positions are one for each contact of the line: bit by bit,
-- frame by frame, and at the end.
-- Assumes nothing.
use Prim.Native.Nat.{ℕ, zero, suc, ◌+◌, ◌*◌, ◌/◌, ◌%◌, ◌^◌, ◌≤◌, ◌<◌}
use mathlib.Core.Path.{◌≡◌, refl, sym, ap, ◌∙◌, subst, subst⁻¹}
use mathlib.Core.Bool.{Bool, true, false}
use mathlib.Core.List.{List, [], ◌∷◌, ◌++◌}
use native.Mathlib.Omega.{arith}
use Rattle.words.specs.Answer.{pick}
use Rattle.words.specs.Limits.{largest64}
use Rattle.telegram.specs.Stretch.{bit_at}
use Rattle.settings.specs.declared.Store.{Store}
use Rattle.antenna.specs.declared.Stand.{Stand}
use Rattle.antenna.specs.declared.Ear.{Ear}
use Rattle.antenna.specs.Hearing.{Step, opened, hear}
use Rattle.antenna.specs.Hearing as hearing
use Rattle.antenna.specs.Line.{Told, ear_after_meant, hands_out, heard, after}
use Rattle.antenna.proofs.Law.{any_pieces}
use Rattle.recorder.specs.Record.{bytes_of, blank}
use Rattle.recording.specs.declared.Tape.{Tape}
use Rattle.recording.specs.Frame.{line_of, odometer_of, accepted_after}
use Rattle.recording.specs.Recording.{fresh, Taped, silent, and_then, cut, after_step, over_bits, is_due, position, after_frame_meant, held_at, in_frame_meant, its_bits, over_frames, frames_of, over_lead, is_above, last_position, cut_in, the_end_meant, recorded}
use Rattle.recording.specs.Contacts.{line_in, before, in_force, s_in, t_in, records_for, cut_at, without_positions, bits_of, OneEach}
use Rattle.recording.proofs.NoPosition.{without_join, for_join, no_records}
use Rattle.recording.proofs.OneBit.{OpenedIn, AfterBit, after_bit}

module _ (store : Store) (lead : List ℕ) where
  abbrev told_of : Ear → ℕ → ℕ → List Told
  told_of ear g n = heard (line_in lead) (s_in store lead) (t_in store lead) ear g n

  abbrev ear_of : Ear → ℕ → ℕ → Ear
  ear_of ear g n = after (line_in lead) (s_in store lead) (t_in store lead) ear g n

  -- What comes of n bits of the line from bit g on.
  record Tells (tape : Tape) (x : Taped) (g n : ℕ) : Type 0 where
    records : without_positions x.records ≡ records_for lead (told_of tape.ear g n)
    ear : x.tape.ear ≡ ear_of tape.ear g n
    opened_in : OpenedIn lead x.tape.ear.stand x.tape.opened (g + n)

  -- A bit, and those after it.
  join_bit : (tape : Tape) (x : Step) (g n : ℕ) (z : Taped) → AfterBit lead tape g x → hear tape.ear (line_in lead g) (s_in store lead g) (t_in store lead g) ≡ x → Tells (after_step tape x).tape z (g + 1) n
      → Tells tape (record { tape = z.tape; records = (after_step tape x).records ++ z.records }) g (suc n)
  unfolding heard after
  join_bit tape x g n z one y rest =
      let m : g + 1 + n ≡ g + suc n = omega arith in
      record {
        records =
            without_join (after_step tape x).records z.records
            ∙ ap (λ (l : List (List ℕ)). l ++ without_positions z.records) one.records
            ∙ ap (λ (l : List (List ℕ)). records_for lead (hands_out g x) ++ l) (rest.records ∙ ap (λ (e : Ear). records_for lead (told_of e (g + 1) n)) one.ear)
            ∙ sym (for_join lead (hands_out g x) (told_of (ear_after_meant x) (g + 1) n))
            ∙ ap (λ (w : Step). records_for lead (hands_out g w ++ told_of (ear_after_meant w) (g + 1) n)) (sym y);
        ear = rest.ear ∙ ap (λ (e : Ear). ear_of e (g + 1) n) one.ear ∙ ap (λ (w : Step). ear_of (ear_after_meant w) (g + 1) n) (sym y);
        opened_in = subst (λ (q : ℕ). OpenedIn lead z.tape.ear.stand z.tape.opened q) m rest.opened_in;
      }

  -- The bits of frame k.
  module _ (k : ℕ) (s t : ℕ) (is-s : s ≡ (held_at store (in_force lead k)).s) (is-t : t ≡ (held_at store (in_force lead k)).t) where
    bits_tell : (n : ℕ) (tape : Tape) (i : ℕ) → i + n ≤ 96 → 96 * k + 96 < 2 ^ 64 → tape.odometer ≡ in_force lead k → OpenedIn lead tape.ear.stand tape.opened (96 * k + i)
        → Tells tape (over_bits (line_of lead k) s t tape i n) (96 * k + i) n × ((over_bits (line_of lead k) s t tape i n).tape.odometer ≡ in_force lead k)
    unfolding over_bits heard after
    bits_tell zero tape i within fits o h =
        let e : 96 * k + i ≡ 96 * k + i + 0 = omega arith in
        (record { records = no_records lead; ear = refl; opened_in = subst (λ (z : ℕ). OpenedIn lead tape.ear.stand tape.opened z) e h }, o)
    bits_tell (suc n) tape i within fits o h =
        let g = 96 * k + i in
        let frame : (96 * k + i) / 96 ≡ k = omega arith in
        let place : (96 * k + i) % 96 ≡ i = omega arith in
        let bit : line_in lead (96 * k + i) ≡ bit_at (line_of lead k) i = ap (λ (z : ℕ). bit_at (line_of lead z) ((96 * k + i) % 96)) frame ∙ ap (λ (z : ℕ). bit_at (line_of lead k) z) place in
        let s_is : s_in store lead (96 * k + i) ≡ s = ap (λ (z : ℕ). (held_at store (in_force lead z)).s) frame ∙ sym is-s in
        let t_is : t_in store lead (96 * k + i) ≡ t = ap (λ (z : ℕ). (held_at store (in_force lead z)).t) frame ∙ sym is-t in
        let small : 96 * k + i < largest64 = omega arith in
        let x = hear tape.ear (bit_at (line_of lead k) i) s t in
        let y : hear tape.ear (line_in lead (96 * k + i)) (s_in store lead (96 * k + i)) (t_in store lead (96 * k + i)) ≡ x = cc in
        let one = after_bit lead tape (96 * k + i) (bit_at (line_of lead k) i) s t small (o ∙ ap (λ (z : ℕ). in_force lead z) (sym frame)) h in
        let on : 96 * k + i + 1 ≡ 96 * k + (i + 1) = omega arith in
        let there = subst (λ (z : ℕ). OpenedIn lead (after_step tape x).tape.ear.stand (after_step tape x).tape.opened z) on one.opened_in in
        let rest = bits_tell n (after_step tape x).tape (i + 1) (omega arith) fits (one.odometer ∙ o) there in (
          join_bit tape x (96 * k + i) n (over_bits (line_of lead k) s t (after_step tape x).tape (i + 1) n) one y
              (subst⁻¹ (λ (z : ℕ). Tells (after_step tape x).tape (over_bits (line_of lead k) s t (after_step tape x).tape (i + 1) n) z n) on rest.0),
          rest.1,
        )

  record Quiet (tape : Tape) (x : Taped) : Type 0 where
    records : without_positions x.records ≡ []
    ear : x.tape.ear ≡ tape.ear
    at_opening : x.tape.opened ≡ tape.opened
    odometer : x.tape.odometer ≡ tape.odometer

  quiet_by : (tape : Tape) (b : Bool) → Quiet tape (pick b (position tape) (silent tape))
  unfolding without_positions
  quiet_by tape true = record { records = refl; ear = refl; at_opening = refl; odometer = refl }
  quiet_by tape false = record { records = refl; ear = refl; at_opening = refl; odometer = refl }

  quiet_after : (tape : Tape) → Quiet tape (after_frame_meant tape)
  unfolding after_frame_meant
  quiet_after tape = quiet_by tape (is_due tape)

  in_it : (k : ℕ) (tape : Tape) → tape.odometer ≡ before lead k → (in_frame_meant store lead k tape).odometer ≡ in_force lead k
  unfolding before
  in_it k tape e = ap (λ (z : ℕ). accepted_after z (odometer_of lead k)) e

  its_tell : (k : ℕ) (tape : Tape) → 96 * k + 96 < 2 ^ 64 → tape.odometer ≡ before lead k → OpenedIn lead tape.ear.stand tape.opened (96 * k)
      → Tells tape (its_bits store lead k 0 tape) (96 * k) 96 × ((its_bits store lead k 0 tape).tape.odometer ≡ in_force lead k)
  unfolding its_bits
  its_tell k tape fits o h =
      let here = in_frame_meant store lead k tape in
      let e = in_it k tape o in
      let z : 96 * k + 0 ≡ 96 * k = omega arith in
      let r = bits_tell k (held_at store here.odometer).s (held_at store here.odometer).t (ap (λ (q : ℕ). (held_at store q).s) e) (ap (λ (q : ℕ). (held_at store q).t) e) 96 here 0 (omega arith) fits e
      (subst⁻¹ (λ (q : ℕ). OpenedIn lead tape.ear.stand tape.opened q) z h) in
      let t = subst (λ (q : ℕ). Tells here (its_bits store lead k 0 tape) q 96) z r.0 in
      (record { records = t.records; ear = t.ear; opened_in = t.opened_in }, r.1)

  -- A frame, and those after it.
  join_frame : (tape : Tape) (x z : Taped) (g n : ℕ) → Tells tape x g 96 → Quiet x.tape (after_frame_meant x.tape) → Tells (after_frame_meant x.tape).tape z (g + 96) n
      → Tells tape (record { tape = z.tape; records = x.records ++ ((after_frame_meant x.tape).records ++ z.records) }) g (96 + n)
  join_frame tape x z g n one quiet rest =
      let m : g + 96 + n ≡ g + (96 + n) = omega arith in
      let p = any_pieces (line_in lead) (s_in store lead) (t_in store lead) tape.ear g 96 n in
      let e : (after_frame_meant x.tape).tape.ear ≡ ear_of tape.ear g 96 = quiet.ear ∙ one.ear in
      record {
        records =
            without_join x.records ((after_frame_meant x.tape).records ++ z.records)
            ∙ ap (λ (l : List (List ℕ)). without_positions x.records ++ l) (without_join (after_frame_meant x.tape).records z.records ∙ ap (λ (l : List (List ℕ)). l ++ without_positions z.records) quiet.records)
            ∙ ap (λ (l : List (List ℕ)). l ++ without_positions z.records) one.records
            ∙ ap (λ (l : List (List ℕ)). records_for lead (told_of tape.ear g 96) ++ l) (rest.records ∙ ap (λ (q : Ear). records_for lead (told_of q (g + 96) n)) e)
            ∙ sym (for_join lead (told_of tape.ear g 96) (told_of (ear_of tape.ear g 96) (g + 96) n))
            ∙ ap (records_for lead) (sym p.0);
        ear = rest.ear ∙ ap (λ (q : Ear). ear_of q (g + 96) n) e ∙ sym p.1;
        opened_in = subst (λ (q : ℕ). OpenedIn lead z.tape.ear.stand z.tape.opened q) m rest.opened_in;
      }

  frames_tell : (n : ℕ) (tape : Tape) (k : ℕ) → 96 * (k + n) < 2 ^ 64 → tape.odometer ≡ before lead k → OpenedIn lead tape.ear.stand tape.opened (96 * k)
      → Tells tape (over_frames store lead tape k 0 n) (96 * k) (96 * n)
  unfolding over_frames heard after
  frames_tell zero tape k fits o h =
      let e : 96 * k ≡ 96 * k + 0 = omega arith in
      record { records = no_records lead; ear = refl; opened_in = subst (λ (z : ℕ). OpenedIn lead tape.ear.stand tape.opened z) e h }
  frames_tell (suc n) tape k fits o h =
      let one = its_tell k tape (omega arith) o h in
      let x = its_bits store lead k 0 tape in
      let quiet = quiet_after x.tape in
      let next = (after_frame_meant x.tape).tape in
      let g : 96 * k + 96 ≡ 96 * (k + 1) = omega arith in
      let c : suc k ≡ k + 1 = omega arith in
      let m : 96 + 96 * n ≡ 96 * suc n = omega arith in
      let odometer : next.odometer ≡ before lead (k + 1) = quiet.odometer ∙ one.1 ∙ ap (before lead) c in
      let open_a : OpenedIn lead x.tape.ear.stand x.tape.opened (96 * (k + 1)) = subst (λ (z : ℕ). OpenedIn lead x.tape.ear.stand x.tape.opened z) g one.0.opened_in in
      let open_b : OpenedIn lead next.ear.stand x.tape.opened (96 * (k + 1)) = subst⁻¹ (λ (z : Ear). OpenedIn lead z.stand x.tape.opened (96 * (k + 1))) quiet.ear open_a in
      let open_c : OpenedIn lead next.ear.stand next.opened (96 * (k + 1)) = subst⁻¹ (λ (z : ℕ). OpenedIn lead next.ear.stand z (96 * (k + 1))) quiet.at_opening open_b in
      let rest = frames_tell n next (k + 1) (omega arith) odometer open_c in
      let z = over_frames store lead next (k + 1) 0 n in
      let j = join_frame tape x z (96 * k) (96 * n) one.0 quiet (subst⁻¹ (λ (q : ℕ). Tells next z q (96 * n)) g rest) in
      subst (λ (q : ℕ). Tells tape (over_frames store lead tape k 0 (suc n)) (96 * k) q) m j

  last_quiet : (tape : Tape) → without_positions (last_position tape).records ≡ []
  unfolding last_position
  last_quiet tape = (quiet_by tape (is_above tape.last tape.odometer)).records

  one_cut : (at : ℕ) (rest : List (List ℕ)) → without_positions rest ≡ [] → without_positions (bytes_of at (blank 2) ∷ rest) ≡ bytes_of at (blank 2) ∷ []
  unfolding without_positions
  one_cut at rest e = ap (λ (l : List (List ℕ)). bytes_of at (blank 2) ∷ l) e

  end_tells : (tape : Tape) (stand : Stand) (n : ℕ) → OpenedIn lead stand tape.opened n → without_positions (and_then (cut_in stand tape) last_position).records ≡ cut_at lead n stand
  end_tells tape Stand.Outside n h = last_quiet tape
  end_tells tape (Stand.Inside sound) n (low, at) =
      one_cut tape.opened (last_position (cut tape)).records (last_quiet (cut tape)) ∙ ap (λ (z : ℕ). bytes_of z (blank 2) ∷ []) at

  the_end : (tape : Tape) (n : ℕ) → OpenedIn lead tape.ear.stand tape.opened n → without_positions (the_end_meant tape).records ≡ cut_at lead n tape.ear.stand
  unfolding the_end_meant
  the_end tape n h = end_tells tape tape.ear.stand n h

  fresh_open : OpenedIn lead fresh.ear.stand fresh.opened 0
  unfolding fresh hearing.fresh
  fresh_open = tt

  fresh_odometer : fresh.odometer ≡ before lead 0
  unfolding fresh before
  fresh_odometer = refl

  fresh_ear : fresh.ear ≡ hearing.fresh
  unfolding fresh
  fresh_ear = refl

pub one_each : OneEach
unfolding recorded
one_each store lead fits =
    let x = over_lead store lead fresh in
    let zero_plus : 96 * (0 + frames_of lead) < 2 ^ 64 = omega arith in
    let t = frames_tell store lead (frames_of lead) fresh 0 zero_plus (fresh_odometer store lead) (fresh_open store lead) in
    let s : 96 * 0 + bits_of lead ≡ bits_of lead = omega arith in
    let o = subst (λ (z : ℕ). OpenedIn lead x.tape.ear.stand x.tape.opened z) s t.opened_in in
    without_join x.records (the_end_meant x.tape).records
    ∙ ap (λ (l : List (List ℕ)). l ++ without_positions (the_end_meant x.tape).records) (t.records ∙ ap (λ (e : Ear). records_for lead (told_of store lead e 0 (bits_of lead))) (fresh_ear store lead))
    ∙ ap (λ (l : List (List ℕ)). records_for lead (told_of store lead hearing.fresh 0 (bits_of lead)) ++ l)
    (the_end store lead x.tape (bits_of lead) o
    ∙ ap (λ (e : Ear). cut_at lead (bits_of lead) e.stand) (t.ear ∙ ap (λ (e : Ear). ear_of store lead e 0 (bits_of lead)) (fresh_ear store lead)))
