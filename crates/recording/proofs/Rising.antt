-- No record of a recorded trace is refused: every bit, every frame and the end keep a tape steady.
-- Assumes nothing.
use Prim.Native.Nat.{ℕ, zero, suc, ◌+◌, ◌-◌, ◌≤◌}
use mathlib.Core.Path.{◌≡◌, refl, ap, ◌∙◌, subst, subst⁻¹}
use mathlib.Core.Bool.{Bool, true, false}
use mathlib.Core.List.{List}
use native.Mathlib.Omega.{arith}
use lib.Dec.{ltb}
use borrow.Author.Tests.{ltb-false}
use Rattle.words.specs.Answer.{pick}
use Rattle.words.proofs.Never.{cannot_be}
use Rattle.telegram.specs.Stretch.{bit_at}
use Rattle.settings.specs.declared.Store.{Store}
use Rattle.antenna.specs.declared.Stand.{Stand}
use Rattle.antenna.specs.declared.Ear.{Ear}
use Rattle.antenna.specs.Hearing.{Step, nothing, opened, closed, hear}
use Rattle.antenna.specs.Hearing as hearing
use Rattle.antenna.specs.Sound.{begun, with_bit, judged}
use Rattle.contact.specs.History.{after, opens as opens_now, closes as closes_now}
use Rattle.recorder.specs.Record.{bytes_of, blank}
use Rattle.std.specs.Prelude.{Option}
use Rattle.recording.specs.declared.Tape.{Tape}
use Rattle.recording.specs.Frame.{line_of, odometer_of as frame_odometer, accepted_after}
use Rattle.recording.specs.Kept.{record_at}
use Rattle.recording.specs.Recording.{fresh, silent, and_then, hears_on, opens, closes, positioned, cut, after_step, over_bits, is_due, due_in, position, after_frame_meant, held_at, in_frame_meant, its_bits, over_frames, frames_of, over_lead, is_above, last_position, cut_in, the_end_meant, recorded}
use Rattle.recording.specs.Rising.{AllAccepted, NoneRefused}
use Rattle.recording.proofs.Accepting.{blank_made, contact_made}
use Rattle.recording.proofs.Steady.{last_of, final, OpenWithin, Steady, Rises, all_join, final_join, rises_then, rises_silent, rises_one}

-- ---- a bit, by where the ear stands before and after it

-- What a bit can bring: it opens a contact outside one, and closes one inside.
abbrev Brings : Stand → Step → Type 0
Brings Stand.Outside (nothing ear) = ear.stand ≡ Stand.Outside
Brings Stand.Outside (opened ear) = Unit
Brings Stand.Outside (closed ear length judgement) = ⊥
Brings (Stand.Inside sound) (nothing ear) = Unit
Brings (Stand.Inside sound) (opened ear) = ⊥
Brings (Stand.Inside sound) (closed ear length judgement) = ear.stand ≡ Stand.Outside

brings_by : (stand : Stand) (now bit s t : ℕ) → Brings stand (hearing.standing stand now bit s t)
brings_by Stand.Outside now bit s t = go (opens_now now)
  where
    go : (b : Bool) → Brings Stand.Outside (pick b (opened (record { history = now; stand = Stand.Inside (with_bit (begun s t) bit) })) (nothing (record { history = now; stand = Stand.Outside })))
    go true = tt
    go false = refl
brings_by (Stand.Inside sound) now bit s t = go (closes_now now)
  where
    go : (b : Bool) → Brings (Stand.Inside sound) (pick b (closed (record { history = now; stand = Stand.Outside }) sound.length (judged sound)) (nothing (record { history = now; stand = Stand.Inside (with_bit sound bit) })))
    go true = refl
    go false = tt

brings : (ear : Ear) (bit s t : ℕ) → Brings ear.stand (hear ear bit s t)
unfolding hear
brings ear bit s t = brings_by ear.stand (after ear.history bit) bit s t

within : (stand : Stand) (t : Tape) → last_of t.last ≤ t.opened → t.opened ≤ t.odometer → OpenWithin stand t
within Stand.Outside t a b = tt
within (Stand.Inside sound) t a b = (a, b)

outside : (stand : Stand) (t : Tape) → stand ≡ Stand.Outside → OpenWithin stand t
outside stand t e = subst⁻¹ (λ (x : Stand). OpenWithin x t) e tt

by_stand : (tape : Tape) (stand : Stand) (x : Step) → tape.ear.stand ≡ stand → Brings stand x → Steady tape → Rises tape (after_step tape x)
by_stand tape Stand.Outside (nothing ear) e b s =
    rises_silent tape (hears_on tape ear) refl (record { high = s.high; last = s.last; opened = outside ear.stand (hears_on tape ear) b })
by_stand tape Stand.Outside (opened ear) e b s =
    rises_silent tape (opens tape ear) refl (record { high = s.high; last = s.last; opened = within ear.stand (opens tape ear) s.last (omega arith) })
by_stand tape Stand.Outside (closed ear length judgement) e b s = absurd b
by_stand tape (Stand.Inside sound) (nothing ear) e b s =
    let o : OpenWithin (Stand.Inside sound) tape = subst (λ (z : Stand). OpenWithin z tape) e s.opened in
    rises_silent tape (hears_on tape ear) refl (record { high = s.high; last = s.last; opened = within ear.stand (hears_on tape ear) o.0 o.1 })
by_stand tape (Stand.Inside sound) (opened ear) e b s = absurd b
by_stand tape (Stand.Inside sound) (closed ear length judgement) e b s =
    let o : OpenWithin (Stand.Inside sound) tape = subst (λ (z : Stand). OpenWithin z tape) e s.opened in
    let h = s.high in
    rises_one tape (closes tape ear) tape.opened (record_at tape.opened judgement) (contact_made tape.opened judgement) o.0 (omega arith) refl
    (record { high = h; last = o.1; opened = outside ear.stand (closes tape ear) b })

bits_rise : (b : List ℕ) (s t n : ℕ) (tape : Tape) (i : ℕ) → Steady tape → Rises tape (over_bits b s t tape i n)
unfolding over_bits
bits_rise b s t zero tape i h = rises_silent tape tape refl h
bits_rise b s t (suc n) tape i h =
    let x = hear tape.ear (bit_at b i) s t in
    rises_then tape (after_step tape x) (λ next. over_bits b s t next (i + 1) n) (by_stand tape tape.ear.stand x refl (brings tape.ear (bit_at b i) s t) h)
    (λ next k. bits_rise b s t n next (i + 1) k)

-- ---- a frame

position_rises : (tape : Tape) → Steady tape → tape.ear.stand ≡ Stand.Outside → Rises tape (position tape)
position_rises tape s e =
    rises_one tape (positioned tape) tape.odometer (bytes_of tape.odometer (blank 3)) (blank_made tape.odometer).2 s.last s.high refl
    (record { high = s.high; last = omega arith; opened = outside tape.ear.stand (positioned tape) e })

not_due : {A : Type 0} → false ≡ true → A
not_due e = cannot_be cc

due_outside : (stand : Stand) (last : (Option ℕ)) (odometer : ℕ) → due_in stand last odometer ≡ true → stand ≡ Stand.Outside
due_outside Stand.Outside last odometer e = refl
due_outside (Stand.Inside sound) last odometer e = not_due e

after_by : (tape : Tape) (b : Bool) → is_due tape ≡ b → Steady tape → Rises tape (pick b (position tape) (silent tape))
after_by tape true e s = position_rises tape s (due_outside tape.ear.stand tape.last tape.odometer e)
after_by tape false e s = rises_silent tape tape refl s

after_rises : (tape : Tape) → Steady tape → Rises tape (after_frame_meant tape)
unfolding after_frame_meant
after_rises tape s = after_by tape (is_due tape) refl s

accepted_by : (b c : Bool) (last given : ℕ) → ltb 4000000000 given ≡ b → ltb given last ≡ c → last ≤ 4000000000
    → (last ≤ pick b last (pick c last given)) × (pick b last (pick c last given) ≤ 4000000000)
accepted_by true c last given e f h = (omega arith, h)
accepted_by false true last given e f h = (omega arith, h)
accepted_by false false last given e f h = (ltb-false given last f, ltb-false 4000000000 given e)

accepted_is : (last given : ℕ) → last ≤ 4000000000 → (last ≤ accepted_after last given) × (accepted_after last given ≤ 4000000000)
unfolding accepted_after
accepted_is last given h = accepted_by (ltb 4000000000 given) (ltb given last) last given refl refl h

higher : (stand : Stand) (tape next : Tape) → next.last ≡ tape.last → next.opened ≡ tape.opened → tape.odometer ≤ next.odometer → OpenWithin stand tape → OpenWithin stand next
higher Stand.Outside tape next e f h o = tt
higher (Stand.Inside sound) tape next e f h (a, b) = let g : last_of next.last ≡ last_of tape.last = ap last_of e in (omega arith, omega arith)

module _ (store : Store) (lead : List ℕ) where
  in_frame : (k : ℕ) (tape : Tape) → Steady tape → Steady (in_frame_meant store lead k tape)
  in_frame k tape s =
      let a = accepted_is tape.odometer (frame_odometer lead k) s.high in
      let l = s.last in
      let low = a.0 in
      record { high = a.1; last = omega arith; opened = higher tape.ear.stand tape (in_frame_meant store lead k tape) refl refl a.0 s.opened }

  its_rise : (k i : ℕ) (tape : Tape) → Steady tape → Rises tape (its_bits store lead k i tape)
  unfolding its_bits
  its_rise k i tape s =
      let here = in_frame_meant store lead k tape in
      let held = held_at store here.odometer in
      let r = bits_rise (line_of lead k) held.s held.t (96 - i) here i (in_frame k tape s) in
      record { steady = r.steady; all = r.all; ends = r.ends }

  frames_rise : (n : ℕ) (tape : Tape) (k i : ℕ) → Steady tape → Rises tape (over_frames store lead tape k i n)
  unfolding over_frames
  frames_rise zero tape k i s = rises_silent tape tape refl s
  frames_rise (suc n) tape k i s =
      rises_then tape (its_bits store lead k i tape) (λ next. and_then (after_frame_meant next) λ after. over_frames store lead after (k + 1) 0 n) (its_rise k i tape s)
      (λ next h. rises_then next (after_frame_meant next) (λ after. over_frames store lead after (k + 1) 0 n) (after_rises next h) (λ after g. frames_rise n after (k + 1) 0 g))

-- ---- the end

cut_rises : (tape : Tape) (stand : Stand) → tape.ear.stand ≡ stand → Steady tape → Rises tape (cut_in stand tape)
cut_rises tape Stand.Outside e s = rises_silent tape tape refl s
cut_rises tape (Stand.Inside sound) e s =
    let o : OpenWithin (Stand.Inside sound) tape = subst (λ (z : Stand). OpenWithin z tape) e s.opened in
    let h = s.high in
    rises_one tape (cut tape) tape.opened (bytes_of tape.opened (blank 2)) (blank_made tape.opened).1 o.0 (omega arith) refl (record { high = h; last = o.1; opened = tt })

-- After it no contact is open.
outside_after : (tape : Tape) (stand : Stand) → tape.ear.stand ≡ stand → (cut_in stand tape).tape.ear.stand ≡ Stand.Outside
outside_after tape Stand.Outside e = e
outside_after tape (Stand.Inside sound) e = refl

last_by : (tape : Tape) (b : Bool) → Steady tape → tape.ear.stand ≡ Stand.Outside → Rises tape (pick b (position tape) (silent tape))
last_by tape true s e = position_rises tape s e
last_by tape false s e = rises_silent tape tape refl s

last_rises : (tape : Tape) → Steady tape → tape.ear.stand ≡ Stand.Outside → Rises tape (last_position tape)
unfolding last_position
last_rises tape s e = last_by tape (is_above tape.last tape.odometer) s e

end_rises : (tape : Tape) → Steady tape → Rises tape (the_end_meant tape)
unfolding the_end_meant
end_rises tape s =
    let c = cut_rises tape tape.ear.stand refl s in
    let x = cut_in tape.ear.stand tape in
    let l = last_rises x.tape c.steady (outside_after tape tape.ear.stand refl) in
    record {
      steady = l.steady;
      all = all_join (last_of tape.last) x.records (last_position x.tape).records c.all (subst⁻¹ (λ (z : ℕ). AllAccepted z (last_position x.tape).records) c.ends l.all);
      ends = final_join (last_of tape.last) x.records (last_position x.tape).records ∙ ap (λ (z : ℕ). final z (last_position x.tape).records) c.ends ∙ l.ends;
    }

fresh_steady : Steady fresh
unfolding fresh hearing.fresh
fresh_steady = record { high = omega arith; last = omega arith; opened = tt }

fresh_none : last_of fresh.last ≡ 0
unfolding fresh
fresh_none = refl

pub none_refused : NoneRefused
unfolding recorded
none_refused store lead =
    let r = rises_then fresh (over_lead store lead fresh) the_end_meant (frames_rise store lead (frames_of lead) fresh 0 0 fresh_steady) end_rises in
    subst (λ (z : ℕ). AllAccepted z (recorded store lead)) fresh_none r.all
