-- Asked on and on, each time from where the answer stood, frames give the records that come of
-- them.
-- Assumes nothing.
use Prim.Native.Nat.{ℕ, zero, suc, ◌+◌, ◌-◌, ◌≤◌, ◌<◌}
use mathlib.Core.Path.{◌≡◌, refl, sym, ap, ◌∙◌}
use mathlib.Core.Bool.{Bool, true, false}
use mathlib.Core.List.{List, ◌∷◌}
use native.Mathlib.Omega.{arith}
use lib.Dec.{ltb}
use borrow.Author.Tests.{ltb-true, ltb-false, le-ltb}
use Rattle.words.specs.Answer.{pick}
use Rattle.telegram.specs.Stretch.{bit_at}
use Rattle.settings.specs.declared.Store.{Store}
use Rattle.antenna.specs.declared.Stand.{Stand}
use Rattle.antenna.specs.Hearing.{Step, nothing, opened, closed, hear}
use Rattle.recorder.specs.Record.{bytes_of, blank}
use Rattle.std.specs.Prelude.{Some}
use Rattle.recording.specs.declared.Tape.{Tape}
use Rattle.recording.specs.Frame.{line_of}
use Rattle.recording.specs.Kept.{record_at}
use Rattle.recording.specs.Recording.{Taped, silent, and_then, hears_on, opens, closes, positioned, after_step, over_bits, is_due, position, after_frame_meant, held_at, in_frame_meant, its_bits, over_frames, frames_of, is_above, last_position, cut_in, the_end_meant}
use Rattle.recording.specs.Asking.{InBits, recorded_at, heard_out, or_on, first_in, Going, gave, used_up, or_next, first_of, one, none, finish_in, finish}
use Rattle.recording.specs.Laws.{then_taped, AskedOn, Asked, over, more, AskedAll, then_ended, EndAsked}
use Rattle.recording.proofs.Turning.{still, goes}

-- ---- in a frame

-- A record came within these bits, and the odometer in force is the same.
abbrev pub Fine : ℕ → ℕ → ℕ → InBits → Type 0
Fine odometer from end (recorded_at t j bytes) = (t.odometer ≡ odometer) × (from ≤ j) × (j < end)
Fine odometer from end (heard_out t) = t.odometer ≡ odometer

wider : (o i n : ℕ) (w : InBits) → Fine o (i + 1) (i + 1 + n) w → Fine o i (i + suc n) w
wider o i n (recorded_at t j bytes) (e, low, high) = (e, omega arith, omega arith)
wider o i n (heard_out t) e = e

module _ (b : List ℕ) (s t : ℕ) where
  abbrev then_bits : ℕ → InBits → Taped
  then_bits end (recorded_at tape j bytes) =
      let rest = over_bits b s t tape (j + 1) (end - (j + 1)) in
      record { tape = rest.tape; records = bytes ∷ rest.records }
  then_bits end (heard_out tape) = silent tape

  fine_step : (tape : Tape) (i n : ℕ) (x : Step) → ((next : Tape) → Fine next.odometer (i + 1) (i + 1 + n) (first_in b s t next (i + 1) n))
      → Fine tape.odometer i (i + suc n) (or_on tape i x (λ next. first_in b s t next (i + 1) n))
  fine_step tape i n (nothing e) on = wider tape.odometer i n (first_in b s t (hears_on tape e) (i + 1) n) (on (hears_on tape e))
  fine_step tape i n (opened e) on = wider tape.odometer i n (first_in b s t (opens tape e) (i + 1) n) (on (opens tape e))
  fine_step tape i n (closed e length judgement) on = (refl, omega arith, omega arith)

  pub fine : (n : ℕ) (tape : Tape) (i : ℕ) → Fine tape.odometer i (i + n) (first_in b s t tape i n)
  unfolding first_in
  fine zero tape i = refl
  fine (suc n) tape i = fine_step tape i n (hear tape.ear (bit_at b i) s t) (λ next. fine n next (i + 1))

  by_step : (tape : Tape) (i n : ℕ) (x : Step) → ((next : Tape) → over_bits b s t next (i + 1) n ≡ then_bits (i + 1 + n) (first_in b s t next (i + 1) n))
      → and_then (after_step tape x) (λ next. over_bits b s t next (i + 1) n) ≡ then_bits (i + suc n) (or_on tape i x (λ next. first_in b s t next (i + 1) n))
  by_step tape i n (nothing e) on =
      let m : i + 1 + n ≡ i + suc n = omega arith in
      on (hears_on tape e) ∙ ap (λ (z : ℕ). then_bits z (first_in b s t (hears_on tape e) (i + 1) n)) m
  by_step tape i n (opened e) on =
      let m : i + 1 + n ≡ i + suc n = omega arith in
      on (opens tape e) ∙ ap (λ (z : ℕ). then_bits z (first_in b s t (opens tape e) (i + 1) n)) m
  by_step tape i n (closed e length judgement) on =
      let m : n ≡ i + suc n - (i + 1) = omega arith in
      ap (λ (z : ℕ). record { tape = (over_bits b s t (closes tape e) (i + 1) z).tape; records = record_at tape.opened judgement ∷ (over_bits b s t (closes tape e) (i + 1) z).records }) m

  bits_on : (n : ℕ) (tape : Tape) (i : ℕ) → over_bits b s t tape i n ≡ then_bits (i + n) (first_in b s t tape i n)
  unfolding over_bits first_in
  bits_on zero tape i = refl
  bits_on (suc n) tape i = by_step tape i n (hear tape.ear (bit_at b i) s t) (λ next. bits_on n next (i + 1))

-- ---- in frames

abbrev with_one : List ℕ → Taped → Taped
with_one bytes x = record { tape = x.tape; records = bytes ∷ x.records }

module _ (store : Store) (lead : List ℕ) where
  abbrev then : ℕ → Going → Taped
  then end (gave tape k i bytes) =
      let rest = over_frames store lead tape k i (end - k) in
      record { tape = rest.tape; records = bytes ∷ rest.records }
  then end (used_up tape k i) = silent tape

  -- What is left of frame k and the n frames after it.
  abbrev rest_of : ℕ → ℕ → Tape → Taped
  rest_of k n next = and_then (after_frame_meant next) (λ after. over_frames store lead after (k + 1) 0 n)

  due_or_on : (tape : Tape) (k n : ℕ) (b : Bool) → is_due tape ≡ b → ((next : Tape) → over_frames store lead next (k + 1) 0 n ≡ then (k + 1 + n) (first_of store lead next (k + 1) 0 n))
      → rest_of k n tape ≡ then (k + suc n) (pick b (gave (positioned tape) (k + 1) 0 (bytes_of tape.odometer (blank 3))) (first_of store lead tape (k + 1) 0 n))
  unfolding after_frame_meant
  due_or_on tape k n true e on =
      let m : n ≡ k + suc n - (k + 1) = omega arith in
      rw e (ap (λ (z : ℕ). record { tape = (over_frames store lead (positioned tape) (k + 1) 0 z).tape; records = bytes_of tape.odometer (blank 3) ∷ (over_frames store lead (positioned tape) (k + 1) 0 z).records }) m)
  due_or_on tape k n false e on =
      let m : k + 1 + n ≡ k + suc n = omega arith in
      rw e (on tape ∙ ap (λ (z : ℕ). then z (first_of store lead tape (k + 1) 0 n)) m)

  -- The bits of a frame that the tape is in already.
  in_it : (tape t : Tape) (k i : ℕ) → t.odometer ≡ (in_frame_meant store lead k tape).odometer
      → its_bits store lead k i t ≡ over_bits (line_of lead k) (held_at store (in_frame_meant store lead k tape).odometer).s (held_at store (in_frame_meant store lead k tape).odometer).t t i (96 - i)
  unfolding its_bits
  in_it tape t k i e =
      let f = still store lead tape t k e in
      ap (λ (z : Tape). over_bits (line_of lead k) (held_at store z.odometer).s (held_at store z.odometer).t z i (96 - i)) f
      ∙ ap (λ (z : ℕ). over_bits (line_of lead k) (held_at store z).s (held_at store z).t t i (96 - i)) e

  -- The line of frame k from bit i on, with the tape in it, by what comes first there.
  by_bits : (tape : Tape) (k i n : ℕ) (w : InBits)
      → Fine (in_frame_meant store lead k tape).odometer i (i + (96 - i)) w
      → ((next : Tape) → over_frames store lead next (k + 1) 0 n ≡ then (k + 1 + n) (first_of store lead next (k + 1) 0 n))
      → and_then (then_bits (line_of lead k) (held_at store (in_frame_meant store lead k tape).odometer).s (held_at store (in_frame_meant store lead k tape).odometer).t (i + (96 - i)) w) (rest_of k n)
      ≡ then (k + suc n) (or_next k w (λ next. first_of store lead next (k + 1) 0 n))
  unfolding over_frames
  by_bits tape k i n (heard_out t) f on = due_or_on t k n (is_due t) refl on
  by_bits tape k i n (recorded_at t j bytes) (e, low, high) on =
      let m : i + (96 - i) - (j + 1) ≡ 96 - (j + 1) = omega arith in
      let x : suc n ≡ k + suc n - k = omega arith in
      let o = (in_frame_meant store lead k tape).odometer in
      ap (λ (z : ℕ). with_one bytes (and_then (over_bits (line_of lead k) (held_at store o).s (held_at store o).t t (j + 1) z) (rest_of k n))) m
      ∙ ap (λ (z : Taped). with_one bytes (and_then z (rest_of k n))) (sym (in_it tape t k (j + 1) e))
      ∙ ap (λ (z : ℕ). with_one bytes (over_frames store lead t k (j + 1) z)) x

  frames_on : (n : ℕ) (tape : Tape) (k i : ℕ) → over_frames store lead tape k i n ≡ then (k + n) (first_of store lead tape k i n)
  unfolding over_frames its_bits first_of
  frames_on zero tape k i = refl
  frames_on (suc n) tape k i =
      let here = in_frame_meant store lead k tape in
      let held = held_at store here.odometer in
      ap (λ (x : Taped). and_then x (rest_of k n)) (bits_on (line_of lead k) held.s held.t (96 - i) here i)
      ∙ by_bits tape k i n (first_in (line_of lead k) held.s held.t here i (96 - i)) (fine (line_of lead k) held.s held.t (96 - i) here i) (λ next. frames_on n next (k + 1) 0)

-- Where no frame is left, nothing comes.
nothing_left : (store : Store) (lead : List ℕ) (tape : Tape) (k i n : ℕ) → n ≡ 0 → over_frames store lead tape k i n ≡ then_taped store lead (first_of store lead tape k i n)
unfolding over_frames first_of
nothing_left store lead tape k i n e = rw e

same_then : (store : Store) (lead : List ℕ) (end : ℕ) → end ≡ frames_of lead → (g : Going) → then store lead end g ≡ then_taped store lead g
same_then store lead end e (gave tape k i bytes) = ap (λ (z : ℕ). with_one bytes (over_frames store lead tape k i (z - k))) e
same_then store lead end e (used_up tape k i) = refl

on_by : (store : Store) (lead : List ℕ) (tape : Tape) (k i : ℕ) (b : Bool) → ltb k (frames_of lead) ≡ b
    → over_frames store lead tape k i (frames_of lead - k) ≡ then_taped store lead (first_of store lead tape k i (frames_of lead - k))
on_by store lead tape k i true e =
    let low : k < frames_of lead = ltb-true k (frames_of lead) e in
    let m : k + (frames_of lead - k) ≡ frames_of lead = omega arith in
    frames_on store lead (frames_of lead - k) tape k i ∙ same_then store lead (k + (frames_of lead - k)) m (first_of store lead tape k i (frames_of lead - k))
on_by store lead tape k i false e =
    let high : frames_of lead ≤ k = ltb-false k (frames_of lead) e in
    let m : frames_of lead - k ≡ 0 = omega arith in
    nothing_left store lead tape k i (frames_of lead - k) m

pub asked_on : AskedOn
asked_on store lead tape k i =
    on_by store lead tape k i (ltb k (frames_of lead)) refl ∙ ap (λ (g : Going). then_taped store lead g) (sym (goes store lead tape k i))

-- ---- all answers

from_there : (store : Store) (lead : List ℕ) {tape last : Tape} {k i : ℕ} {records : List (List ℕ)} → Asked store lead tape k i records last
    → over_frames store lead tape k i (frames_of lead - k) ≡ record { tape = last; records = records }
from_there store lead {tape} {last} {k} {i} (over e) = asked_on store lead tape k i ∙ ap (λ (g : Going). then_taped store lead g) e
from_there store lead {tape} {last} {k} {i} (more {bytes = bytes} e rest) =
    asked_on store lead tape k i ∙ ap (λ (g : Going). then_taped store lead g) e ∙ ap (λ (x : Taped). with_one bytes x) (from_there store lead rest)

pub asked_all : AskedAll
asked_all store lead tape last records h =
    let z : frames_of lead ≡ frames_of lead - 0 = omega arith in
    ap (λ (n : ℕ). over_frames store lead tape 0 0 n) z ∙ from_there store lead h

-- ---- the end

above_by : (tape : Tape) (b : Bool) → is_above tape.last tape.odometer ≡ b → tape.ear.stand ≡ Stand.Outside
    → pick b (position tape) (silent tape) ≡ then_ended (pick b (one (positioned tape) (bytes_of tape.odometer (blank 3))) (none tape))
unfolding the_end_meant last_position
above_by tape true e out =
    let n : is_above (Some tape.odometer) tape.odometer ≡ false = le-ltb tape.odometer tape.odometer (omega arith) in
    rw (out, n)
above_by tape false e out = refl

by_stand : (tape : Tape) (stand : Stand) → tape.ear.stand ≡ stand → and_then (cut_in stand tape) last_position ≡ then_ended (finish_in stand tape)
unfolding the_end_meant last_position
by_stand tape (Stand.Inside sound) e = refl
by_stand tape Stand.Outside e = above_by tape (is_above tape.last tape.odometer) refl e

pub end_asked : EndAsked
unfolding the_end_meant finish
end_asked tape = by_stand tape tape.ear.stand refl
