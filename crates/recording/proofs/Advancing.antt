-- Each record is handed out from further on: what is left falls, so that whoever asks on and on
-- comes to the end.
-- Assumes nothing.
use Prim.Native.Nat.{ℕ, zero, suc, ◌+◌, ◌-◌, ◌*◌, ◌≤◌, ◌<◌}
use mathlib.Core.Path.{◌≡◌, refl, sym, ap, ◌∙◌, subst}
use mathlib.Core.Bool.{Bool, true, false}
use mathlib.Core.List.{List}
use native.Mathlib.Omega.{arith}
use lib.Dec.{ltb}
use borrow.Author.Tests.{ltb-true, ltb-false}
use Rattle.words.specs.Answer.{pick}
use Rattle.settings.specs.declared.Store.{Store}
use Rattle.recorder.specs.Record.{bytes_of, blank}
use Rattle.recording.specs.declared.Tape.{Tape}
use Rattle.std.specs.Prelude.{Option, Some}
use Rattle.recording.specs.declared.Taken.{Taken}
use Rattle.recording.specs.Frame.{line_of}
use Rattle.recording.specs.Recording.{positioned, is_due, held_at, in_frame_meant, frames_of}
use Rattle.recording.specs.Asking.{InBits, recorded_at, heard_out, first_in, Going, gave, used_up, or_next, first_of, go_on}
use Rattle.recording.specs.Says.{says_came, says_taken}
use Rattle.recording.proofs.Asking.{Fine, fine}
use Rattle.recording.proofs.Turning.{goes}

-- What is left from bit i of frame k on, of n frames.
abbrev pub left : ℕ → ℕ → ℕ → ℕ
left n k i = 98 * (n - k) + (97 - i)

abbrev Less : ℕ → ℕ → Going → Type 0
Less n m (gave tape k i bytes) = left n k i < m
Less n m (used_up tape k i) = Unit

less_on : (n m l : ℕ) (g : Going) → m ≤ l → Less n m g → Less n l g
less_on n m l (gave tape k i bytes) h a = omega arith
less_on n m l (used_up tape k i) h a = tt

module _ (store : Store) (lead : List ℕ) where
  due_or_on : (tape : Tape) (k i n : ℕ) (b : Bool) → Less (k + 1 + n) (left (k + 1 + n) (k + 1) 0) (first_of store lead tape (k + 1) 0 n)
      → Less (k + suc n) (left (k + suc n) k i) (pick b (gave (positioned tape) (k + 1) 0 (bytes_of tape.odometer (blank 3))) (first_of store lead tape (k + 1) 0 n))
  due_or_on tape k i n true on = omega arith
  due_or_on tape k i n false on =
      let m : k + 1 + n ≡ k + suc n = omega arith in
      less_on (k + suc n) (left (k + 1 + n) (k + 1) 0) (left (k + suc n) k i) (first_of store lead tape (k + 1) 0 n) (omega arith)
      (subst (λ (z : ℕ). Less z (left (k + 1 + n) (k + 1) 0) (first_of store lead tape (k + 1) 0 n)) m on)

  by_bits : (o k i n : ℕ) (w : InBits) → Fine o i (i + (96 - i)) w → ((t : Tape) → Less (k + 1 + n) (left (k + 1 + n) (k + 1) 0) (first_of store lead t (k + 1) 0 n))
      → Less (k + suc n) (left (k + suc n) k i) (or_next k w (λ next. first_of store lead next (k + 1) 0 n))
  by_bits o k i n (recorded_at t j bytes) (e, low, high) on = omega arith
  by_bits o k i n (heard_out t) e on = due_or_on t k i n (is_due t) (on t)

  less : (n : ℕ) (tape : Tape) (k i : ℕ) → Less (k + n) (left (k + n) k i) (first_of store lead tape k i n)
  unfolding first_of
  less zero tape k i = tt
  less (suc n) tape k i =
      let here = in_frame_meant store lead k tape in
      let held = held_at store here.odometer in
      by_bits here.odometer k i n (first_in (line_of lead k) held.s held.t here i (96 - i)) (fine (line_of lead k) held.s held.t (96 - i) here i) (λ t. less n t (k + 1) 0)

  none_left : (m l : ℕ) (tape : Tape) (k i n : ℕ) → n ≡ 0 → Less m l (first_of store lead tape k i n)
  unfolding first_of
  none_left m l tape k i n e = rw e tt

  by_place : (tape : Tape) (k i : ℕ) (b : Bool) → ltb k (frames_of lead) ≡ b → Less (frames_of lead) (left (frames_of lead) k i) (first_of store lead tape k i (frames_of lead - k))
  by_place tape k i true e =
      let low : k < frames_of lead = ltb-true k (frames_of lead) e in
      let m : k + (frames_of lead - k) ≡ frames_of lead = omega arith in
      subst (λ (z : ℕ). Less z (left z k i) (first_of store lead tape k i (frames_of lead - k))) m (less (frames_of lead - k) tape k i)
  by_place tape k i false e =
      let high : frames_of lead ≤ k = ltb-false k (frames_of lead) e in
      let m : frames_of lead - k ≡ 0 = omega arith in
      none_left (frames_of lead) (left (frames_of lead) k i) tape k i (frames_of lead - k) m

  -- Of an answer of `go_on` with a record.
  pub advances : (tape : Tape) (k i : ℕ) (r : Taken) (bytes : List ℕ) → says_taken r ≡ go_on store lead tape k i → r.came ≡ Some bytes → left (frames_of lead) r.frame r.bit < left (frames_of lead) k i
  advances tape k i r bytes e came =
      let is : gave r.tape r.frame r.bit bytes ≡ first_of store lead tape k i (frames_of lead - k) =
      sym (ap (λ (z : Option (List ℕ)). says_came z r.tape r.frame r.bit) came) ∙ e ∙ goes store lead tape k i in
      subst (λ (z : Going). Less (frames_of lead) (left (frames_of lead) k i) z) (sym is) (by_place tape k i (ltb k (frames_of lead)) refl)
