-- What an answer of `hear_piece` names is a bit of the piece: whoever asks on from the bit after it
-- comes to the piece's end.
-- Assumes nothing.
use Prim.Native.Nat.{ℕ, ◌+◌, ◌-◌, ◌≤◌, ◌<◌}
use mathlib.Core.Path.{◌≡◌, subst, ap, sym, ◌∙◌}
use mathlib.Core.Bool.{Bool, true, false}
use mathlib.Core.List.{List}
use native.Mathlib.Omega.{arith}
use Rattle.words.specs.Answer.{Outcome, gives, refuses, pick}
use Rattle.telegram.specs.Stretch.{inside}
use Rattle.contact.specs.declared.Judged.{Judged}
use Rattle.antenna.specs.declared.Ear.{Ear}
use Rattle.antenna.specs.declared.Until.{Until}
use Rattle.antenna.specs.Piece.{First, opened_at, first, hear_piece}
use Rattle.antenna.specs.Says.{says_until}
use Rattle.antenna.proofs.Within.{Within, within}

came : (x : Bool) (w y : First) → gives y ≡ pick {A = Outcome First} x (gives w) (refuses 5) → w ≡ y
came true w y h = cc
came false w y h = cc

module _ (e : Ear) (b : List ℕ) (i n s t : ℕ) (r : Until) (said : says_until r ≡ hear_piece e b i n s t) where
  at_bit : (y : First) → says_until r ≡ gives y → Within i (i + n) y
  unfolding hear_piece
  at_bit y is = subst (Within i (i + n)) (came (inside b i n) (first b s t e i n) y (sym is ∙ said)) (within b s t n i e)

  pub opened_at_law : {f : Ear} {at : ℕ} → r ≡ Until.Opened f at → (i ≤ at) × (at < i + n)
  opened_at_law {f} {at} is = at_bit (opened_at f at) (ap says_until is)

  pub closed_at : {f : Ear} {at length : ℕ} {judged : Judged} → r ≡ Until.Closed f at length judged → (i ≤ at) × (at < i + n)
  closed_at {f} {at} {length} {judged} is = at_bit _ (ap says_until is)

-- Asked from bit i of n bits on: the bit after what came lies further on, and not beyond them.
abbrev pub On : ℕ → ℕ → ℕ → Type 0
On i n at = (at + 1 ≤ n) × (n - (at + 1) < n - i)

module _ (e : Ear) (b : List ℕ) (i n s t : ℕ) (r : Until) (said : says_until r ≡ hear_piece e b i (n - i) s t) (low : i < n) where
  on : (at : ℕ) → (i ≤ at) × (at < i + (n - i)) → On i n at
  on at there = (omega (arith, there.1), omega (arith, there.0, there.1))

  pub opened_on : {f : Ear} {at : ℕ} → r ≡ Until.Opened f at → On i n at
  opened_on {f} {at} is = on at (opened_at_law e b i (n - i) s t r said is)

  pub closed_on : {f : Ear} {at length : ℕ} {judged : Judged} → r ≡ Until.Closed f at length judged → On i n at
  closed_on {f} {at} is = on at (closed_at e b i (n - i) s t r said is)
