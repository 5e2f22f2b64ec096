-- What is made of an answer is what is made of its specification: the answer is the case at hand,
-- and that case says what is specified.
-- Assumes nothing.
use mathlib.Core.Path.{◌≡◌, sym, ap, ◌∙◌}
use mathlib.Core.List.{List}
use Prim.Native.Nat.{ℕ, ◌^◌, ◌<◌}
use lib.IntN.{pos}
use mir.Syntax.{w32, w64}
use mir.Val.{to_z}
use mir.Facts.{to_z_pos}
use Rattle.words.specs.Answer.{Outcome}
use Rattle.abi.specs.Face.{returned, left}

pub carried : {E O B : Type 0} (f : O → B) (says : E → O) {e e' : E} {o : O} → e ≡ e' → says e ≡ o → f (says e') ≡ f o
carried f says {e} {e'} is said = ap f (sym (ap says is) ∙ said)

-- What is left in a lent array, and with it the number that is returned.
module _ {E A : Type 0} (says : E → Outcome A) (number_of : A → ℕ) (put : A → List ℕ → List ℕ) (before : List ℕ) where
  pub lent : {e e' : E} {o : Outcome A} → e ≡ e' → says e ≡ o → left put (says e') before ≡ left put o before
  lent is said = carried (λ (o : Outcome A). left put o before) says is said

  pub faced : {e e' : E} {o : Outcome A} → e ≡ e' → says e ≡ o
      → (returned number_of (says e') ≡ returned number_of o) × (left put (says e') before ≡ left put o before)
  faced is said = (carried (returned number_of) says is said, lent is said)

-- A number below 2 ^ 31 is itself as an `i32`.
pub as_i32 : {n : ℕ} → n < 2 ^ 31 → to_z w32 n ≡ pos n
as_i32 small = to_z_pos w32 small

-- A number below 2 ^ 63 is itself as an `i64`.
pub as_i64 : {n : ℕ} → n < 2 ^ 63 → to_z w64 n ≡ pos n
as_i64 small = to_z_pos w64 small
