-- An answer picked by tests, one after the other, is decided by their rules in that order.
-- Assumes nothing.
use mathlib.Core.Path.{◌≡◌, refl, sym, subst}
use mathlib.Core.Bool.{Bool, true, false, not}
use mathlib.Core.List.{List, ◌∷◌}
use Prim.Native.Nat.{ℕ}
use lib.Dec.{T}
use Rattle.words.specs.Answer.{gives, refuses, pick}
use Rattle.demands.specs.Rules.{Rule, Decided, Given}
use Rattle.words.proofs.Never.{cannot_be}

pub true_not_false : true ≡ false → ⊥
true_not_false e = subst T e tt

module _ {A : Type 0} (Reading : A → Type 0) (rules : List (Rule A)) (answer o : A) (rest : Decided Reading rules o) where
  -- the test asks for the refusal
  pub if_so : (t : Bool) → Decided Reading (record { holds = t; answer = answer } ∷ rules) (pick t answer o)
  if_so true = (λ e. refl, λ e. absurd (true_not_false e))
  if_so false = (λ e. absurd (true_not_false (sym e)), λ e. rest)

  -- the test asks for what goes on
  pub if_not : (t : Bool) → Decided Reading (record { holds = not t; answer = answer } ∷ rules) (pick t o answer)
  if_not true = (λ e. absurd (true_not_false (sym e)), λ e. rest)
  if_not false = (λ e. refl, λ e. absurd (true_not_false e))

-- A refusal gives nothing.
pub never : {A : Type 0} {m : A} (n : ℕ) → refuses n ≡ gives m → ⊥
never n e = cannot_be cc

-- What gives something is a reading.
pub given : {A : Type 0} (x : A) → Given {R = ℕ} (gives x)
given x = (x, refl)
