-- What a list decides of an answer, it decides of whatever is told of that answer; a number below 0
-- tells of a refusal, which leaves a lent array as it was.
-- Assumes nothing.
use mathlib.Core.Path.{◌≡◌, refl, ap, subst}
use mathlib.Core.Bool.{Bool, true, false}
use mathlib.Core.List.{List, [], ◌∷◌}
use Prim.Native.Nat.{ℕ, suc}
use lib.Dec.{T}
use lib.IntN.{ℤ, pos, negsuc, neg_ℤ}
use Rattle.words.specs.Answer.{Outcome, gives, refuses}
use Rattle.abi.specs.Face.{returned, left}
use Rattle.demands.specs.Rules.{Rule, Decided}
use Rattle.abi_laws.specs.Demand1.{told_by, Told, Refused}

-- one list, told
module _ {A B : Type 0} (tell : A → B) (Reading : A → Type 0) where
  pub decided_told : (rules : List (Rule A)) (o : A) → Decided Reading rules o → Decided (Told tell Reading) (told_by tell rules) (tell o)
  decided_told [] o d = (o, d, refl)
  decided_told (rule ∷ rules) o d = (λ h. ap tell (d.0 h), λ h. decided_told rules o (d.1 h))

-- Whether a number is 0 or above.
abbrev not_below : ℤ → Bool
not_below (pos n) = true
not_below (negsuc n) = false

-- A natural number is none below 0.
pub never_below : (k n : ℕ) → pos k ≡ neg_ℤ (pos (suc n)) → ⊥
never_below k n e = subst T (ap not_below e) tt

-- A refusal leaves a lent array as it was.
pub left_as_it_was : {A : Type 0} (number_of : A → ℕ) (put : A → List ℕ → List ℕ) (o : Outcome A) (before : List ℕ)
    → Refused (returned number_of o) → left put o before ≡ before
left_as_it_was number_of put (gives x) before (n, e) = absurd (never_below (number_of x) n e)
left_as_it_was number_of put (refuses n) before e = refl

-- A number below 0 tells of a refusal.
pub is_refusal : {A : Type 0} (number_of : A → ℕ) (o : Outcome A) → Refused (returned number_of o) → (n : ℕ) × (o ≡ refuses n)
is_refusal number_of (gives x) (n, e) = absurd (never_below (number_of x) n e)
is_refusal number_of (refuses n) e = (n, refl)
