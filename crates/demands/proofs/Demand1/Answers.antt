-- An answer whose refusal can only have one number is decided by that number's row.
-- Assumes nothing.
use mathlib.Core.Path.{◌≡◌, refl, sym, ap, ◌∙◌}
use mathlib.Core.Bool.{Bool, true, false, ◌||◌}
use mathlib.Core.List.{[], ◌∷◌}
use Prim.Native.Nat.{ℕ}
use Rattle.words.specs.Answer.{Outcome, gives, refuses, pick}
use Rattle.demands.specs.Rules.{row, Decided, Given}
use Rattle.demands.proofs.Common.Rules.{true_not_false}

-- Whether an answer is a refusal.
abbrev pub is_refusal : {A : Type 0} → Outcome A → Bool
is_refusal (gives x) = false
is_refusal (refuses n) = true

-- an answer whose refusal can only have this number
unfoldable pub Only : {A : Type 0} → ℕ → Outcome A → Type 0
Only k (gives x) = Unit {0}
Only k (refuses n) = n ≡ k

pub only_pick : {A : Type 0} (k : ℕ) (t : Bool) (x y : Outcome A) → Only k x → Only k y → Only k (pick t x y)
only_pick k true x y p q = p
only_pick k false x y p q = q

-- A refusal that can only have one number is decided by that number's row.
pub lone : {A : Type 0} (k : ℕ) (t : Bool) (o : Outcome A) → Only k o → is_refusal o ≡ t → Decided Given (row k t ∷ []) o
unfolding Only
lone k t (gives x) only e = (λ q. absurd (true_not_false (sym q ∙ sym e)), λ q. (x, refl))
lone k t (refuses n) only e = (λ q. ap refuses only, λ q. absurd (true_not_false (e ∙ q)))

pub or_true : (t : Bool) → (t || true) ≡ true
or_true true = refl
or_true false = refl

pub or_false : (t : Bool) → (t || false) ≡ t
or_false true = refl
or_false false = refl
