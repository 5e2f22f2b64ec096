-- Two answers that say the same are the same, where an answer can be told from what it says.
-- Assumes nothing.
use Prim.Native.Nat.{ℕ}
use mathlib.Core.List.{List}
use mathlib.Core.Path.{◌≡◌, sym, ap, ◌∙◌}
use contract.Lifetimes.{Lfts}
use borrow.Fn.Kinds.{ParamKind, ResultKind, Dens, Out, res_t, ended_of}
use denote.Triple.Clauses.{AtExit}
use Rattle.words.specs.Answer.{Answer, gives, refuses}

-- A contract fixes its function's whole answer: any two that it allows are equal.
abbrev pub Fixed : (n : ℕ) (ps : List (ParamKind n)) (r : ResultKind n) → Out n ps r → Type 0
Fixed n ps r Post =
    (κs : Lfts n) (a : Dens κs ps) (x y : (res_t r κs).Denot) (at_x : AtExit (ended_of n ps r) κs) (at_y : AtExit (ended_of n ps r) κs)
    → Post κs a x at_x → Post κs a y at_y → x ≡ y

-- A contract fixes its function's whole answer and what it leaves in lent memory.
abbrev pub FixedWith : (n : ℕ) (ps : List (ParamKind n)) (r : ResultKind n) → Out n ps r → {M : Type 0} → ((κs : Lfts n) → AtExit (ended_of n ps r) κs → M) → Type 0
FixedWith n ps r Post memory =
    (κs : Lfts n) (a : Dens κs ps) (x y : (res_t r κs).Denot) (at_x : AtExit (ended_of n ps r) κs) (at_y : AtExit (ended_of n ps r) κs)
    → Post κs a x at_x → Post κs a y at_y → (x ≡ y) × (memory κs at_x ≡ memory κs at_y)

-- What an answer with two cases was, from what it says.
abbrev pub two_cases : {R A T : Type 0} → (A → T) → (R → T) → Answer R A → T
two_cases of-given of-refused (gives x) = of-given x
two_cases of-given of-refused (refuses r) = of-refused r

pub told : {A B : Type 0} (says : A → B) (of : B → A) → ((r : A) → of (says r) ≡ r) → {o : B} (r r' : A) → says r ≡ o → says r' ≡ o → r ≡ r'
told says of back r r' p q = sym (back r) ∙ ap of (p ∙ sym q) ∙ back r'
