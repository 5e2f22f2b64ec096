-- Texts that need no escape: words that have none of the marks, digits, and texts joined and cut.
-- Assumes nothing.
use mathlib.Core.Path.{◌≡◌, refl, ap, ◌∙◌}
use mathlib.Core.Bool.{Bool, true, false, ◌&&◌}
use mathlib.Core.List.{List, [], ◌∷◌, ◌++◌}
use Prim.Native.String.{String}
use Prim.Native.Nat.{ℕ, zero, suc, ◌/◌, ◌%◌, ◌<◌}
use native.Mathlib.Omega.{arith}
use lib.Dec.{eqb, ltb}
use lib.ListN.{take}
use borrow.Author.Tests.{ltb-true, ne_eqb}
use Rattle.words.specs.Answer.{pick}
use Rattle.text.specs.Text.{codes, digit, digits, decimal}
use Rattle.words.proofs.Linear.{and_parts}
use Rattle.ride_drawing.specs.Titles.{is_safe, are_safe}

-- A text that needs no escape.
pub record Safe (t : List ℕ) : Type 0 where
  pub is : are_safe t ≡ true

more : (c : ℕ) (cs : List ℕ) → is_safe c ≡ true → are_safe cs ≡ true → are_safe (c ∷ cs) ≡ true
unfolding are_safe
more c cs e f = ap (λ (b : Bool). b && are_safe cs) e ∙ f

joined : (s t : List ℕ) → are_safe s ≡ true → are_safe t ≡ true → are_safe (s ++ t) ≡ true
unfolding are_safe
joined [] t e f = f
joined (c ∷ s) t e f =
    let parts = and_parts (is_safe c) (are_safe s) e in
    more c (s ++ t) parts.0 (joined s t parts.1 f)

pub join : {s t : List ℕ} → Safe s → Safe t → Safe (s ++ t)
join {s} {t} e f = record { is = joined s t e.is f.is }

pub words : (s : String) → are_safe (codes s) ≡ true → Safe (codes s)
words s e = record { is = e }

pub cut : (k : ℕ) (t : List ℕ) → are_safe t ≡ true → are_safe (take k t) ≡ true
unfolding are_safe
cut zero t e = refl
cut (suc k) [] e = refl
cut (suc k) (c ∷ t) e =
    let parts = and_parts (is_safe c) (are_safe t) e in
    more c (take k t) parts.0 (cut k t parts.1)

-- ---- digits

digit_safe : (d : ℕ) → d < 10 → is_safe (digit d) ≡ true
digit_safe d h =
    let a : eqb (digit d) 60 ≡ false = ne_eqb (digit d) 60 (λ e. omega arith) in
    let b : eqb (digit d) 38 ≡ false = ne_eqb (digit d) 38 (λ e. omega arith) in
    let c : eqb (digit d) 34 ≡ false = ne_eqb (digit d) 34 (λ e. omega arith) in
    let f : eqb (digit d) 39 ≡ false = ne_eqb (digit d) 39 (λ e. omega arith) in
    simp (a, b, c, f)

one_safe : (d : ℕ) → d < 10 → Safe (digit d ∷ [])
unfolding are_safe
one_safe d h = record { is = more (digit d) [] (digit_safe d h) refl }

digits_by : (s : List ℕ) (n : ℕ) (b : Bool) → ltb n 10 ≡ b → Safe s → Safe (pick b (digit n ∷ []) (s ++ (digit (n % 10) ∷ [])))
digits_by s n true e f = one_safe n (ltb-true n 10 e)
digits_by s n false e f = join f (one_safe (n % 10) (omega arith))

pub digits_safe : (most n : ℕ) → Safe (digits most n)
unfolding digits are_safe
digits_safe zero n = record { is = refl }
digits_safe (suc most) n = digits_by (digits most (n / 10)) n (ltb n 10) refl (digits_safe most (n / 10))

pub number_of : (n : ℕ) → Safe (decimal n)
unfolding decimal
number_of n = digits_safe 20 n
