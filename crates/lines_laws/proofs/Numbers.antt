-- A number in decimal is made of digits, which read as that number, digit by digit.
-- Assumes nothing.
use Rattle.std.specs.Prelude.{Ok}
use mathlib.Core.Path.{◌≡◌, refl, subst, ◌∙◌}
use mathlib.Core.Bool.{Bool, true, false, not, ◌&&◌, ◌||◌}
use mathlib.Core.List.{List, [], ◌∷◌, ◌++◌}
use Prim.Native.Nat.{ℕ, zero, suc, ◌+◌, ◌-◌, ◌*◌, ◌/◌, ◌%◌, ◌^◌, ◌≤◌, ◌<◌}
use native.Mathlib.Nat.{pow-suc}
use native.Mathlib.Omega.{arith}
use lib.Dec.{leb, ltb}
use lib.ListN.{length}
use borrow.Author.Tests.{le-leb, ltb-true, lt-ltb, ne_eqb, leb-true}
use Rattle.words.specs.Answer.{pick}
use Rattle.words.proofs.Linear.{and_parts}
use Rattle.text.specs.Text.{digit, digits, decimal}
use Rattle.text.proofs.Decimal.{decimal_some}
use Rattle.figures.specs.Figures.{between, all_digits_meant, continued}
use Rattle.figures.specs.Figures as figures
use Rattle.lines.specs.Text.{blank, newline, hash}
use Rattle.lines.specs.Words.{largest, number}
use Rattle.lines_laws.specs.Printed.{plain, NumbersBack}

-- One digit more.
is_digit : (d : ℕ) → d < 10 → between 48 57 (digit d) ≡ true
is_digit d h = let low : 48 ≤ digit d = omega arith in let high : digit d ≤ 57 = omega arith in simp (le-leb 48 (digit d) low, le-leb (digit d) 57 high)

more_digits : (s : List ℕ) (d : ℕ) → d < 10 → all_digits_meant s ≡ true → all_digits_meant (s ++ (digit d ∷ [])) ≡ true
unfolding all_digits_meant
more_digits [] d h e = simp (is_digit d h)
more_digits (c ∷ cs) d h e =
    let parts = and_parts (between 48 57 c) (all_digits_meant cs) e in
    simp (parts.0, more_digits cs d h parts.1)

one_more : (s : List ℕ) (n d : ℕ) → continued n (s ++ (digit d ∷ [])) ≡ continued n s * 10 + d
unfolding continued
one_more [] n d = let is : n * 10 + (digit d - 48) ≡ n * 10 + d = omega arith in is
one_more (c ∷ cs) n d = one_more cs (n * 10 + (c - 48)) d

-- All are digits;
all_digits : (k n : ℕ) → all_digits_meant (digits k n) ≡ true
unfolding digits all_digits_meant
all_digits zero n = refl
all_digits (suc k) n = by (ltb n 10) refl (all_digits k (n / 10))
  where
    by : (t : Bool) → ltb n 10 ≡ t → all_digits_meant (digits k (n / 10)) ≡ true → all_digits_meant (pick t (digit n ∷ []) (digits k (n / 10) ++ (digit (n % 10) ∷ []))) ≡ true
    by true e rest = more_digits [] n (ltb-true n 10 e) refl
    by false e rest = more_digits (digits k (n / 10)) (n % 10) (omega arith) rest

-- they make the number.
make_it : (k n : ℕ) → n < 10 ^ k → continued 0 (digits k n) ≡ n
unfolding digits continued
make_it zero n h = omega arith
make_it (suc k) n h =
    let e : n < 10 ^ k * 10 = subst (λ (x : ℕ). n < x) (pow-suc 10 k) h in
    by (ltb n 10) (make_it k (n / 10) (omega arith))
  where
    by : (t : Bool) → continued 0 (digits k (n / 10)) ≡ n / 10 → continued 0 (pick t (digit n ∷ []) (digits k (n / 10) ++ (digit (n % 10) ∷ []))) ≡ n
    by true rest = one_more [] 0 n ∙ (let z : 0 * 10 + n ≡ n = omega arith in z)
    by false rest = one_more (digits k (n / 10)) 0 (n % 10) ∙ (let z : continued 0 (digits k (n / 10)) * 10 + n % 10 ≡ n = omega (arith, rest) in z)

-- A digit is no blank, no `#` and no newline.
pub no_mark : (c : ℕ) → 48 ≤ c → not (blank c || hash c || newline c) ≡ true
no_mark c h =
    let a : c ≡ 32 → ⊥ = λ e. omega arith in
    let b : c ≡ 9 → ⊥ = λ e. omega arith in
    let d : c ≡ 13 → ⊥ = λ e. omega arith in
    let f : c ≡ 35 → ⊥ = λ e. omega arith in
    let g : c ≡ 10 → ⊥ = λ e. omega arith in
    simp (ne_eqb c 32 a, ne_eqb c 9 b, ne_eqb c 13 d, ne_eqb c 35 f, ne_eqb c 10 g)

digits_plain : (s : List ℕ) → all_digits_meant s ≡ true → plain s ≡ true
unfolding all_digits_meant plain
digits_plain [] e = refl
digits_plain (c ∷ cs) e =
    let parts = and_parts (between 48 57 c) (all_digits_meant cs) e in
    let low = and_parts (leb 48 c) (leb c 57) parts.0 in
    simp (no_mark c (leb-true 48 c low.0), digits_plain cs parts.1)

reads : (n : ℕ) → n ≤ largest → number (decimal n) ≡ Ok n
unfolding number figures.decimal decimal
reads n h =
    let some : 0 < length (digits 20 n) = decimal_some n in
    let is : continued 0 (digits 20 n) ≡ n = make_it 20 n (omega arith) in
    simp (lt-ltb 0 (length (digits 20 n)) some, all_digits 20 n, is, le-leb n largest h)

pub numbers_back : NumbersBack
unfolding decimal
numbers_back = record { a_word = λ n. (decimal_some n, digits_plain (digits 20 n) (all_digits 20 n)); reads = reads }

in_digits : (c : ℕ) (cs : List ℕ) → all_digits_meant (c ∷ cs) ≡ true → (between 48 57 c && all_digits_meant cs) ≡ true
unfolding all_digits_meant
in_digits c cs e = e

-- It begins with a digit.
pub begins_with : (n : ℕ) → (c : ℕ) × (cs : List ℕ) × (decimal n ≡ c ∷ cs) × (c ≤ 57)
unfolding decimal
begins_with n = by (digits 20 n) refl (decimal_some n) (all_digits 20 n)
  where
    by : (s : List ℕ) → digits 20 n ≡ s → 0 < length s → all_digits_meant s ≡ true → (c : ℕ) × (cs : List ℕ) × (digits 20 n ≡ c ∷ cs) × (c ≤ 57)
    by [] is some all = absurd (omega arith)
    by (c ∷ cs) is some all =
        let parts = and_parts (between 48 57 c) (all_digits_meant cs) (in_digits c cs all) in
        (c, cs, is, leb-true c 57 (and_parts (leb 48 c) (leb c 57) parts.0).1)
