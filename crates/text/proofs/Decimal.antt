-- The digits of a number: its last digit stands after those of its tenth.
-- Assumes nothing.
use mathlib.Core.Path.{◌≡◌, sym, ap, subst, ◌∙◌}
use mathlib.Core.Bool.{Bool, true, false}
use mathlib.Core.List.{List, [], ◌∷◌, ◌++◌}
use Prim.Native.Nat.{ℕ, zero, suc, ◌*◌, ◌/◌, ◌%◌, ◌^◌, ◌≤◌, ◌<◌}
use native.Mathlib.Nat.{pow-suc}
use native.Mathlib.Omega.{arith}
use lib.Dec.{ltb}
use lib.ListN.{length, length-append}
use borrow.Author.Tests.{lt-ltb, le-ltb}
use Rattle.words.specs.Answer.{pick}
use Rattle.text.specs.Text.{digit, digits, decimal}

-- a number below ten has one digit
one_digit : (most n : ℕ) → n < 10 → digits (suc most) n ≡ digit n ∷ []
unfolding digits
one_digit most n h = simp (lt-ltb n 10 h)

-- any other has its last after those of its tenth
last_digit : (most n : ℕ) → 10 ≤ n → digits (suc most) n ≡ digits most (n / 10) ++ (digit (n % 10) ∷ [])
unfolding digits
last_digit most n h = simp (le-ltb n 10 h)

tenth : (k n : ℕ) → n < 10 ^ suc k → n / 10 < 10 ^ k
tenth k n h =
    let e : n < 10 ^ k * 10 = subst (λ (x : ℕ). n < x) (pow-suc 10 k) h in
    omega arith

-- how many digits there may be matters no more once there may be enough
enough : (j k n : ℕ) → n < 10 ^ suc j → n < 10 ^ suc k → digits (suc j) n ≡ digits (suc k) n
unfolding digits
enough zero k n h g = one_digit zero n h ∙ sym (one_digit k n h)
enough (suc j) zero n h g = one_digit (suc j) n g ∙ sym (one_digit zero n g)
enough (suc j) (suc k) n h g =
    ap (λ (s : List ℕ). pick (ltb n 10) (digit n ∷ []) (s ++ (digit (n % 10) ∷ [])))
    (enough j k (n / 10) (tenth (suc j) n h) (tenth (suc k) n g))

pub decimal_one : (n : ℕ) → n < 10 → decimal n ≡ digit n ∷ []
unfolding decimal
decimal_one n h = one_digit 19 n h

pub decimal_last : (n : ℕ) → 10 ≤ n → n < 2 ^ 64 → decimal n ≡ decimal (n / 10) ++ (digit (n % 10) ∷ [])
unfolding decimal
decimal_last n h small =
    let twenty : n < 10 ^ 20 = omega arith in
    let less : n / 10 < 10 ^ 20 = omega arith in
    last_digit 19 n h ∙ ap (λ (s : List ℕ). s ++ (digit (n % 10) ∷ [])) (enough 18 19 (n / 10) (tenth 19 n twenty) less)

-- A number below 2^16 has at most five digits.
pub five_digits : (n : ℕ) → n < 2 ^ 16 → digits 5 n ≡ decimal n
unfolding decimal
five_digits n small = enough 4 19 n (omega arith) (omega arith)

-- one digit, or one more than the tenth has
between : (b : Bool) (k d e : ℕ) (s : List ℕ) → length s ≤ k
    → (1 ≤ length (pick b (d ∷ []) (s ++ (e ∷ [])))) × (length (pick b (d ∷ []) (s ++ (e ∷ []))) ≤ suc k)
between true k d e s h = omega arith
between false k d e s h = simp length-append (omega arith)

pub at_most : (k n : ℕ) → length (digits k n) ≤ k
unfolding digits
at_most zero n = omega arith
at_most (suc k) n = (between (ltb n 10) k (digit n) (digit (n % 10)) (digits k (n / 10)) (at_most k (n / 10))).1

-- A number has at least one digit and at most twenty.
pub decimal_some : (n : ℕ) → 1 ≤ length (decimal n)
unfolding decimal digits
decimal_some n = (between (ltb n 10) 19 (digit n) (digit (n % 10)) (digits 19 (n / 10)) (at_most 19 (n / 10))).0

pub decimal_length : (n : ℕ) → length (decimal n) ≤ 20
unfolding decimal
decimal_length n = at_most 20 n
