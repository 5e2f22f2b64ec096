-- A code word that is not 0 has at least four ones: two ones at different positions leave some
-- check odd.
-- Assumes nothing.
use mathlib.Core.Path.{◌≡◌, refl, sym, ap, ap₂, ◌∙◌, subst}
use mathlib.Core.Logic.{◌⊎◌, inl, inr}
use mathlib.Core.Bool.{Bool, true, not}
use Prim.Native.Nat.{ℕ, zero, suc, ◌+◌, ◌*◌, ◌%◌, ◌^◌, ◌≤◌, ◌<◌}
use native.Mathlib.Nat.{not-suc-le-zero, le_of_suc-le-suc, lt-suc_self, lt_trans, lt_of_lt_of_le, one-mul, eq-or-lt_of_le}
use native.Mathlib.Omega.{arith}
use lib.Dec.{T, eqb}
use lib.Pow.{pow_pos}
use borrow.Author.Tests.{eqb-true, eq-eqb}
use Rattle.words.specs.Bits.{bit}
use Rattle.words.specs.Plain.{checks, is_check, covers, count, even, is_code}
use Rattle.words.proofs.Digits.{bit_lt, bits_ext}
use Rattle.words.proofs.Ranges.{both, upto, below}
use Rattle.words.proofs.Zero.{even_at, bit_zero}
use Rattle.words.proofs.HowMany.{ones_of}

bit_cases : (b : ℕ) → b < 2 → (b ≡ 0) ⊎ (b ≡ 1)
bit_cases zero l = inl refl
bit_cases (suc zero) l = inr refl
bit_cases (suc (suc b)) l = absurd (not-suc-le-zero (le_of_suc-le-suc (le_of_suc-le-suc l)))

-- With no one, every count is 0.
none : (h n : ℕ) → ones_of h n ≡ 0 → (p : ℕ → ℕ) → count p h n ≡ 0
unfolding ones_of count
none h zero e p = refl
none h (suc n) e p =
    let z : bit h n ≡ 0 = omega arith in
    let rest : count p h n ≡ 0 = none h n (omega arith) p in
    let here : p n * bit h n ≡ p n * 0 = ap (λ (k : ℕ). p n * k) z in
    omega arith

-- With a single one, at q, a count is what it marks there.
single : (h n : ℕ) → ones_of h n ≡ 1 → (q : ℕ) × (q < n) × ((p : ℕ → ℕ) → count p h n ≡ p q)
unfolding ones_of count
single h zero e = absurd (zero_not_one e)
  where
    zero_not_one : ◌≡◌ {A = ℕ} 0 1 → ⊥
    zero_not_one q = omega arith
single h (suc n) e = go (bit_cases (bit h n) (bit_lt h n)) (λ k. single h n k)
  where
    go : (bit h n ≡ 0) ⊎ (bit h n ≡ 1) → (ones_of h n ≡ 1 → (q : ℕ) × (q < n) × ((p : ℕ → ℕ) → count p h n ≡ p q))
        → (q : ℕ) × (q < suc n) × ((p : ℕ → ℕ) → p n * bit h n + count p h n ≡ p q)
    go (inl z) ih =
        let r = ih (omega arith) in
        (r.0, lt_trans r.1 (lt-suc_self n), λ p. plus_none (p n) (count p h n) (bit h n) z ∙ r.2 p)
      where
        plus_none : (x y b : ℕ) → b ≡ 0 → x * b + y ≡ y
        plus_none x y b b-is = ap (λ (k : ℕ). x * k + y) b-is ∙ omega arith
    go (inr o) ih = (n, lt-suc_self n, λ p. plus_one (p n) (count p h n) (bit h n) o (none h n (omega arith) p))
      where
        plus_one : (x y b : ℕ) → b ≡ 1 → y ≡ 0 → x * b + y ≡ x
        plus_one x y b b-is y_is = ap₂ (λ (k m : ℕ). x * k + m) b-is y_is ∙ omega arith

-- With two ones, at q below r, a count is what it marks there.
pair : (h n : ℕ) → ones_of h n ≡ 2 → (q : ℕ) × (r : ℕ) × (q < r) × (r < n) × ((p : ℕ → ℕ) → count p h n ≡ p q + p r)
unfolding ones_of count
pair h zero e = absurd (zero_not_two e)
  where
    zero_not_two : ◌≡◌ {A = ℕ} 0 2 → ⊥
    zero_not_two q = omega arith
pair h (suc n) e = go (bit_cases (bit h n) (bit_lt h n)) (λ k. pair h n k)
  where
    go : (bit h n ≡ 0) ⊎ (bit h n ≡ 1) → (ones_of h n ≡ 2 → (q : ℕ) × (r : ℕ) × (q < r) × (r < n) × ((p : ℕ → ℕ) → count p h n ≡ p q + p r))
        → (q : ℕ) × (r : ℕ) × (q < r) × (r < suc n) × ((p : ℕ → ℕ) → p n * bit h n + count p h n ≡ p q + p r)
    go (inl z) ih =
        let s = ih (omega arith) in
        (s.0, s.1, s.2, lt_trans s.3 (lt-suc_self n), λ p. plus_none (p n) (count p h n) (bit h n) z ∙ s.4 p)
      where
        plus_none : (x y b : ℕ) → b ≡ 0 → x * b + y ≡ y
        plus_none x y b b-is = ap (λ (k : ℕ). x * k + y) b-is ∙ omega arith
    go (inr o) ih =
        let s = single h n (omega arith) in
        (s.0, n, s.1, lt-suc_self n, λ p. plus_one (p n) (count p h n) (bit h n) (p s.0) o (s.2 p))
      where
        plus_one : (x y b z : ℕ) → b ≡ 1 → y ≡ z → x * b + y ≡ z + x
        plus_one x y b z b-is y_is = ap₂ (λ (k m : ℕ). x * k + m) b-is y_is ∙ omega arith

-- whether check c finds an even count in ones at q and r alone
twice : ℕ → ℕ → ℕ → Bool
twice q r c = eqb ((covers c q + covers c r) % 2) 0

-- some check tells q from r
told : ℕ → ℕ → Bool
unfolding twice
told r q = not (both (twice q r 8) (both (twice q r 4) (both (twice q r 2) (twice q r 1))))

told_below : ℕ → Bool
unfolding told
told_below r = upto (told r) r

told_at : (q r : ℕ) → q < r → r < 16 → T (told r q)
unfolding told_below told twice covers
told_at q r l m = below (told r) r (below told_below 16 tt r m) q l

not_both : (a b c d : Bool) → a ≡ true → b ≡ true → c ≡ true → d ≡ true → T (not (both a (both b (both c d)))) → ⊥
not_both a b c d ea eb ec ed t =
    subst (λ (x : Bool). T (not (both x (both true (both true true))))) ea
    (subst (λ (x : Bool). T (not (both a (both x (both true true))))) eb
    (subst (λ (x : Bool). T (not (both a (both b (both x true))))) ec (subst (λ (x : Bool). T (not (both a (both b (both c x))))) ed t)))

module _ (n h : ℕ) (few : n ≤ 16) (code : is_code n h ≡ true) where
  even_count : (c : ℕ) → is_check c ≡ true → count (covers c) h n % 2 ≡ 0
  unfolding is_code is_check even
  even_count c is = eqb-true (count (covers c) h n % 2) 0 (even_at n h c checks code is)

  ones_count : (m : ℕ) → ones_of h m ≡ count (covers 0) h m
  unfolding ones_of count covers
  ones_count zero = refl
  ones_count (suc m) = ap₂ ◌+◌ (sym (one-mul (bit h m))) (ones_count m)

  -- A code word has an even number of ones.
  pub even_ones : ones_of h n % 2 ≡ 0
  unfolding is_check
  even_ones = ap (λ (k : ℕ). k % 2) (ones_count n) ∙ even_count 0 refl

  not_two : ones_of h n ≡ 2 → ⊥
  unfolding is_check told twice
  not_two e =
      let s = pair h n e in
      let q = s.0 in
      let r = s.1 in
      let is_even : (c : ℕ) → is_check c ≡ true → eqb ((covers c q + covers c r) % 2) 0 ≡ true =
      λ c is. eq-eqb ((covers c q + covers c r) % 2) 0 (ap (λ (k : ℕ). k % 2) (sym (s.4 (covers c))) ∙ even_count c is) in
      not_both (twice q r 8) (twice q r 4) (twice q r 2) (twice q r 1)
      (is_even 8 refl) (is_even 4 refl) (is_even 2 refl) (is_even 1 refl) (told_at q r s.2 (lt_of_lt_of_le s.3 few))

  -- A code word with fewer than four ones has none.
  pub no_ones : ones_of h n < 4 → ones_of h n ≡ 0
  no_ones l = go (ones_of h n) refl
    where
      go : (k : ℕ) → ones_of h n ≡ k → ones_of h n ≡ 0
      go zero e = e
      go (suc zero) e = absurd (odd_one (sym (ap (λ (m : ℕ). m % 2) e) ∙ even_ones))
        where
          odd_one : ◌≡◌ {A = ℕ} (1 % 2) 0 → ⊥
          odd_one q = omega arith
      go (suc (suc zero)) e = absurd (not_two e)
      go (suc (suc (suc zero))) e = absurd (odd_three (sym (ap (λ (m : ℕ). m % 2) e) ∙ even_ones))
        where
          odd_three : ◌≡◌ {A = ℕ} (3 % 2) 0 → ⊥
          odd_three q = omega arith
      go (suc (suc (suc (suc k)))) e = absurd (omega arith)

zero_at : (h m : ℕ) → ones_of h m ≡ 0 → (i : ℕ) → i < m → bit h i ≡ 0
unfolding ones_of
zero_at h zero e i l = absurd (not-suc-le-zero l)
zero_at h (suc m) e i l = go (eq-or-lt_of_le (le_of_suc-le-suc l)) (zero_at h m (omega arith) i)
  where
    go : (i ≡ m) ⊎ (i < m) → (i < m → bit h i ≡ 0) → bit h i ≡ 0
    go (inl same) ih = ap (bit h) same ∙ omega arith
    go (inr k) ih = ih k

-- A word of n bits without ones is 0.
pub no_ones_zero : (h n : ℕ) → h < 2 ^ n → ones_of h n ≡ 0 → h ≡ 0
no_ones_zero h n small e = bits_ext h 0 n small (pow_pos n) (λ i l. zero_at h n e i l ∙ sym (bit_zero i))

-- 0 has no ones.
pub ones_zero : (n : ℕ) → ones_of 0 n ≡ 0
unfolding ones_of
ones_zero zero = refl
ones_zero (suc n) = ap₂ ◌+◌ (bit_zero n) (ones_zero n)
