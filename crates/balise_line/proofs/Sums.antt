-- Laws of sums over a range, and of bits that differ or not.
-- Assumes nothing.
use mathlib.Core.Path.{◌≡◌, refl, sym, ap, ap₂, ◌∙◌, subst}
use mathlib.Core.Logic.{◌⊎◌, inl, inr}
use mathlib.Core.Bool.{Bool, true, false}
use Prim.Native.Nat.{ℕ, zero, suc, ◌+◌, ◌≤◌, ◌<◌}
use native.Mathlib.Nat.{le_refl, lt-suc_self, lt_trans, le_of_suc-le-suc, eq-or-lt_of_le, not-suc-le-zero, add-suc, add-zero, add_assoc, le_dest}
use native.Mathlib.Omega.{arith}
use lib.Dec.{eqb}
use borrow.Author.Tests.{eqb-true, eq-eqb, ne_eqb}
use Rattle.words.specs.Answer.{pick}
use Rattle.balise_line.specs.Line.{sum, unequal}

-- What holds at each number below n + 1 holds at each below n.
pub sooner : {P : ℕ → Type 0} (n : ℕ) → ((i : ℕ) → i < suc n → P i) → (i : ℕ) → i < n → P i
sooner n all i l = all i (lt_trans l (lt-suc_self n))

module _ (f g : ℕ → ℕ) where
  pub sum_le : (n : ℕ) → ((i : ℕ) → i < n → f i ≤ g i) → sum f n ≤ sum g n
  unfolding sum
  sum_le zero all = le_refl 0
  sum_le (suc n) all =
      let h : f n ≤ g n = all n (lt-suc_self n) in
      let r : sum f n ≤ sum g n = sum_le n (sooner {P = λ i. f i ≤ g i} n all) in
      omega arith

  pub sum_ext : (n : ℕ) → ((i : ℕ) → i < n → f i ≡ g i) → sum f n ≡ sum g n
  unfolding sum
  sum_ext zero all = refl
  sum_ext (suc n) all = ap₂ ◌+◌ (sum_ext n (sooner {P = λ i. f i ≡ g i} n all)) (all n (lt-suc_self n))

  pub sum_both : (n : ℕ) → sum (λ i. f i + g i) n ≡ sum f n + sum g n
  unfolding sum
  sum_both zero = refl
  sum_both (suc n) = let r : sum (λ i. f i + g i) n ≡ sum f n + sum g n = sum_both n in omega arith

module _ (f : ℕ → ℕ) where
  pub sum_split : (m n : ℕ) → sum f (m + n) ≡ sum f m + sum (λ i. f (m + i)) n
  unfolding sum
  sum_split m zero = ap (sum f) (add-zero m) ∙ sym (add-zero (sum f m))
  sum_split m (suc n) =
      ap (sum f) (add-suc m n) ∙ ap (λ (k : ℕ). k + f (m + n)) (sum_split m n) ∙ add_assoc (sum f m) (sum (λ i. f (m + i)) n) (f (m + n))

  -- no term of a sum that is 0 is anything else
  pub sum_none : (n : ℕ) → sum f n ≡ 0 → (i : ℕ) → i < n → f i ≡ 0
  unfolding sum
  sum_none zero e i l = absurd (not-suc-le-zero l)
  sum_none (suc n) e i l = go (eq-or-lt_of_le (le_of_suc-le-suc l)) (sum_none n (omega arith) i)
    where
      go : (i ≡ n) ⊎ (i < n) → (i < n → f i ≡ 0) → f i ≡ 0
      go (inl same) ih = subst (λ (k : ℕ). f k ≡ 0) (sym same) (let z : f n ≡ 0 = omega arith in z)
      go (inr k) ih = ih k

  pub none_sum : (n : ℕ) → ((i : ℕ) → i < n → f i ≡ 0) → sum f n ≡ 0
  unfolding sum
  none_sum zero all = refl
  none_sum (suc n) all =
      let h : f n ≡ 0 = all n (lt-suc_self n) in
      let r : sum f n ≡ 0 = none_sum n (sooner {P = λ i. f i ≡ 0} n all) in
      omega arith

-- A part of a range has no larger sum.
pub sum_part : (f : ℕ → ℕ) (a c m n : ℕ) → a ≤ c → c + n ≤ a + m → sum (λ i. f (c + i)) n ≤ sum (λ i. f (a + i)) m
sum_part f a c m n l h =
    let d = le_dest l in
    let k : ℕ = d.0 in
    let is : a + k ≡ c = d.1 in
    let fits : k + n ≤ m = omega arith in
    let d' = le_dest fits in
    let rest : ℕ = d'.0 in
    let g : ℕ → ℕ = λ i. f (a + i) in
    let all : sum g m ≡ sum g k + sum (λ i. g (k + i)) n + sum (λ i. g (k + n + i)) rest =
    ap (sum g) (sym d'.1) ∙ sum_split g (k + n) rest ∙ ap (λ (v : ℕ). v + sum (λ i. g (k + n + i)) rest) (sum_split g k n) in
    let same : sum (λ i. f (c + i)) n ≡ sum (λ i. g (k + i)) n =
    sum_ext (λ i. f (c + i)) (λ i. g (k + i)) n (λ i _. ap f (sym (sym (add_assoc a k i) ∙ ap (λ (v : ℕ). v + i) is))) in
    omega arith

-- 1 at every number but e.
unfoldable pub not_at : ℕ → ℕ → ℕ
not_at e i = unequal i e

pub unequal_lt : (a c : ℕ) → unequal a c < 2
unfolding unequal
unequal_lt a c = go (eqb a c)
  where
    go : (t : Bool) → pick t 0 1 < 2
    go true = omega arith
    go false = omega arith

-- bits that do not differ are equal
pub unequal_same : (a c : ℕ) → a ≡ c → unequal a c ≡ 0
unfolding unequal
unequal_same a c e = ap (λ (t : Bool). pick t 0 1) (eq-eqb a c e)

pub unequal_none : (a c : ℕ) → unequal a c ≡ 0 → a ≡ c
unfolding unequal
unequal_none a c e = go (eqb a c) refl
  where
    go : (t : Bool) → eqb a c ≡ t → a ≡ c
    go true is = eqb-true a c is
    go false is = absurd (let z : ◌≡◌ {A = ℕ} 1 0 = subst (λ (t : Bool). ◌≡◌ {A = ℕ} (pick t 0 1) 0) is e in omega arith)

pub unequal_sym : (a c : ℕ) → unequal a c ≡ unequal c a
unequal_sym a c = go (unequal a c) (unequal c a) refl refl
  where
    go : (u v : ℕ) → unequal a c ≡ u → unequal c a ≡ v → unequal a c ≡ unequal c a
    go zero v p q = p ∙ sym (unequal_same c a (sym (unequal_none a c p)))
    go (suc u) zero p q = unequal_same a c (sym (unequal_none c a q)) ∙ sym q
    go (suc u) (suc v) p q =
        let h : unequal a c < 2 = unequal_lt a c in
        let k : unequal c a < 2 = unequal_lt c a in
        omega arith

-- Two differences that differ cost one of the bits between.
pub unequal_across : (a c b d : ℕ) → unequal (unequal a c) (unequal b d) ≤ unequal a b + unequal c d
unequal_across a c b d = go (unequal a b) (unequal c d) refl refl
  where
    small : unequal (unequal a c) (unequal b d) < 2
    small = unequal_lt (unequal a c) (unequal b d)

    go : (u v : ℕ) → unequal a b ≡ u → unequal c d ≡ v → unequal (unequal a c) (unequal b d) ≤ unequal a b + unequal c d
    go zero zero p q =
        let none : unequal (unequal a c) (unequal b d) ≡ 0 = unequal_same (unequal a c) (unequal b d) (ap₂ unequal (unequal_none a b p) (unequal_none c d q)) in
        omega arith
    go zero (suc v) p q = let h : unequal (unequal a c) (unequal b d) < 2 = small in omega arith
    go (suc u) v p q = let h : unequal (unequal a c) (unequal b d) < 2 = small in omega arith

not_at_same : (e : ℕ) → not_at e e ≡ 0
unfolding not_at
not_at_same e = unequal_same e e refl

not_at_other : (e i : ℕ) → (i ≡ e → ⊥) → not_at e i ≡ 1
unfolding not_at unequal
not_at_other e i ne = ap (λ (t : Bool). pick t 0 1) (ne_eqb i e ne)

-- f is 1 below n, but at one place.
pub record Missing (f : ℕ → ℕ) (n : ℕ) : Type 0 where
  pub at : ℕ
  pub within : at < n
  pub is : (i : ℕ) → i < n → f i ≡ not_at at i

-- Bits that add up to as many as they are are all ones; those that add up to one less are all ones
-- but one.
module _ (f : ℕ → ℕ) (small : (i : ℕ) → f i < 2) where
  sum_small : (n : ℕ) → sum f n ≤ n
  unfolding sum
  sum_small zero = le_refl 0
  sum_small (suc n) =
      let h : f n < 2 = small n in
      let r : sum f n ≤ n = sum_small n in
      omega arith

  all_ones : (n : ℕ) → sum f n ≡ n → (i : ℕ) → i < n → f i ≡ 1
  unfolding sum
  all_ones zero e i l = absurd (not-suc-le-zero l)
  all_ones (suc n) e i l =
      go (eq-or-lt_of_le (le_of_suc-le-suc l))
      (all_ones n (let h : f n < 2 = small n in let r : sum f n ≤ n = sum_small n in omega arith) i)
    where
      go : (i ≡ n) ⊎ (i < n) → (i < n → f i ≡ 1) → f i ≡ 1
      go (inl same) ih =
          subst (λ (k : ℕ). f k ≡ 1) (sym same)
          (let h : f n < 2 = small n in let r : sum f n ≤ n = sum_small n in let z : f n ≡ 1 = omega arith in z)
      go (inr k) ih = ih k

  pub one_missing : (n : ℕ) → sum f (suc n) ≡ n → Missing f (suc n)
  unfolding sum
  one_missing zero e = record { at = 0; within = omega arith; is = λ i l. first i (omega arith) }
    where
      first : (i : ℕ) → i ≡ 0 → f i ≡ not_at 0 i
      first i z = ap f z ∙ (let none : f 0 ≡ 0 = omega arith in none) ∙ sym (not_at_same 0) ∙ ap (not_at 0) (sym z)
  one_missing (suc n) e = go (f (suc n)) refl e (λ h. one_missing n h)
    where
      go : (v : ℕ) → f (suc n) ≡ v → sum f (suc n) + f (suc n) ≡ suc n → (sum f (suc n) ≡ n → Missing f (suc n)) → Missing f (suc (suc n))
      go zero last all ih =
          record { at = suc n; within = omega arith; is = λ i l. by i (eq-or-lt_of_le (le_of_suc-le-suc l)) }
        where
          by : (i : ℕ) → (i ≡ suc n) ⊎ (i < suc n) → f i ≡ not_at (suc n) i
          by i (inl same) = ap f same ∙ last ∙ sym (not_at_same (suc n)) ∙ ap (not_at (suc n)) (sym same)
          by i (inr k) = all_ones (suc n) (omega arith) i k ∙ sym (not_at_other (suc n) i (λ same. let c : suc n < suc n = subst (λ (m : ℕ). m < suc n) same k in omega arith))
      go (suc v) last all ih =
          let small_last : f (suc n) < 2 = small (suc n) in
          let one : f (suc n) ≡ 1 = omega arith in
          let m : Missing f (suc n) = ih (omega arith) in
          let l : m.at < suc n = m.within in
          record { at = m.at; within = omega arith; is = λ i k. by m one i (eq-or-lt_of_le (le_of_suc-le-suc k)) }
        where
          by : (m : Missing f (suc n)) → f (suc n) ≡ 1 → (i : ℕ) → (i ≡ suc n) ⊎ (i < suc n) → f i ≡ not_at m.at i
          by m one i (inl same) =
              ap f same ∙ one ∙ sym (not_at_other m.at i (λ k. let c : suc n < suc n = subst (λ (j : ℕ). j < suc n) (sym k ∙ same) m.within in omega arith))
          by m one i (inr k) = m.is i k
