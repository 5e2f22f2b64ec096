-- Bits that repeat themselves every d bits: the first d give them all, and any d in a row have the
-- same sum.
-- Assumes nothing.
use Prim.Native.Nat.{ℕ, zero, suc, ◌+◌, ◌-◌, ◌*◌, ◌%◌, ◌≤◌, ◌<◌}
use mathlib.Core.Path.{◌≡◌, refl, sym, ap, ap₂, ◌∙◌}
use mathlib.Core.Bool.{Bool, true, false}
use native.Mathlib.Nat.{mod-eq_of_lt, mod-eq-sub-mod}
use native.Mathlib.Omega.{arith}
use lib.Dec.{ltb}
use borrow.Author.Tests.{ltb-true, ltb-false}
use Rattle.balise_line.specs.Line.{sum}
use Rattle.balise_line.proofs.Sums.{sum_split, sum_ext}
use Rattle.noise_laws.proofs.Tests.{spelt}

module _ (r : ℕ → ℕ) (a d n : ℕ) (per : (i : ℕ) → i < n → r (a + (i + d)) ≡ r (a + i)) (pos : 0 < d) where
  by_first : (f i : ℕ) → i < f → i < n + d → r (a + i) ≡ r (a + i % d)
  by_first zero i l h = absurd (omega arith)
  by_first (suc f) i l h = go (ltb i d) refl (λ j less more. by_first f j less more)
    where
      go : (t : Bool) → ltb i d ≡ t → ((j : ℕ) → j < f → j < n + d → r (a + j) ≡ r (a + j % d)) → r (a + i) ≡ r (a + i % d)
      go true q ih = ap (λ (k : ℕ). r (a + k)) (sym (mod-eq_of_lt (ltb-true i d q)))
      go false q ih =
          let up : d ≤ i = ltb-false i d q in
          let j = i - d in
          let e : a + i ≡ a + (j + d) = omega arith in
          ap r e ∙ per j (omega arith) ∙ ih j (omega arith) (omega arith) ∙ ap (λ (k : ℕ). r (a + k)) (sym (mod-eq-sub-mod up))

  -- Each is the one of the first d with the same remainder.
  pub repeats : (i : ℕ) → i < n + d → r (a + i) ≡ r (a + i % d)
  repeats i h = by_first (suc i) i (omega arith) h

-- One bit on: what comes in at the end is what goes out at the beginning.
on_by_one : (g : ℕ → ℕ) (d : ℕ) → g d ≡ g 0 → sum (λ i. g (1 + i)) d ≡ sum g d
unfolding sum
on_by_one g d same =
    let e : 1 + d ≡ suc d = omega arith in
    omega (arith, sum_split g 1 d, ap (sum g) e, same)

-- Any d in a row have the same sum.
pub same_sum : (f : ℕ → ℕ) (d n : ℕ) → ((i : ℕ) → i < n → f (i + d) ≡ f i) → sum (λ i. f (n + i)) d ≡ sum f d
same_sum f d zero per = sum_ext (λ i. f (0 + i)) f d (λ i l. let e : 0 + i ≡ i = omega arith in ap f e)
same_sum f d (suc n) per =
    let none : n + 0 ≡ n = omega arith in
    sum_ext (λ i. f (suc n + i)) (λ i. f (n + (1 + i))) d (λ i l. let e : suc n + i ≡ n + (1 + i) = omega arith in ap f e)
    ∙ on_by_one (λ i. f (n + i)) d (per n (omega arith) ∙ ap f (sym none))
    ∙ same_sum f d n (λ i l. per i (omega arith))

-- The first n of m numbers have no larger sum.
pub sum_front : (f : ℕ → ℕ) (m n : ℕ) → n ≤ m → sum f n ≤ sum f m
sum_front f m n low =
    let k = m - n in
    let e : n + k ≡ m = omega arith in
    omega (arith, sum_split f n k, ap (sum f) e)

-- The same bits spell the same number.
pub spelt_alike : (f g : ℕ → ℕ) (a c n : ℕ) → ((i : ℕ) → i < n → f (a + i) ≡ g (c + i)) → spelt f a n ≡ spelt g c n
unfolding spelt
spelt_alike f g a c zero same = refl
spelt_alike f g a c (suc n) same = ap₂ (λ (u v : ℕ). u * 2 + v) (spelt_alike f g a c n (λ i l. same i (omega arith))) (same n (omega arith))
