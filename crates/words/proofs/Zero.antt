-- Only the word without ones carries the figure 0 with every check even.
-- Assumes nothing.
use mathlib.Core.Path.{◌≡◌, refl, sym, ap, ap₂, ◌∙◌, subst}
use mathlib.Core.Logic.{◌⊎◌, inl, inr}
use mathlib.Core.Bool.{Bool, true, false, ◌||◌, not}
use mathlib.Core.List.{List, [], ◌∷◌}
use Prim.Native.Nat.{ℕ, zero, suc, ◌+◌, ◌*◌, ◌%◌, ◌^◌, ◌≤◌, ◌<◌}
use native.Mathlib.Nat.{not-suc-le-zero, le_of_suc-le-suc, eq-or-lt_of_le, lt-suc_self, lt_trans, zero-mul, one-mul, mul-zero, mod-eq_of_lt, lt_irrefl, lt_of_lt_of_le, zero-div}
use native.Mathlib.Omega.{arith}
use lib.Dec.{T, eqb, eqb→eq}
use lib.Pow.{pow_pos}
use borrow.Author.Tests.{eqb-true, ne_eqb}
use Rattle.words.specs.Answer.{pick}
use Rattle.words.specs.Bits.{bit}
use Rattle.words.specs.Plain.{checks, among, is_check, covers, count, even, all_even, is_code, onwards, figure}
use Rattle.words.proofs.Digits.{bit_lt, bits_ext}
use Rattle.words.proofs.Ranges.{both, both_left, both_right, upto, below}
use Rattle.words.proofs.Figures.{grown}
use Rattle.words.proofs.Linear.{and_parts}

-- A figure so far that stays 0 met no one at a position that carries.
onwards_zero : (h n a : ℕ) → onwards h n a ≡ 0 → (a ≡ 0) × ((i : ℕ) → i < n → is_check i ≡ false → bit h i ≡ 0)
unfolding onwards
onwards_zero h zero a e = (e, λ i l no-check. absurd (not-suc-le-zero l))
onwards_zero h (suc n) a e = go (is_check n) refl (onwards_zero h n (grown h n a) e)
  where
    go : (t : Bool) → is_check n ≡ t → (grown h n a ≡ 0) × ((i : ℕ) → i < n → is_check i ≡ false → bit h i ≡ 0)
        → (a ≡ 0) × ((i : ℕ) → i < suc n → is_check i ≡ false → bit h i ≡ 0)
    go t is ih =
        let was : pick t a (a * 2 + bit h n) ≡ 0 = subst (λ (b : Bool). pick b a (a * 2 + bit h n) ≡ 0) is ih.0 in
        (first t was, λ i l no-check. last i no-check (eq-or-lt_of_le (le_of_suc-le-suc l)))
      where
        first : (t : Bool) → pick t a (a * 2 + bit h n) ≡ 0 → a ≡ 0
        first true e = e
        first false e = omega arith

        low : (t : Bool) → t ≡ false → pick t a (a * 2 + bit h n) ≡ 0 → bit h n ≡ 0
        low t no-check e =
            let z : a * 2 + bit h n ≡ 0 = subst (λ (b : Bool). pick b a (a * 2 + bit h n) ≡ 0) no-check e in
            omega arith

        last : (i : ℕ) → is_check i ≡ false → (i ≡ n) ⊎ (i < n) → bit h i ≡ 0
        last i no-check (inl same) =
            subst (λ (k : ℕ). bit h k ≡ 0) (sym same) (low (is_check n) (subst (λ (k : ℕ). is_check k ≡ false) same no-check) ih.0)
        last i no-check (inr l) = ih.1 i l no-check

-- A sum with one term that is not 0 is that term.
count_one : (p : ℕ → ℕ) (h n c : ℕ) → c < n → ((i : ℕ) → i < n → (i ≡ c → ⊥) → p i * bit h i ≡ 0) → count p h n ≡ p c * bit h c
unfolding count
count_one p h zero c l others = absurd (not-suc-le-zero l)
count_one p h (suc n) c l others = go (eq-or-lt_of_le (le_of_suc-le-suc l)) (λ k. count_one p h n c k (λ i m ne. others i (lt_trans m (lt-suc_self n)) ne))
  where
    none : (m : ℕ) → m ≤ n → c ≡ n → count p h m ≡ 0
    none zero m e = refl
    none (suc m) le e =
        ap₂ ◌+◌ (others m (lt_trans le (lt-suc_self n)) (λ same. lt_irrefl m (subst (λ (k : ℕ). m < k) (sym e ∙ sym same) le)))
        (none m (omega arith) e)

    go : (c ≡ n) ⊎ (c < n) → (c < n → count p h n ≡ p c * bit h c) → p n * bit h n + count p h n ≡ p c * bit h c
    go (inl same) ih =
        let z : count p h n ≡ 0 = none n (omega arith) same in
        let e : p c * bit h c ≡ p n * bit h n = ap (λ (k : ℕ). p k * bit h k) same in
        omega arith
    go (inr k) ih =
        let z : p n * bit h n ≡ 0 = others n (lt-suc_self n) (λ same. lt_irrefl n (subst (λ (m : ℕ). m < n) (sym same) k)) in
        let e : count p h n ≡ p c * bit h c = ih k in
        omega arith

-- 0 has no ones.
pub bit_zero : (i : ℕ) → bit 0 i ≡ 0
bit_zero i = ap (λ (k : ℕ). k % 2) (zero-div (2 ^ i))

or_parts : (a b : Bool) → (a || b) ≡ true → (a ≡ true) ⊎ (b ≡ true)
or_parts true b e = inl e
or_parts false b e = inr e

-- Each check that is listed is even.
pub even_at : (n h c : ℕ) (cs : List ℕ) → all_even n h cs ≡ true → among c cs ≡ true → even n h c ≡ true
even_at n h c [] all is = absurd (subst T (sym is) tt)
even_at n h c (d ∷ cs) all is = go (or_parts (eqb c d) (among c cs) is) (even_at n h c cs parts.1)
  where
    parts : (even n h d ≡ true) × (all_even n h cs ≡ true)
    parts = and_parts (even n h d) (all_even n h cs) all

    go : (eqb c d ≡ true) ⊎ (among c cs ≡ true) → (among c cs ≡ true → even n h c ≡ true) → even n h c ≡ true
    go (inl e) ih = subst (λ (k : ℕ). even n h k ≡ true) (sym (eqb-true c d e)) parts.0
    go (inr e) ih = ih e

-- position i is not looked at by check c, unless it is c itself or no check
apart : ℕ → ℕ → Bool
apart c i = eqb i c || (not (is_check i) || eqb (covers c i) 0)

-- a check other than 0 looks at its own position and at no other check's
own : ℕ → Bool
unfolding apart
own c = (eqb c 0 || not (is_check c)) || both (eqb (covers c c) 1) (upto (apart c) 16)

own_at : (c : ℕ) → c < 16 → (c ≡ 0 → ⊥) → is_check c ≡ true → T (both (eqb (covers c c) 1) (upto (apart c) 16))
unfolding own is_check covers apart
own_at c l ne is =
    subst (λ (b : Bool). T ((false || not b) || both (eqb (covers c c) 1) (upto (apart c) 16))) is
    (subst (λ (b : Bool). T ((b || not (is_check c)) || both (eqb (covers c c) 1) (upto (apart c) 16))) (ne_eqb c 0 ne) (below own 16 tt c l))

module _ (n h : ℕ) (few : n ≤ 16) (code : is_code n h ≡ true) (bare : (i : ℕ) → i < n → is_check i ≡ false → bit h i ≡ 0) where
  -- a check that sees a one at most at its own position sees none
  lone : (c : ℕ) → c < n → covers c c ≡ 1 → ((i : ℕ) → i < n → (i ≡ c → ⊥) → covers c i * bit h i ≡ 0) → is_check c ≡ true → bit h c ≡ 0
  unfolding even is_code is_check
  lone c l is-own others is =
      let e : count (covers c) h n ≡ bit h c = count_one (covers c) h n c l others ∙ ap (λ (k : ℕ). k * bit h c) is-own ∙ one-mul (bit h c) in
      let z : count (covers c) h n % 2 ≡ 0 = eqb-true (count (covers c) h n % 2) 0 (even_at n h c checks code is) in
      sym (mod-eq_of_lt (bit_lt h c)) ∙ ap (λ (k : ℕ). k % 2) (sym e) ∙ z

  unseen : (c i : ℕ) (t : Bool) → is_check i ≡ t → i < n → (i ≡ c → ⊥) → T (apart c i) → covers c i * bit h i ≡ 0
  unfolding apart
  unseen c i false is l ne ok = ap (λ (k : ℕ). covers c i * k) (bare i l is) ∙ mul-zero (covers c i)
  unseen c i true is l ne ok =
      let seen : T (eqb i c || (not true || eqb (covers c i) 0)) = subst (λ (b : Bool). T (eqb i c || (not b || eqb (covers c i) 0))) is ok in
      let zero_is : T (eqb (covers c i) 0) = subst (λ (b : Bool). T (b || (not true || eqb (covers c i) 0))) (ne_eqb i c ne) seen in
      ap (λ (k : ℕ). k * bit h i) (eqb→eq (covers c i) 0 zero_is) ∙ zero-mul (bit h i)

  -- no position but 0 has a one
  pub above : (i : ℕ) → i < n → (i ≡ 0 → ⊥) → bit h i ≡ 0
  above i l ne = by (is_check i) refl
    where
      by : (t : Bool) → is_check i ≡ t → bit h i ≡ 0
      by false is = bare i l is
      by true is =
          let ok = own_at i (lt_of_lt_of_le l few) ne is in
          lone i l (eqb→eq (covers i i) 1 (both_left (eqb (covers i i) 1) (upto (apart i) 16) ok))
          (λ j m other. unseen i j (is_check j) refl m other
          (below (apart i) 16 (both_right (eqb (covers i i) 1) (upto (apart i) 16) ok) j (lt_of_lt_of_le m few))) is

  -- and then neither has 0
  pub lowest : 0 < n → bit h 0 ≡ 0
  unfolding covers is_check
  lowest l = lone 0 l refl (λ i m ne. ap (λ (k : ℕ). 1 * k) (above i m ne)) refl

-- A code word of at most sixteen bits that carries the figure 0 is 0.
pub zero_word : (n h : ℕ) → n ≤ 16 → h < 2 ^ n → is_code n h ≡ true → figure n h ≡ 0 → h ≡ 0
unfolding figure
zero_word n h few small code e =
    bits_ext h 0 n small (pow_pos n) (λ i l. go i l i refl ∙ sym (bit_zero i))
  where
    bare : (i : ℕ) → i < n → is_check i ≡ false → bit h i ≡ 0
    bare = (onwards_zero h n 0 e).1

    go : (i : ℕ) → i < n → (k : ℕ) → k ≡ i → bit h i ≡ 0
    go i l zero is = subst (λ (j : ℕ). bit h j ≡ 0) is (lowest n h few code bare (subst (λ (j : ℕ). j < n) (sym is) l))
    go i l (suc k) is = above n h few code bare i l (λ z. suc_not_zero k (is ∙ z))
      where
        suc_not_zero : (m : ℕ) → suc m ≡ 0 → ⊥
        suc_not_zero m q = omega arith
