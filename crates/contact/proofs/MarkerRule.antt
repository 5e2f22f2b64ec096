-- The marker's rule in the words of document 01: at least 64 bits long, and made of zeroes followed
-- by at most 11 ones.
-- Assumes nothing.
use mathlib.Core.Path.{◌≡◌, refl, sym, ap, ◌∙◌}
use mathlib.Core.Bool.{Bool, true, false, ◌&&◌}
use mathlib.Core.List.{List}
use mathlib.Core.Logic.{◌⊎◌, inl, inr}
use Prim.Native.Nat.{ℕ, zero, suc, ◌+◌, ◌-◌, ◌≤◌, ◌<◌}
use native.Mathlib.Nat.{not-suc-le-zero, eq-or-lt_of_le, le_of_suc-le-suc, lt-suc_self, lt_trans, add-suc, add-zero}
use native.Mathlib.Omega.{arith}
use lib.Dec.{leb, eqb}
use borrow.Author.Tests.{le-leb, leb-true, eq-eqb, eqb-true, eqb-false}
use Rattle.words.specs.Answer.{pick}
use Rattle.telegram.specs.Stretch.{bit_at}
use Rattle.telegram.proofs.Window.{bit_lt}
use Rattle.telegram.proofs.Taken.{both}
use Rattle.contact.specs.Judge.{ones_at_end, all_zero, is_marker}
use Rattle.contact.proofs.Markers.{no_ones, one_more}

-- The stretch of `len` bits from bit `start` on: zeroes, and then `ones` ones, at most 11.
pub record Marker (b : List ℕ) (start len : ℕ) : Type 0 where
  pub long : 64 ≤ len
  pub ones : ℕ
  pub few : ones ≤ 11
  pub zeroes_first : (i : ℕ) → i < len - ones → bit_at b (start + i) ≡ 0
  pub ones_last : (i : ℕ) → len - ones ≤ i → i < len → bit_at b (start + i) ≡ 1

-- A bit that is not 0 is 1.
one : (x : ℕ) → x < 2 → (x ≡ 0 → ⊥) → x ≡ 1
one zero h e = absurd (e refl)
one (suc zero) h e = refl
one (suc (suc x)) h e = absurd (omega arith)

module _ (b : List ℕ) (start : ℕ) where
  -- All zeroes, tested and said of each bit.
  zeroes_are : (n : ℕ) → all_zero b start n ≡ true → (i : ℕ) → i < n → bit_at b (start + i) ≡ 0
  unfolding all_zero
  zeroes_are zero e i h = absurd (not-suc-le-zero h)
  zeroes_are (suc n) e i h = go (eq-or-lt_of_le (le_of_suc-le-suc h)) (zeroes_are n bits.1 i)
    where
      bits : (eqb (bit_at b (start + n)) 0 ≡ true) × (all_zero b start n ≡ true)
      bits = both (eqb (bit_at b (start + n)) 0) (all_zero b start n) e

      go : (i ≡ n) ⊎ (i < n) → (i < n → bit_at b (start + i) ≡ 0) → bit_at b (start + i) ≡ 0
      go (inl same) on = ap (λ (k : ℕ). bit_at b (start + k)) same ∙ eqb-true _ _ bits.0
      go (inr less) on = on less

  are_zeroes : (n : ℕ) → ((i : ℕ) → i < n → bit_at b (start + i) ≡ 0) → all_zero b start n ≡ true
  unfolding all_zero
  are_zeroes zero all = refl
  are_zeroes (suc n) all = simp (eq-eqb _ _ (all n (lt-suc_self n)), are_zeroes n (λ i h. all i (lt_trans h (lt-suc_self n))))

  -- The ones at the end, counted and said of each bit.
  ones_are : (n i : ℕ) → n - ones_at_end b start n ≤ i → i < n → bit_at b (start + i) ≡ 1
  unfolding ones_at_end
  ones_are zero i low h = absurd (not-suc-le-zero h)
  ones_are (suc n) i low h = go (eqb (bit_at b (start + n)) 0) refl low (eq-or-lt_of_le (le_of_suc-le-suc h)) (ones_are n i)
    where
      go : (x : Bool) → eqb (bit_at b (start + n)) 0 ≡ x → suc n - pick x 0 (ones_at_end b start n + 1) ≤ i
          → (i ≡ n) ⊎ (i < n) → (n - ones_at_end b start n ≤ i → i < n → bit_at b (start + i) ≡ 1) → bit_at b (start + i) ≡ 1
      go true e low (inl same) on = let l : suc n - 0 ≤ i = low in absurd (omega arith)
      go true e low (inr less) on = let l : suc n - 0 ≤ i = low in absurd (omega arith)
      go false e low (inl same) on =
          ap (λ (k : ℕ). bit_at b (start + k)) same ∙ one (bit_at b (start + n)) (bit_lt b (start + n)) (eqb-false _ _ e)
      go false e low (inr less) on = let l : suc n - (ones_at_end b start n + 1) ≤ i = low in on (omega arith) less

  are_ones : (k n : ℕ) → ((i : ℕ) → n ≤ i → i < n + k → bit_at b (start + i) ≡ 1) → ones_at_end b start (n + k) ≡ ones_at_end b start n + k
  are_ones zero n all = ap (ones_at_end b start) (add-zero n) ∙ omega arith
  are_ones (suc k) n all =
      let last : bit_at b (start + (n + k)) ≡ 1 = all (n + k) (omega arith) (omega arith) in
      let more = one_more b start (n + suc k) (n + k) (add-suc n k) (λ z. let e : ◌≡◌ {A = ℕ} 0 1 = sym z ∙ last in omega arith) in
      let before = are_ones k n (λ i low h. all i low (omega arith)) in
      omega arith

-- What is judged a marker is one.
pub marker_is : (b : List ℕ) (start len : ℕ) → is_marker b start len ≡ true → Marker b start len
unfolding is_marker
marker_is b start len e =
    let k : ℕ = ones_at_end b start len in
    let zeroes = both (leb 64 len && leb k 11) (all_zero b start (len - k)) e in
    let sizes = both (leb 64 len) (leb k 11) zeroes.0 in
    record {
      long = leb-true _ _ sizes.0;
      ones = k;
      few = leb-true _ _ sizes.1;
      zeroes_first = zeroes_are b start (len - k) zeroes.1;
      ones_last = ones_are b start len;
    }

-- What is one is judged a marker.
pub is_marker_law : (b : List ℕ) (start len : ℕ) → Marker b start len → is_marker b start len ≡ true
unfolding is_marker
is_marker_law b start len m =
    let k : ℕ = m.ones in
    let long = m.long in
    let few = m.few in
    let whole : len - k + k ≡ len = omega arith in
    let before : len - k ≡ suc (len - k - 1) = omega arith in
    let zero-before = no_ones b start (len - k) (len - k - 1) before (m.zeroes_first (len - k - 1) (omega arith)) in
    let at_end = are_ones b start k (len - k) (λ i low h. m.ones_last i low (omega arith)) in
    let ones_is : ones_at_end b start len ≡ k = ap (ones_at_end b start) (sym whole) ∙ at_end ∙ omega arith in
    simp (le-leb _ _ long, ones_is, le-leb _ _ few, are_zeroes b start (len - k) m.zeroes_first)
