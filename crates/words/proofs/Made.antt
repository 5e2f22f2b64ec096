-- Making the checks even one after the other leaves every check even and every other position as it
-- was.
-- Assumes nothing.
use mathlib.Core.Path.{◌≡◌, refl, sym, ap, ap₂, ◌∙◌, subst}
use mathlib.Core.Logic.{◌⊎◌, inl, inr}
use mathlib.Core.Bool.{Bool}
use Prim.Native.Nat.{ℕ, zero, suc, ◌+◌, ◌*◌, ◌/◌, ◌%◌, ◌^◌, ◌≤◌, ◌<◌}
use native.Mathlib.Nat.{not-suc-le-zero, le_of_suc-le-suc, lt-suc_self, lt_trans, eq-or-lt_of_le, zero-mul, mul-zero, one-mul, add-zero, div-eq_of_lt, lt_irrefl}
use native.Mathlib.Decide.{dec_lt}
use native.Mathlib.Omega.{arith}
use lib.Dec.{eqb}
use borrow.Author.Tests.{eq-eqb, ne_eqb}
use Rattle.words.specs.Answer.{pick}
use Rattle.words.specs.Bits.{bit, word}
use Rattle.words.specs.Plain.{covers, count, made_even}
use Rattle.words.proofs.Digits.{bit_lt, word_lt, bit_word, word_bits}
use Rattle.words.proofs.Counting.{pick_lt}

-- the bits of h, but b at position c
abbrev with_bit : ℕ → ℕ → ℕ → ℕ → ℕ
with_bit h c b i = pick (eqb i c) b (bit h i)

with_bit_lt : (h c b : ℕ) → b < 2 → (i : ℕ) → with_bit h c b i < 2
with_bit_lt h c b l i = pick_lt (eqb i c) b (bit h i) 2 l (bit_lt h i)

at_c : (h c b : ℕ) → with_bit h c b c ≡ b
at_c h c b = ap (λ (t : Bool). pick t b (bit h c)) (eq-eqb c c refl)

off_c : (h c b i : ℕ) → (i ≡ c → ⊥) → with_bit h c b i ≡ bit h i
off_c h c b i ne = ap (λ (t : Bool). pick t b (bit h i)) (ne_eqb i c ne)

-- A word that has 0 at position c, with b put there.
word_with : (h c b n : ℕ) → bit h c ≡ 0 → c < n → word (with_bit h c b) n ≡ word (bit h) n + b * 2 ^ c
unfolding word
word_with h c b zero free l = absurd (not-suc-le-zero l)
word_with h c b (suc n) free l = go (eq-or-lt_of_le (le_of_suc-le-suc l)) (word_with h c b n free)
  where
    below : (m : ℕ) → m ≤ n → c ≡ n → word (with_bit h c b) m ≡ word (bit h) m
    below zero le e = refl
    below (suc m) le e =
        ap₂ (λ (x y : ℕ). x * 2 ^ m + y)
        (off_c h c b m (λ same. lt_irrefl m (subst (λ (k : ℕ). m < k) (sym e ∙ sym same) le))) (below m (omega arith) e)

    go : (c ≡ n) ⊎ (c < n) → (c < n → word (with_bit h c b) n ≡ word (bit h) n + b * 2 ^ c)
        → with_bit h c b n * 2 ^ n + word (with_bit h c b) n ≡ (bit h n * 2 ^ n + word (bit h) n) + b * 2 ^ c
    go (inl e) ih =
        let one : with_bit h c b n * 2 ^ n ≡ b * 2 ^ c = subst (λ (k : ℕ). with_bit h c b k * 2 ^ k ≡ b * 2 ^ c) e (ap (λ (k : ℕ). k * 2 ^ c) (at_c h c b)) in
        let rest : word (with_bit h c b) n ≡ word (bit h) n = below n (omega arith) e in
        let none : bit h n * 2 ^ n ≡ 0 = ap (λ (k : ℕ). bit h k * 2 ^ n) (sym e) ∙ ap (λ (k : ℕ). k * 2 ^ n) free ∙ zero-mul (2 ^ n) in
        omega arith
    go (inr k) ih =
        let same : with_bit h c b n * 2 ^ n ≡ bit h n * 2 ^ n =
        ap (λ (m : ℕ). m * 2 ^ n) (off_c h c b n (λ e. lt_irrefl n (subst (λ (m : ℕ). m < n) (sym e) k))) in
        let rest : word (with_bit h c b) n ≡ word (bit h) n + b * 2 ^ c = ih k in
        omega arith

-- Counts that see no difference are equal.
pub count_same : (p : ℕ → ℕ) (g h n : ℕ) → ((i : ℕ) → i < n → p i * bit g i ≡ p i * bit h i) → count p g n ≡ count p h n
unfolding count
count_same p g h zero same = refl
count_same p g h (suc n) same = ap₂ ◌+◌ (same n (lt-suc_self n)) (count_same p g h n (λ i l. same i (lt_trans l (lt-suc_self n))))

-- A count that sees b more, at position c.
count_with : (p : ℕ → ℕ) (g h n c b : ℕ) → c < n → p c ≡ 1 → bit h c ≡ 0 → bit g c ≡ b
    → ((i : ℕ) → i < n → (i ≡ c → ⊥) → bit g i ≡ bit h i) → count p g n ≡ count p h n + b
unfolding count
count_with p g h zero c b l own free set others = absurd (not-suc-le-zero l)
count_with p g h (suc n) c b l own free set others =
    go (eq-or-lt_of_le (le_of_suc-le-suc l)) (λ k. count_with p g h n c b k own free set (λ i m ne. others i (lt_trans m (lt-suc_self n)) ne))
  where
    go : (c ≡ n) ⊎ (c < n) → (c < n → count p g n ≡ count p h n + b) → p n * bit g n + count p g n ≡ (p n * bit h n + count p h n) + b
    go (inl e) ih =
        let rest : count p g n ≡ count p h n =
        count_same p g h n (λ i m. ap (λ (k : ℕ). p i * k) (others i (lt_trans m (lt-suc_self n)) (λ same. lt_irrefl n (subst (λ (k : ℕ). k < n) (same ∙ e) m)))) in
        let new : p n * bit g n ≡ b = subst (λ (k : ℕ). p k * bit g k ≡ b) e (ap₂ ◌*◌ own set ∙ one-mul b) in
        let old : p n * bit h n ≡ 0 = subst (λ (k : ℕ). p k * bit h k ≡ 0) e (ap (λ (k : ℕ). p c * k) free ∙ mul-zero (p c)) in
        omega arith
    go (inr k) ih =
        let here : p n * bit g n ≡ p n * bit h n = ap (λ (m : ℕ). p n * m) (others n (lt-suc_self n) (λ e. lt_irrefl n (subst (λ (m : ℕ). m < n) (sym e) k))) in
        let rest : count p g n ≡ count p h n + b = ih k in
        omega arith

-- What making check c even gives: n bits, the other positions as they were, and the check even.
pub record Evened (n h g c : ℕ) : Type 0 where
  pub small : g < 2 ^ n
  pub elsewhere : (i : ℕ) → i < n → (i ≡ c → ⊥) → bit g i ≡ bit h i
  pub evened : count (covers c) g n % 2 ≡ 0

-- a check beyond the word sees nothing
count_beyond : (c h n : ℕ) → n ≤ c → 0 < c → count (covers c) h n ≡ 0
unfolding count covers
count_beyond c h zero l pos = refl
count_beyond c h (suc n) l pos =
    let unseen : covers c n ≡ 0 =
    ap (λ (t : Bool). pick t 1 (n / c % 2)) (ne_eqb c 0 (λ e. lt_irrefl 0 (subst (λ (k : ℕ). 0 < k) e pos))) ∙ ap (λ (k : ℕ). k % 2) (div-eq_of_lt l) in
    ap₂ ◌+◌ (ap (λ (k : ℕ). k * bit h n) unseen ∙ zero-mul (bit h n)) (count_beyond c h n (omega arith) pos)

pub evened_is : (n h c : ℕ) → 0 < n → h < 2 ^ n → covers c c ≡ 1 → (c < n → bit h c ≡ 0) → Evened n h (made_even n h c) c
unfolding made_even
evened_is n h c pos small own free = go (dec_lt c n)
  where
    b : ℕ
    b = count (covers c) h n % 2

    go : Dec (c < n) → Evened n h (h + count (covers c) h n % 2 * 2 ^ c) c
    go (yes l) =
        let b_lt : b < 2 = omega arith in
        let is : word (with_bit h c b) n ≡ h + b * 2 ^ c = word_with h c b n (free l) l ∙ ap (λ (k : ℕ). k + b * 2 ^ c) (word_bits h n small) in
        let bits : (i : ℕ) → i < n → bit (h + b * 2 ^ c) i ≡ with_bit h c b i =
        λ i m. ap (λ (k : ℕ). bit k i) (sym is) ∙ bit_word (with_bit h c b) (with_bit_lt h c b b_lt) n i m in
        let others : (i : ℕ) → i < n → (i ≡ c → ⊥) → bit (h + b * 2 ^ c) i ≡ bit h i = λ i m ne. bits i m ∙ off_c h c b i ne in
        let sum : count (covers c) (h + b * 2 ^ c) n ≡ count (covers c) h n + b =
        count_with (covers c) (h + b * 2 ^ c) h n c b l own (free l) (bits c l ∙ at_c h c b) others in
        record { small = subst (λ (k : ℕ). k < 2 ^ n) is (word_lt (with_bit h c b) (with_bit_lt h c b b_lt) n); elsewhere = others; evened = omega arith }
    go (no far) =
        let none : count (covers c) h n ≡ 0 = count_beyond c h n (omega arith) (omega arith) in
        let same : h + count (covers c) h n % 2 * 2 ^ c ≡ h = ap (λ (k : ℕ). h + k % 2 * 2 ^ c) none ∙ ap (λ (k : ℕ). h + k) (zero-mul (2 ^ c)) ∙ add-zero h in
        record {
          small = subst (λ (k : ℕ). k < 2 ^ n) (sym same) small;
          elsewhere = λ i m ne. ap (λ (k : ℕ). bit k i) same;
          evened = ap (λ (k : ℕ). count (covers c) k n % 2) same ∙ ap (λ (k : ℕ). k % 2) none;
        }
