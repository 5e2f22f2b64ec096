-- Many offsets at once: the outer bytes of a place differ as the sync words do, so where no two
-- bytes 32 bits apart differ so, no offset is a place.
-- Assumes nothing.
use Prim.Native.Nat.{ℕ, zero, suc, ◌+◌, ◌-◌, ◌*◌, ◌/◌, ◌%◌, ◌^◌, ◌≤◌, ◌<◌}
use mathlib.Core.Path.{◌≡◌, sym, ap, ap₂, ◌∙◌, subst}
use mathlib.Core.Bool.{false}
use mathlib.Core.List.{List}
use native.Mathlib.Nat.{add-zero, zero-div, le_trans, lt_of_le_of_lt}
use native.Mathlib.Omega.{arith}
use lib.Bits.{bit_xor, xor_shr, xor_mod}
use lib.Count.{count_leading_zeros, leading_le}
use lib.Pow.{shr-shr, shr_lt, shr_le, ones_lt}
use Rattle.telegram.specs.Stretch.{bits_at}
use Rattle.telegram.proofs.Bytes.{run_of}
use Rattle.telegram.proofs.Digits.{all_set, zeroes_above, none_above}
use Rattle.telegram.proofs.Outer.{no_pair}
use Rattle.telegram.proofs.Places.{paired, ahead, ahead_unpaired}

-- The largest word less its n highest bits: what is not above it has n leading zeroes.
pub room : (h n : ℕ) → n ≤ 64 → h ≤ (2 ^ 64 - 1) / 2 ^ n → n ≤ count_leading_zeros 64 h
room h n small below =
    let whole : 64 ≡ 64 - n + n = omega arith in
    let top : 2 ^ 64 - 1 < 2 ^ (64 - n + n) = subst (λ (m : ℕ). 2 ^ 64 - 1 < 2 ^ m) whole (ones_lt 64) in
    omega (arith, zeroes_above h (64 - n) (omega arith) (lt_of_le_of_lt below (shr_lt (64 - n) n top)))

-- Among the zeroes above the highest digit that is set, no digit is.
pub none_before : (h o j : ℕ) → o < 8 → h ≤ (2 ^ 64 - 1) / 2 ^ (7 + o) → j < count_leading_zeros 64 h - (7 + o) → h / 2 ^ (56 - o - j) % 2 ≡ 0
none_before h o j small below less =
    let k = 56 - o - j in
    let most = leading_le 64 h in
    let fits : h < 2 ^ 64 = lt_of_le_of_lt (le_trans below (shr_le (2 ^ 64 - 1) (7 + o))) (ones_lt 64) in
    ap (λ (n : ℕ). n % 2) (none_above h k fits (omega arith))

module _ (b : List ℕ) (s t : ℕ) where
  -- An offset that h does not mark, where h marks each at which two bytes 32 bits apart differ as
  -- the sync words do.
  pub unmarked : (p x y h : ℕ) → x ≡ bits_at b (8 * (p / 8)) 64 → y ≡ bits_at b (8 * (p / 8 + 4)) 64
      → ((k : ℕ) → k < 64 → (2 ^ 64 - 1) / 2 ^ (7 + p % 8) / 2 ^ k % 2 ≡ 1 → bit_xor y x / 2 ^ k % 256 ≡ bit_xor s t → h / 2 ^ k % 2 ≡ 1)
      → (j : ℕ) → j < 57 - p % 8 → h / 2 ^ (56 - p % 8 - j) % 2 ≡ 0 → paired b s t (p + j) ≡ false
  unmarked p x y h x_is y_is marks j less none =
      let n = 7 + p % 8 in
      let k = 56 - p % 8 - j in
      let here = 8 * (p / 8) in
      let there = 8 * (p / 8 + 4) in
      let inside : 64 ≡ p % 8 + j + 8 + k = omega arith in
      let first_at : here + (p % 8 + j) ≡ p + j = omega arith in
      let last_at : there + (p % 8 + j) ≡ p + j + 32 = omega arith in
      let differ : bit_xor y x / 2 ^ k % 256 ≡ bit_xor (bits_at b (p + j + 32) 8) (bits_at b (p + j) 8) =
      ap₂ (λ (l m : ℕ). bit_xor l m / 2 ^ k % 2 ^ 8) y_is x_is
      ∙ ap (λ (m : ℕ). m % 2 ^ 8) (xor_shr (bits_at b there 64) (bits_at b here 64) k)
      ∙ xor_mod (bits_at b there 64 / 2 ^ k) (bits_at b here 64 / 2 ^ k) 8
      ∙ ap₂ bit_xor (byte_of there (p % 8 + j) k (p + j + 32) inside last_at) (byte_of here (p % 8 + j) k (p + j) inside first_at) in
      let asked : (2 ^ 64 - 1) / 2 ^ n / 2 ^ k % 2 ≡ 1 =
      ap (λ (m : ℕ). m % 2) (shr-shr (2 ^ 64 - 1) n k) ∙ all_set (n + k) (omega arith) in
      no_pair s t (bits_at b (p + j) 8) (bits_at b (p + j + 32) 8)
      (λ e. let set : h / 2 ^ k % 2 ≡ 1 = marks k (omega arith) asked (differ ∙ e) in absurd (omega arith))
    where
      byte_of : (i m k q : ℕ) → 64 ≡ m + 8 + k → i + m ≡ q → bits_at b i 64 / 2 ^ k % 2 ^ 8 ≡ bits_at b q 8
      byte_of i m k q inside at =
          ap (λ (n : ℕ). bits_at b i n / 2 ^ k % 2 ^ 8) inside ∙ run_of b i m 8 k ∙ ap (λ (n : ℕ). bits_at b n 8) at

  -- Offsets without the sync words around them, one after the other.
  pub skipped : (stop p n : ℕ) → p + n ≤ stop → ((j : ℕ) → j < n → paired b s t (p + j) ≡ false)
      → ahead b s t stop p ≡ ahead b s t stop (p + n)
  skipped stop p zero h none = ap (ahead b s t stop) (sym (add-zero p))
  skipped stop p (suc n) h none =
      let next : p + n + 1 ≡ p + suc n = omega arith in
      skipped stop p n (omega arith) (λ j less. none j (omega arith))
      ∙ ahead_unpaired b s t stop (p + n) (omega arith) (none n (omega arith))
      ∙ ap (ahead b s t stop) next

  -- On to q, at most n offsets, of which none has them.
  passed : (stop p q n : ℕ) → p ≤ stop → q ≡ stop - (stop - (p + n)) → ((j : ℕ) → j < n → paired b s t (p + j) ≡ false)
      → ahead b s t stop p ≡ ahead b s t stop q
  passed stop p q n before few none =
      let end : p + (q - p) ≡ q = omega arith in
      skipped stop p (q - p) (omega arith) (λ j less. none j (omega arith)) ∙ ap (ahead b s t stop) end

  -- What the marks h from p on say.
  abbrev pub Marked : ℕ → ℕ → Type 0
  Marked p h = (j : ℕ) → j < 57 - p % 8 → h / 2 ^ (56 - p % 8 - j) % 2 ≡ 0 → paired b s t (p + j) ≡ false

  -- Past all offsets where there is no mark, and on to the first where there is.
  pub past_all : (stop p q h : ℕ) → p ≤ stop → q ≡ stop - (stop - (p + (57 - p % 8))) → Marked p h → h ≡ 0
      → ahead b s t stop p ≡ ahead b s t stop q
  past_all stop p q h before few marked none =
      passed stop p q (57 - p % 8) before few
      (λ j less.
      let k = 56 - p % 8 - j in
      marked j less (ap (λ (x : ℕ). x / 2 ^ k % 2) none ∙ ap (λ (x : ℕ). x % 2) (zero-div (2 ^ k))))

  pub to_mark : (stop p q h n : ℕ) → p ≤ stop → q ≡ stop - (stop - (p + n)) → Marked p h → n ≤ 57 - p % 8
      → ((j : ℕ) → j < n → h / 2 ^ (56 - p % 8 - j) % 2 ≡ 0) → ahead b s t stop p ≡ ahead b s t stop q
  to_mark stop p q h n before few marked low none =
      passed stop p q n before few (λ j less. marked j (omega arith) (none j less))
