-- 48 bits of the line at once: the history after each of them is sixteen bits of one word, and
-- where none of them opens or closes, the detector stays where it stands.
-- Assumes nothing.
use Prim.Native.Nat.{ℕ, zero, suc, ◌+◌, ◌-◌, ◌*◌, ◌/◌, ◌%◌, ◌^◌, ◌≤◌, ◌<◌}
use mathlib.Core.Path.{◌≡◌, sym, ap, ap₂, subst, ◌∙◌}
use mathlib.Core.List.{List}
use native.Mathlib.Nat.{mul_assoc, pow-suc, add-mul}
use native.Mathlib.Numerals.{add-one}
use native.Mathlib.Omega.{arith}
use lib.Count.{ones}
use lib.Pow.{high, pow-add}
use Rattle.words.specs.Bits.{bit}
use Rattle.telegram.specs.Stretch.{bit_at, bits_at}
use Rattle.telegram.proofs.Window.{bits_lt, cut}
use Rattle.contact.specs.History.{after, zeroes_of, zeroes}
use Rattle.contact.specs.Contacts.{Mode, contacts}
use Rattle.contact.proofs.Counts.{zeroes_and_ones}
use Rattle.contact.proofs.Stays.{on, behind}

-- Only the sixteen lowest bits count.
low_zeroes : (x : ℕ) → zeroes_of (x % 65536) 16 ≡ zeroes_of x 16
low_zeroes x =
    let same : x % 65536 % 65536 ≡ x % 65536 = omega arith in
    omega (arith, zeroes_and_ones (x % 65536) 16, zeroes_and_ones x 16, ap ones same)

module _ (b : List ℕ) (h i : ℕ) (small : h < 65536) where
  -- The history after n bits.
  on_is : (n : ℕ) → on b h i n ≡ (h * 2 ^ n + bits_at b i n) % 65536
  unfolding bits_at after
  on_is zero = omega arith
  on_is (suc n) =
      let shift : h * 2 ^ suc n ≡ h * 2 ^ n * 2 = ap (λ (k : ℕ). h * k) (pow-suc 2 n) ∙ sym (mul_assoc h (2 ^ n) 2) in
      let before = on_is n in
      omega arith

  module _ (w : ℕ) (w_is : w ≡ h * 2 ^ 48 + bits_at b i 48) where
    part : (n : ℕ) → n ≤ 48 → w / 2 ^ (48 - n) ≡ h * 2 ^ n + bits_at b i n
    part n low =
        let m = 48 - n in
        let whole : 48 ≡ n + m = omega arith in
        let split : w ≡ (h * 2 ^ n + bits_at b i n) * 2 ^ m + bits_at b (i + n) m =
        w_is ∙ ap (λ (k : ℕ). h * 2 ^ k + bits_at b i k) whole
        ∙ ap₂ (λ (x y : ℕ). x + y) (ap (λ (x : ℕ). h * x) (pow-add 2 n m) ∙ sym (mul_assoc h (2 ^ n) (2 ^ m))) (cut b i n m)
        ∙ regroup (h * 2 ^ n * 2 ^ m) (bits_at b i n * 2 ^ m) (bits_at b (i + n) m)
        ∙ ap (λ (x : ℕ). x + bits_at b (i + n) m) (sym (add-mul (h * 2 ^ n) (bits_at b i n) (2 ^ m))) in
        ap (λ (x : ℕ). x / 2 ^ m) split ∙ high (h * 2 ^ n + bits_at b i n) m (bits_lt b (i + n) m)
      where
        regroup : (x y z : ℕ) → x + (y + z) ≡ x + y + z
        regroup x y z = omega arith

    pub latest_is : (n : ℕ) → n ≤ 48 → w / 2 ^ (48 - n) % 65536 ≡ on b h i n
    latest_is n low = ap (λ (x : ℕ). x % 65536) (part n low) ∙ sym (on_is n)

    -- The zeroes after one bit more than j.
    pub zeroes_at : (j : ℕ) → j < 48 → zeroes (on b h i (suc j)) ≡ zeroes_of (w / 2 ^ (47 - j)) 16
    unfolding zeroes
    zeroes_at j low =
        let down : 48 - suc j ≡ 47 - j = omega arith in
        ap (λ (x : ℕ). zeroes_of x 16) (sym (latest_is (suc j) (omega arith)))
        ∙ low_zeroes (w / 2 ^ (48 - suc j)) ∙ ap (λ (n : ℕ). zeroes_of (w / 2 ^ n) 16) down

-- A turn of the walk in a mode: w holds the history h and the 48 bits from bit i on, of which the
-- first n leave the detector in its mode.
pub record Turn (b : List ℕ) (mode : Mode) (end h i w n : ℕ) : Type 0 where
  small : h < 65536
  word : w ≡ h * 2 ^ 48 + bits_at b i 48
  low : n ≤ 48
  stays : (k : ℕ) → k < n → i + k < end → contacts b mode (on b h i k) (i + k) (end - (i + k)) ≡ contacts b mode (on b h i (suc k)) (i + k + 1) (end - (i + k + 1))

-- The marks of a word make one: where bit 47 - j of m is not set, the zeroes after bit j of the 48
-- are such that the detector stays.
module _ (b : List ℕ) (mode : Mode) (end : ℕ) (Such : ℕ → Type 0)
    (still : (h i : ℕ) → i < end → Such (zeroes (after h (bit_at b i))) → contacts b mode h i (end - i) ≡ contacts b mode (after h (bit_at b i)) (i + 1) (end - (i + 1))) where
  pub by_marks : (h i w m n : ℕ) → h < 65536 → w ≡ h * 2 ^ 48 + bits_at b i 48
      → ((k : ℕ) → k + 16 ≤ 64 → bit m k ≡ 0 → Such (zeroes_of (w / 2 ^ k) 16)) → n ≤ 48 → ((j : ℕ) → j < n → bit m (47 - j) ≡ 0) → Turn b mode end h i w n
  by_marks h i w m n small word marks low none = record {
    small = small;
    word = word;
    low = low;
    stays = λ k less below. still (on b h i k) (i + k) below
        (subst Such (sym (zeroes_at b h i small w word k (omega arith))) (marks (47 - k) (omega arith) (none k less)));
  }

module _ {b : List ℕ} {mode : Mode} {end h i w n : ℕ} (t : Turn b mode end h i w n) where
  -- Each of those first bits can be passed over,
  pub passed : (k : ℕ) → k ≤ n → i + k ≤ end → contacts b mode h i (end - i) ≡ contacts b mode (on b h i k) (i + k) (end - (i + k))
  passed k few room = behind b h i mode end k room (λ j less. t.stays j (omega arith) (omega arith))

  -- and where they are all 48, r is the history after them.
  pub all_passed : (r : ℕ) → r ≡ w / 2 ^ (48 - 48) % 65536 → 48 ≤ n → i + 48 ≤ end → contacts b mode h i (end - i) ≡ contacts b mode r (i + 48) (end - (i + 48))
  all_passed r is all room =
      passed 48 all room ∙ ap (λ (x : ℕ). contacts b mode x (i + 48) (end - (i + 48))) (sym (is ∙ latest_is b h i t.small w t.word 48 (omega arith)))

  -- The history after the bit behind them.
  pub then_is : (r : ℕ) → r ≡ w / 2 ^ (48 - (n + 1)) % 65536 → n < 48 → r ≡ on b h i (suc n)
  then_is r is less = is ∙ latest_is b h i t.small w t.word (n + 1) (omega arith) ∙ ap (on b h i) (add-one n)
