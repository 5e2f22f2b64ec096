-- The history is the latest sixteen bits of the line, newest lowest: a new bit comes in below,
-- every other moves up by one.
-- Assumes nothing.
use Prim.Native.Nat.{ℕ, zero, suc, ◌+◌, ◌-◌, ◌*◌, ◌/◌, ◌%◌, ◌^◌, ◌<◌}
use mathlib.Core.Path.{◌≡◌, sym, ap, ◌∙◌}
use mathlib.Core.List.{List}
use native.Mathlib.Numerals.{add-one}
use native.Mathlib.Omega.{arith}
use borrow.Author.Tests.{lt-ltb, le-ltb}
use lib.Dec.{ltb, leb-suc-suc}
use lib.Pow.{field, mod-mod-pow, shr-shr, ones_split, high, ones_lt}
use Rattle.words.specs.Answer.{pick}
use Rattle.words.specs.Bits.{bit}
use Rattle.telegram.specs.Stretch.{bit_at}
use Rattle.contact.specs.History.{sixteen_ones, after}

-- The newest bit is the lowest.
pub newest : (h b : ℕ) → b < 2 → bit (after h b) 0 ≡ b
unfolding after
newest h b small = omega arith

-- Every other is the one that was below it.
pub older : (h b k : ℕ) → b < 2 → k < 15 → bit (after h b) (k + 1) ≡ bit h k
unfolding after
older h b k small low =
    let n = h * 2 + b in
    let j = 14 - k in
    let sixteen : 16 ≡ j + 1 + (k + 1) = omega arith in
    let half : n / 2 ≡ h = omega arith in
    let flip : k + 1 ≡ 1 + k = omega arith in
    ap (λ (x : ℕ). n % 2 ^ x / 2 ^ (k + 1) % 2) sixteen
    ∙ ap (λ (x : ℕ). x % 2) (field n (j + 1) (k + 1))
    ∙ mod-mod-pow (n / 2 ^ (k + 1)) j 1
    ∙ ap (λ (x : ℕ). n / 2 ^ x % 2) flip
    ∙ ap (λ (x : ℕ). x % 2) (sym (shr-shr n 1 k))
    ∙ ap (λ (x : ℕ). x / 2 ^ k % 2) half

-- Each of the sixteen ones at first is a one.
one : (k : ℕ) → k < 16 → bit sixteen_ones k ≡ 1
one k low =
    let j = 15 - k in
    let sixteen : 16 ≡ j + 1 + k = omega arith in
    ap (λ (x : ℕ). (2 ^ x - 1) / 2 ^ k % 2) sixteen
    ∙ ap (λ (x : ℕ). x / 2 ^ k % 2) (ones_split (j + 1) k)
    ∙ ap (λ (x : ℕ). x % 2) (high (2 ^ (j + 1) - 1) k (ones_lt k))
    ∙ ap (λ (x : ℕ). x % 2) (ones_split j 1)
    ∙ odd (2 ^ j - 1)
  where
    odd : (x : ℕ) → (x * 2 + 1) % 2 ≡ 1
    odd x = omega arith

-- The history after n bits of a stretch.
unfoldable pub heard : List ℕ → ℕ → ℕ → ℕ
heard b start zero = sixteen_ones
heard b start (suc n) = after (heard b start n) (bit_at b (start + n))

-- Its bit k is the line's bit k before the newest, or one of the sixteen ones where the stretch had
-- not begun.
pub latest : (b : List ℕ) (start n k : ℕ) → k < 16 → bit (heard b start n) k ≡ pick (ltb k n) (bit_at b (start + (n - (k + 1)))) 1
unfolding heard
latest b start zero k low = simp (le-ltb k 0 (omega arith)) (one k low)
latest b start (suc n) zero low =
    let back : suc n - 1 ≡ n = omega arith in
    newest (heard b start n) (bit_at b (start + n)) (omega arith) ∙ sym (simp (lt-ltb 0 (suc n) (omega arith), back))
latest b start (suc n) (suc k) low =
    let back : suc n - (suc k + 1) ≡ n - (k + 1) = omega arith in
    ap (λ (x : ℕ). bit (after (heard b start n) (bit_at b (start + n))) x) (sym (add-one k))
    ∙ older (heard b start n) (bit_at b (start + n)) k (omega arith) (omega arith)
    ∙ latest b start n k (omega arith)
    ∙ sym (simp (leb-suc-suc (suc k) n, back))
