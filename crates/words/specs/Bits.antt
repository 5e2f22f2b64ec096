-- Words as numbers, and their bits: bit 0 is the lowest.
-- Assumes nothing.
use Rattle.std.specs.Prelude.{ℕ, zero, suc, ◌+◌, ◌*◌, ◌/◌, ◌%◌, ◌^◌}

-- Bit i of the word w: 0 or 1.
abbrev pub bit : ℕ → ℕ → ℕ
bit w i = w / 2 ^ i % 2

-- The word of n bits whose bit i is `f i`.
unfoldable pub word : (ℕ → ℕ) → ℕ → ℕ
word f zero = 0
word f (suc n) = f n * 2 ^ n + word f n

-- How many of the n lowest bits of the word w are ones.
unfoldable pub ones_of : ℕ → ℕ → ℕ
ones_of w zero = 0
ones_of w (suc n) = bit w n + ones_of w n
