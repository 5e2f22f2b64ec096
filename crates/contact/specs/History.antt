-- The detector's history (document 01, "Contacts and readings"): the latest sixteen bits of the
-- line, as a number whose lowest bit is the newest.
-- Assumes nothing.
use Rattle.std.specs.Prelude.{ℕ, zero, suc, ◌+◌, ◌-◌, ◌*◌, ◌%◌, Bool, leb}
use Rattle.words.specs.Bits.{bit}

-- "The detector begins with sixteen ones as history."
abbrev pub sixteen_ones : ℕ
sixteen_ones = 65535

-- The history after one more bit: the bit comes in, and the oldest of the sixteen drops out.
unfoldable pub after : ℕ → ℕ → ℕ
after history b = (history * 2 + b) % 65536

-- How many of the n lowest bits of the word w are zeroes.
unfoldable pub zeroes_of : ℕ → ℕ → ℕ
zeroes_of w zero = 0
zeroes_of w (suc n) = (1 - bit w n) + zeroes_of w n

-- The zeroes among the latest sixteen.
unfoldable pub zeroes : ℕ → ℕ
zeroes history = zeroes_of history 16

-- Outside a contact: whether the newest bit opens one, by bringing the zeroes among the latest
-- sixteen to 8 or more.
unfoldable pub opens : ℕ → Bool
opens history = leb 8 (zeroes history)

-- Inside a contact: whether the newest bit closes it, by bringing them to 4 or fewer.
unfoldable pub closes : ℕ → Bool
closes history = leb (zeroes history) 4
