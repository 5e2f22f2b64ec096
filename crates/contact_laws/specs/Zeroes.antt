-- Zeroes among bits in a row: of a buffer, and of the line that a balise sends. By them a balise is
-- audible or broken.
-- Assumes nothing.
use Rattle.std.specs.Prelude.{ℕ, zero, suc, ◌+◌, ◌-◌, ◌≤◌, ◌<◌, List}
use Rattle.telegram.specs.Stretch.{bit_at}
use Rattle.balise_line.specs.Line.{OneBalise, sent_bit}

-- How many of the n bits of the buffer from bit i on are zeroes.
unfoldable pub zeroes_in : List ℕ → ℕ → ℕ → ℕ
zeroes_in b i zero = 0
zeroes_in b i (suc n) = zeroes_in b i n + (1 - bit_at b (i + n))

-- How many of the n line bits from j on are sent as zeroes.
unfoldable pub zeroes_sent : OneBalise → ℕ → ℕ → ℕ
zeroes_sent o j zero = 0
zeroes_sent o j (suc n) = zeroes_sent o j n + (1 - sent_bit o (j + n))

-- The fewest zeroes among sixteen bits in a row that keep a contact open: with four it closes.
abbrev pub fewest : ℕ
fewest = 5

-- Audible: every sixteen bits in a row of the balise's line have five zeroes or more. (The line
-- repeats itself after 64 bits, so this computes. Some sixteen have eight, so that a contact opens:
-- that is so of every balise.)
abbrev pub Audible : OneBalise → Type 0
Audible o = (j : ℕ) → fewest ≤ zeroes_sent o j 16

-- Broken: some sixteen have four or fewer.
abbrev pub Broken : OneBalise → Type 0
Broken o = (j : ℕ) × (zeroes_sent o j 16 < fewest)
