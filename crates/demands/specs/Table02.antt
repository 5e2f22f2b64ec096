-- The rows that document 02 adds to the table of refusal numbers, and what 2 and 3 are where
-- several figures are written at once. Each condition stands alone, and names no number.
-- Assumes nothing.
use Rattle.std.specs.Prelude.{ℕ, ◌+◌, ◌*◌, ◌/◌, Bool, false, not, ◌||◌, List, eqb, leb, ltb, length}
use Rattle.words.specs.Answer.{pick}
use Rattle.demands.specs.Table.{above}

-- 2, of X, Y and Z "as figures (for X = 12 one figure to 2,047)": "figure to write above 15 or
-- above 2,047"
unfoldable pub some_above : ℕ → ℕ → ℕ → Bool
some_above x y z = pick (eqb x 12) (above 2047 y) (above 15 x || above 15 y || above 15 z)

-- 3, of the same: "a short word of a telegram reads 15"
unfoldable pub some_fifteen : ℕ → ℕ → ℕ → Bool
some_fifteen x y z = pick (eqb x 12) false (eqb x 15 || eqb y 15 || eqb z 15)

-- 20: "n out of range", which is "from 2 to 1,000"
unfoldable pub bad_count : ℕ → Bool
bad_count n = ltb n 2 || ltb 1000 n

-- 21: "a short buffer": "4n + 1 bytes" have no room in it
unfoldable pub short_buffer : ℕ → List ℕ → Bool
short_buffer n out = ltb (length out) (4 * n + 1)

-- 18: "a place above 4,000,000,000, added or asked"
unfoldable pub too_high : ℕ → Bool
too_high place = ltb 4000000000 place

-- 22: "for back exactly if the kept count is 0"
unfoldable pub nothing_kept : ℕ → Bool
nothing_kept kept = eqb kept 0

-- 23: "for forward exactly at the end": as many records lie before the viewer as the trace has, of
-- 8 bytes each
unfoldable pub at_end : List ℕ → ℕ → Bool
at_end trace number = leb (length trace / 8) number

-- 24: "an added place not above the last"
unfoldable pub not_above : ℕ → ℕ → Bool
not_above last place = leb place last

-- 24, of a lent store: its first version is not at place 0
unfoldable pub starts_late : ℕ → Bool
starts_late place = not (eqb place 0)

-- 25: "a 33rd version", added to a store of so many; and of a lent store, which has more than 32
unfoldable pub full : ℕ → Bool
full count = not (ltb count 32)

unfoldable pub overfull : ℕ → Bool
overfull count = ltb 32 count
