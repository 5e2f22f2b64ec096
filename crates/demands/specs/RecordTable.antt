-- Document 01's table of refusal numbers, from the trace and its records on (16 to 19), as
-- Table.antt has the rows before them.
-- Assumes nothing.
use Rattle.std.specs.Prelude.{ℕ, ◌%◌, Bool, not, ◌&&◌, ◌||◌, List, eqb, ltb, leb, length, get_or}
use Rattle.ride.specs.Record.{odometer_of}

-- 16: "trace length not a multiple of 8"
unfoldable pub bad_length : List ℕ → Bool
bad_length trace = not (eqb (length trace % 8) 0)

-- Whether one of bytes 5 to 7 of a record is not zero.
abbrev pub some_not_zero : List ℕ → Bool
some_not_zero r = ltb 0 (get_or r 5 0) || ltb 0 (get_or r 6 0) || ltb 0 (get_or r 7 0)

-- 16: "kind above 3, or bytes 5 to 7 not zero where they must be": "all zero for kinds 1 to 3".
-- Byte 4 is the kind.
unfoldable pub bad_record : List ℕ → Bool
bad_record r = ltb 3 (get_or r 4 0) || (leb 1 (get_or r 4 0) && some_not_zero r)

-- 17: "odometer below the last accepted one"
unfoldable pub went_back : ℕ → List ℕ → Bool
went_back last r = ltb (odometer_of r) last

-- 18: "odometer above 4,000,000,000"
unfoldable pub too_far : List ℕ → Bool
too_far r = ltb 4000000000 (odometer_of r)

-- 19: "gap outside 1 to 200"
unfoldable pub bad_gap : ℕ → Bool
bad_gap gap = ltb gap 1 || ltb 200 gap
