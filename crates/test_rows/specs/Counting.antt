-- What is counted over a file's entries.
-- Assumes nothing.
use Rattle.std.specs.Prelude.{Bool, true, not}
use Rattle.figures.specs.Fields.{more}
use Rattle.test_rows.specs.declared.tally.Tally.{Tally}

-- Nothing counted.
abbrev pub no_entries : Tally
no_entries = record { compared = 0; righted = 0; differences = 0 }

-- One entry more, by whether what the scan shows was put right, and whether it came as it must.
unfoldable pub one_entry : Tally → Bool → Bool → Tally
one_entry t righted so = record { compared = more t.compared true; righted = more t.righted righted; differences = more t.differences (not so) }
