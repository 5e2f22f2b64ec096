-- `none` counts no cells of either kind.
use mathlib.Core.Path.{ap₂}
use Rattle.test_words.specs.declared.counts.Cells.{Cells}
use Rattle.test_words.specs.declared.counts.Counts.{Counts}
use Rattle.test_words.proofs.counts.none.Goals as goal

-- nothing counted but cells of two kinds
abbrev only : Cells → Cells → Counts
only x y = record { cells = 0; readable = x; right = y; misread = 0; refused = 0; absent = 0; unreadable = 0; differences = 0; next = 0 }

pub returns : goal.returns
returns c = ap₂ only c.no_cells.ensures c.no_cells-2.ensures
