-- What is counted over table NR's cells.
-- Assumes nothing.
use Rattle.std.specs.Prelude.{ℕ, Bool, true, not}
use Rattle.figures.specs.Fields.{more}
use Rattle.test_words.specs.declared.counts.WordFound.{WordFound}
use Rattle.test_words.specs.declared.counts.Cells.{Cells}
use Rattle.test_words.specs.declared.counts.Counts.{Counts}

-- No cells of a kind, and nothing counted.
abbrev pub no_cells : Cells
no_cells = record { all = 0; written = 0; checked = 0; listed = 0 }

abbrev pub no_counts : Counts
no_counts = record { cells = 0; readable = no_cells; right = no_cells; misread = 0; refused = 0; absent = 0; unreadable = 0; differences = 0; next = 0 }

-- One cell more of a kind, by how its word was found.
unfoldable pub one_more : Cells → WordFound → Cells
one_more c f = record { all = more c.all true; written = more c.written f.written; checked = more c.checked f.checked; listed = more c.listed f.listed }

-- The differences with those of a word: one for each way in which it was not found as it should be.
unfoldable pub missed : ℕ → WordFound → ℕ
missed n f = more (more (more n (not f.written)) (not f.checked)) (not f.listed)

-- A readable cell; a cell that was put right.
unfoldable pub readable_cell : Counts → WordFound → Counts
readable_cell c f =
    record {
      cells = c.cells;
      readable = one_more c.readable f;
      right = c.right;
      misread = c.misread;
      refused = c.refused;
      absent = c.absent;
      unreadable = c.unreadable;
      differences = missed c.differences f;
      next = c.next;
    }

unfoldable pub right_cell : Counts → WordFound → Counts
right_cell c f =
    record {
      cells = c.cells;
      readable = c.readable;
      right = one_more c.right f;
      misread = c.misread;
      refused = c.refused;
      absent = c.absent;
      unreadable = c.unreadable;
      differences = missed c.differences f;
      next = c.next;
    }

-- A cell that the scan misreads: whether what it shows was refused by the checks, and is absent
-- from the list.
unfoldable pub misread_cell : Counts → Bool → Bool → Counts
misread_cell c refused absent =
    record {
      cells = c.cells;
      readable = c.readable;
      right = c.right;
      misread = more c.misread true;
      refused = more c.refused refused;
      absent = more c.absent absent;
      unreadable = c.unreadable;
      differences = more (more c.differences (not refused)) (not absent);
      next = c.next;
    }

-- A cell that shows no word.
unfoldable pub unreadable_cell : Counts → Counts
unreadable_cell c =
    record {
      cells = c.cells;
      readable = c.readable;
      right = c.right;
      misread = c.misread;
      refused = c.refused;
      absent = c.absent;
      unreadable = more c.unreadable true;
      differences = c.differences;
      next = c.next;
    }

-- A cell of whatever kind: whether its figure is the next one; the one after it stands next.
unfoldable pub any_cell : Counts → ℕ → Bool → Counts
any_cell c figure is_next =
    record {
      cells = more c.cells true;
      readable = c.readable;
      right = c.right;
      misread = c.misread;
      refused = c.refused;
      absent = c.absent;
      unreadable = c.unreadable;
      differences = more c.differences (not is_next);
      next = more figure true;
    }

-- A line that is no cell is a difference.
unfoldable pub unknown_line : Counts → Counts
unknown_line c =
    record {
      cells = c.cells;
      readable = c.readable;
      right = c.right;
      misread = c.misread;
      refused = c.refused;
      absent = c.absent;
      unreadable = c.unreadable;
      differences = more c.differences true;
      next = c.next;
    }
