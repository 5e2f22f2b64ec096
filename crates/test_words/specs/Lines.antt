-- A line of table NR's file: the figure, the cell as the scan shows it, and the four hexadecimal
-- digits read off the cell or `-`; of a cell that was put right, the four digits put right, and
-- why. A tab stands between two columns; a line that begins with # is a comment.
-- Assumes nothing.
use Rattle.std.specs.Prelude.{ℕ, ◌+◌, ◌*◌, Bool, ◌&&◌, List, eqb, ltb, length, get_or, take, drop, Result, Ok, Err, Option, Some, None, option_map}
use Rattle.words.specs.Answer.{pick}
use Rattle.figures.specs.Figures.{decimal, hex}
use Rattle.figures.specs.declared.NotFigure.{NotFigure}
use Rattle.figures.specs.Fields.{field}
use Rattle.test_words.specs.declared.cells.Cell.{Cell}
use Rattle.test_words.specs.declared.cells.Shown.{Shown}

-- Whether a text begins with the sign.
unfoldable pub begins : List ℕ → ℕ → Bool
begins text sign = ltb 0 (length text) && eqb (get_or text 0 0) sign

-- Two bytes, each of two hexadecimal digits, as one word.
abbrev pub joined : Option ℕ → Option ℕ → Option ℕ
joined (Some y) (Some z) = Some (y * 256 + z)
joined (Some y) None = None
joined None w = None

-- The word that four hexadecimal digits spell.
unfoldable pub word_by : List ℕ → Option ℕ
word_by text = pick (eqb (length text) 4) (joined (hex (take 2 text)) (hex (take 2 (drop 2 text)))) None

-- What was read off a cell: `-` where it is unreadable.
unfoldable pub shown_by : List ℕ → Option Shown
shown_by text = pick (eqb (length text) 1 && begins text 45) (Some Shown.Unreadable) (option_map Shown.Word (word_by text))

-- What the cell of a figure holds, by what was read off it.
abbrev pub held_by : ℕ → Shown → Cell
held_by figure (Shown.Word w) = Cell.Word figure w
held_by figure Shown.Unreadable = Cell.Unreadable figure

-- The same of a cell that was put right: the word put right, beside a wrong one or none that was
-- read off it.
abbrev pub righted : ℕ → Shown → ℕ → Cell
righted figure (Shown.Word wrong) w = Cell.Misread figure wrong w
righted figure Shown.Unreadable w = Cell.Right figure w

abbrev pub put_right : ℕ → Option Shown → Option ℕ → Option Cell
put_right figure (Some off) (Some w) = Some (righted figure off w)
put_right figure (Some off) None = None
put_right figure None w = None

-- A column of a line, counted from 0. A tab is 9.
abbrev pub column : List ℕ → ℕ → List ℕ
column line k = field line 9 k

-- By the columns after the cell: a cell that was put right has two more, the word and why.
unfoldable pub columns_of : ℕ → List ℕ → Option Cell
columns_of figure line =
    pick (eqb (length (column line 3)) 0) (option_map (held_by figure) (shown_by (column line 2)))
    (pick (eqb (length (column line 4)) 0) None (put_right figure (shown_by (column line 2)) (word_by (column line 3))))

-- A line with a figure up to 2,047.
abbrev pub with_figure : List ℕ → Result ℕ NotFigure → Option Cell
with_figure line (Ok n) = columns_of n line
with_figure line (Err e) = None

-- What a line holds. The sign # is 35.
unfoldable pub cell_of : List ℕ → Option Cell
cell_of line = pick (begins line 35) (Some Cell.Comment) (with_figure line (decimal (column line 0) 2047))
