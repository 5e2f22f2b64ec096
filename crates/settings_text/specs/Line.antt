-- A line of the settings: `PLACE GAP S S*` for each version, decimal, decimal, two hex digits each.
-- Its words are those of the crate lines.
-- Assumes nothing.
use Rattle.std.specs.Prelude.{ℕ, eqb, get_or, Option, Some, None, Result, Ok, Err}
use Rattle.words.specs.Answer.{pick}
use Rattle.figures.specs.declared.NotFigure.{NotFigure}
use Rattle.lines.specs.declared.Word.{Word}
use Rattle.lines.specs.declared.TextLine.{TextLine}
use Rattle.lines.specs.Words.{largest, no_word}
use Rattle.settings_text.specs.declared.line.Stated.{Stated}

-- Word i of a line, the first at 0.
abbrev pub word_at : TextLine → ℕ → Word
word_at line i = get_or line.words i no_word

-- A number as a place or a gap. The largest of 32 bits stands for all above it: a number too large
-- for its type is refused as what it is, 18 or 19.
abbrev pub figure_of : Result ℕ NotFigure → Option ℕ
figure_of (Ok n) = Some n
figure_of (Err NotFigure.Above) = Some largest
figure_of (Err NotFigure.Odd) = None

-- A figure, or a sync word, goes on to what follows; without it the line is unreadable.
abbrev pub with_figure : Option ℕ → (ℕ → Stated) → Stated
with_figure (Some n) next = next n
with_figure None next = Stated.Unreadable

-- Four words are a version: its place, its gap, S and S*.
unfoldable pub version : Option ℕ → Option ℕ → Option ℕ → Option ℕ → Stated
version place gap s t =
    with_figure place λ p.
    with_figure gap λ g.
    with_figure s λ a.
    with_figure t λ b.
    Stated.Version p g a b

-- What a line states: nothing where it has no word, a version where it has four, else it is
-- unreadable.
unfoldable pub stated : TextLine → Stated
stated line =
    pick (eqb line.count 0) Stated.Nothing
    (pick (eqb line.count 4)
    (version (figure_of (word_at line 0).number) (figure_of (word_at line 1).number) (word_at line 2).byte (word_at line 3).byte)
    Stated.Unreadable)
