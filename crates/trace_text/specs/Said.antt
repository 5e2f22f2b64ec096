-- What a line of a trace's text says (house): "`PLACE WHAT`, with PLACE in dm, decimal, and WHAT
-- one of" `1 8 5`, "a balise of three figures", `12 17`, "a number balise", `marker`, `unreadable`,
-- `position`, `raw 04 00 00 00`, "any other record: its bytes 4 to 7 in hex". "`X Y Z` with X not
-- 12, or `12 NUMBER`, and nothing after: `1000 12 8 5` and `1000 12` are unreadable, and so is a
-- PLACE above 4,294,967,295."
-- Assumes nothing.
use Rattle.std.specs.Prelude.{ℕ, Bool, true, false, eqb, leb, get_or, Option, Some, None, Result, Ok, Err}
use Rattle.words.specs.Answer.{pick}
use Rattle.figures.specs.declared.NotFigure.{NotFigure}
use Rattle.lines.specs.declared.Name.{Name}
use Rattle.lines.specs.declared.Word.{Word}
use Rattle.lines.specs.declared.TextLine.{TextLine}
use Rattle.lines.specs.Words.{no_word}
use Rattle.trace_text.specs.declared.What.{What}
use Rattle.trace_text.specs.declared.Said.{Said}

-- A word as a figure: "a figure of any length is a figure". One too large for its type, of which
-- `most` is the largest, stands as that, which is refused like it.
unfoldable pub figure_of : Result ℕ NotFigure → ℕ → Option ℕ
figure_of (Ok n) most = Some (pick (leb n most) n most)
figure_of (Err NotFigure.Above) most = Some most
figure_of (Err NotFigure.Odd) most = None

-- What is needed goes on to what follows; without it nothing can be read.
abbrev pub with_figure : Option ℕ → (ℕ → Option What) → Option What
with_figure (Some n) next = next n
with_figure None next = None

-- One word: "marker", "unreadable", "position".
abbrev pub named : Name → Option What
named Name.Marker = Some What.Marker
named Name.Unreadable = Some What.Unreadable
named Name.Position = Some What.Position
named Name.Raw = None
named Name.Signal = None
named Name.Warning = None
named Name.Annulled = None
named Name.Line = None
named Name.Route = None
named Name.Other = None

-- Two words: "`12 NUMBER`".
unfoldable pub numbered : Result ℕ NotFigure → Result ℕ NotFigure → Option What
numbered first second =
    with_figure (figure_of first 255) λ x.
    with_figure (figure_of second 65535) λ y.
    pick (eqb x 12) (Some (What.Balise 12 y 0)) None

-- Three words: "`X Y Z` with X not 12".
unfoldable pub figures : Result ℕ NotFigure → Result ℕ NotFigure → Result ℕ NotFigure → Option What
figures first second third =
    with_figure (figure_of first 255) λ x.
    with_figure (figure_of second 65535) λ y.
    with_figure (figure_of third 255) λ z.
    pick (eqb x 12) None (Some (What.Balise x y z))

-- Whether a name is `raw`.
abbrev pub is_raw : Name → Bool
is_raw Name.Raw = true
is_raw Name.Marker = false
is_raw Name.Unreadable = false
is_raw Name.Position = false
is_raw Name.Signal = false
is_raw Name.Warning = false
is_raw Name.Annulled = false
is_raw Name.Line = false
is_raw Name.Route = false
is_raw Name.Other = false

-- Five words: "`raw`" and the bytes 4 to 7.
unfoldable pub raw : Name → Option ℕ → Option ℕ → Option ℕ → Option ℕ → Option What
raw name a b c d =
    pick (is_raw name)
    (with_figure a λ kind.
    with_figure b λ x.
    with_figure c λ y.
    with_figure d λ z.
    Some (What.Raw kind x y z))
    None

-- A word of a line.
abbrev pub nth : TextLine → ℕ → Word
nth line i = get_or line.words i no_word

-- What stands after the place, "and nothing after": it goes by the number of words, the place among
-- them.
unfoldable pub what_of : TextLine → Option What
what_of line =
    pick (eqb line.count 2) (named (nth line 1).name)
    (pick (eqb line.count 3) (numbered (nth line 1).number (nth line 2).number)
    (pick (eqb line.count 4) (figures (nth line 1).number (nth line 2).number (nth line 3).number)
    (pick (eqb line.count 6) (raw (nth line 1).name (nth line 2).byte (nth line 3).byte (nth line 4).byte (nth line 5).byte)
    None)))

abbrev pub thing : ℕ → Option What → Said
thing place (Some what) = Said.Thing place what
thing place None = Said.Unreadable

abbrev pub at_place : Result ℕ NotFigure → Option What → Said
at_place (Ok place) read = thing place read
at_place (Err e) read = Said.Unreadable

-- What a line says.
unfoldable pub said : TextLine → Said
said line = pick (eqb line.count 0) Said.Nothing (at_place (nth line 0).number (what_of line))
