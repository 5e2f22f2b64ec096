-- What a line of a plan's text says (house): "For a plan `PLACE KIND`, with KIND one of signal,
-- warning, annulled, line, route." "Plan records are of one fixed size, no header: 8 bytes, place
-- in 0 to 3 high byte first, kind in 4 (0 signal, 1 warning, 2 annulled, 3 line, 4 route), 5 to 7
-- zero."
-- Assumes nothing.
use Rattle.std.specs.Prelude.{ℕ, eqb, Option, Some, None, Result, Ok, Err}
use Rattle.words.specs.Answer.{pick}
use Rattle.figures.specs.declared.NotFigure.{NotFigure}
use Rattle.lines.specs.declared.Name.{Name}
use Rattle.lines.specs.declared.TextLine.{TextLine}
use Rattle.trace_text.specs.Said.{nth}
use Rattle.plan_text.specs.declared.Entry.{Entry}

-- The kind that a name is.
abbrev pub kind_of : Name → Option ℕ
kind_of Name.Signal = Some 0
kind_of Name.Warning = Some 1
kind_of Name.Annulled = Some 2
kind_of Name.Line = Some 3
kind_of Name.Route = Some 4
kind_of Name.Other = None
kind_of Name.Marker = None
kind_of Name.Unreadable = None
kind_of Name.Position = None
kind_of Name.Raw = None

-- An entry of a kind, at its place.
abbrev pub entered : ℕ → Option ℕ → Entry
entered place (Some kind) = Entry.At place kind
entered place None = Entry.Unreadable

abbrev pub at_place : Result ℕ NotFigure → Option ℕ → Entry
at_place (Ok place) kind = entered place kind
at_place (Err e) kind = Entry.Unreadable

-- What a line says: two words, a place and a kind.
unfoldable pub entry : TextLine → Entry
entry line =
    pick (eqb line.count 0) Entry.Nothing
    (pick (eqb line.count 2) (at_place (nth line 0).number (kind_of (nth line 1).name)) Entry.Unreadable)
