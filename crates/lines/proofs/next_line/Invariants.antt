-- What the loop keeps true.
use mathlib.Core.Path.{◌≡◌}
use mathlib.Core.Bool.{Bool}
use Prim.Native.Nat.{◌≤◌, max}
use lib.ListN.{length, drop}
use Rattle.lines.specs.declared.TextLine.{TextLine}
use Rattle.lines.specs.declared.Letters.{Letters}
use Rattle.lines.specs.declared.Reader.{Reader}
use Rattle.lines.specs.Reading.{next_line, line_from}
use Rattle.lines.proofs.next_line.Given as goal

abbrev pub reader : TextLine → Letters → Bool → Reader
reader line word comment = record { line = line; word = word; comment = comment }

abbrev pub invariant-loop-i : goal.invariant-loop-i
invariant-loop-i l =
    (next_line (reader l.initial.line l.initial.word l.initial.comment) l.text l.from ≡ line_from (reader l.line l.word l.comment) (drop l.i l.text) l.i)
    × (l.i ≤ max l.from (length l.text))
