-- What a terminal shows beside the state: the last lines of the ride, and the records around the
-- viewer, the one that comes next marked.
-- Assumes nothing.
use Rattle.std.specs.Prelude.{ℕ, zero, suc, ◌+◌, ◌-◌, ◌*◌, ◌/◌, Bool, List, [], ◌++◌, eqb, leb, ltb, length, get_or}
use Rattle.words.specs.Answer.{pick}
use Rattle.text.specs.Text.{codes}
use Rattle.trace_text.specs.declared.What.{What}
use Rattle.trace_text.specs.declared.Said.{Said}
use Rattle.trace_text.specs.Line.{record_line}
use Rattle.trace_text.specs.Thing.{thing_at}

-- Where the last so many lines begin of the first n signs of a text, each with its newline; 0 where
-- there are fewer.
unfoldable pub lines_from : ℕ → ℕ → List ℕ → ℕ
lines_from zero lines text = 0
lines_from (suc n) lines text =
    pick (eqb (get_or text n 0) 10)
    (pick (eqb lines 0) (suc n) (lines_from n (lines - 1) text))
    (lines_from n lines text)

-- The first of the six records around a viewer that so many lie before, of so many: three before it
-- and three after, as far as there are.
unfoldable pub around : ℕ → ℕ → ℕ
around number count = pick (leb (number - 3) (count - 6)) (number - 3) (count - 6)

-- The mark of the record that comes next, and the blanks before the others.
abbrev pub mark : Bool → List ℕ
mark next = pick next (codes "> ") (codes "  ")

-- The line of a record, marked or not: `> 1000 1 8 5 # 1`.
unfoldable pub marked : Bool → ℕ → ℕ → What → List ℕ
marked next number place what = mark next ++ record_line number place what

-- What a record says, as such a line.
abbrev pub said_beside : Bool → ℕ → Said → List ℕ
said_beside next number Said.Nothing = []
said_beside next number (Said.Thing place what) = marked next number place what
said_beside next number Said.Unreadable = []

-- The line of the record at an index, where so many records lie before the viewer; nothing where
-- there is no such record.
unfoldable pub beside : List ℕ → ℕ → ℕ → List ℕ
beside trace i number = pick (ltb i (length trace / 8)) (said_beside (eqb i number) (i + 1) (thing_at trace (i * 8))) []
