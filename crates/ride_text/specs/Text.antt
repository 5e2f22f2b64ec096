-- The lines of a listing as text (document 01, "One ride in full"): ASCII codes, with a newline at
-- the end of each line; and with reasons (request M-103): each fault line with its reason after a
-- colon, `1000 fault 12: balise 2 at 1030 word Y refused 1 odd`.
-- Assumes nothing.
use Rattle.std.specs.Prelude.{true, false, ℕ, List, [], ◌∷◌, ◌++◌}
pub use Rattle.text.specs.Text.{codes}
unfoldable pub use Rattle.text.specs.Text.{digits, decimal}
use Rattle.group_rows.specs.declared.Direction.{Direction}
use Rattle.group_rows.specs.declared.Kind.{Kind}
use Rattle.group.specs.declared.Number.{Number}
use Rattle.group.specs.declared.Group.{Group}
use Rattle.ride.specs.declared.Mark.{Mark}
use Rattle.ride.specs.declared.Seen.{Seen}
use Rattle.ride.specs.declared.Line.{Line}
use Rattle.group_reason.specs.Explain.{explain}
use Rattle.group_reason.specs.Text.{reason_text}
use Rattle.ride_text.specs.Style.{Style}

-- The word for a direction, after its space.
abbrev pub direction_word : Direction → List ℕ
direction_word Direction.Present = codes " present"
direction_word Direction.Opposite = codes " opposite"

-- The word for a kind, after its space.
abbrev pub kind_word : Kind → List ℕ
kind_word Kind.Signal = codes " signal"
kind_word Kind.Warning = codes " warning"
kind_word Kind.Annulled = codes " annulled"
kind_word Kind.Line = codes " line"
kind_word Kind.Route = codes " route"

-- A mark after its space; a group without one ends before it.
abbrev pub mark : Mark → List ℕ
mark Mark.Unmarked = []
mark Mark.First = codes " first"
mark Mark.Early = codes " early"
mark Mark.Good = codes " good"
mark Mark.Late = codes " late"

-- A number after its space and its `n`; a group without one ends before it. It is below 2^16 and
-- has at most 5 digits.
abbrev pub number : Number → List ℕ
number Number.None = []
number (Number.Figure m) = codes " n" ++ digits 5 m

-- The text of an accepted group: `1000 present signal first`, `1000 opposite signal n1612`.
unfoldable pub seen : Seen → List ℕ
seen s = decimal s.place ++ direction_word s.direction ++ kind_word s.kind ++ mark s.mark ++ number s.number ++ codes "\n"

-- The text of a line, with so much behind the number of a fault: an accepted group;
-- `1000 fault 13`; `5800 missed`; `record 3 refused 17`; `trace refused 16`.
unfoldable pub text_with : List ℕ → Line → List ℕ
text_with why (Line.Group s) = seen s
text_with why (Line.Fault place n) = decimal place ++ codes " fault " ++ decimal n ++ why ++ codes "\n"
text_with why (Line.Missed place) = decimal place ++ codes " missed\n"
text_with why (Line.Record number n) = codes "record " ++ decimal number ++ codes " refused " ++ decimal n ++ codes "\n"
text_with why (Line.Trace n) = codes "trace refused " ++ decimal n ++ codes "\n"

-- The text of a line as document 01 has it.
abbrev pub text : Line → List ℕ
text line = text_with [] line

-- The text of some lines, one after the other.
unfoldable pub text_of : List Line → List ℕ
text_of [] = []
text_of (l ∷ ls) = text l ++ text_of ls

-- Why this group was refused, after a colon.
unfoldable pub why_text : Group → List ℕ
why_text g = codes ": " ++ reason_text (explain g)

-- What stands behind the number of a fault, where this group closed: nothing, or why.
abbrev pub behind : Style → Group → List ℕ
behind false g = []
behind true g = why_text g

-- The text of a line in a style, where this group closed.
abbrev pub line_text : Style → Group → Line → List ℕ
line_text style g line = text_with (behind style g) line

-- Lines of one record or of the end, one after the other, where this group closed.
unfoldable pub lines_text : Style → Group → List Line → List ℕ
lines_text style g [] = []
lines_text style g (l ∷ ls) = line_text style g l ++ lines_text style g ls
