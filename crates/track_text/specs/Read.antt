-- What a line of a track's text says (docs/LEAD.md, "A track"): a thing at its place; "`raw` is
-- unreadable here"; "in a line: unreadable, 2, 3".
-- Assumes nothing.
use Rattle.std.specs.Prelude.{ℕ, eqb}
use Rattle.words.specs.Answer.{Outcome, gives, refuses, pick}
use Rattle.telegram.specs.Spelling.{Words, asked, spell}
use Rattle.lines.specs.declared.TextLine.{TextLine}
use Rattle.trace_text.specs.declared.What.{What}
use Rattle.trace_text.specs.declared.Said.{Said}
use Rattle.trace_text.specs.Said.{said}
use Rattle.track_lead.specs.declared.Thing.{Thing}
use Rattle.track_text.specs.declared.Entry.{Entry}

-- A balise at its place by the words that it sends; "figure to write above 15 or above 2,047" is 2,
-- "a short word of a telegram reads 15" is 3.
abbrev pub balise : ℕ → Outcome Words → Entry
balise place (gives w) = Entry.At place (Thing.Balise w.x w.y w.z)
balise place (refuses n) = pick (eqb n 2) Entry.TooLarge Entry.Fifteen

-- What lies at a place.
abbrev pub thing_at : ℕ → What → Entry
thing_at place (What.Balise x y z) = balise place (spell (asked x y z))
thing_at place What.Marker = Entry.At place Thing.Marker
thing_at place What.Unreadable = Entry.At place Thing.Unreadable
thing_at place What.Position = Entry.At place Thing.Nothing
thing_at place (What.Raw kind x y z) = Entry.Unreadable

-- The line.
abbrev pub read_said : Said → Entry
read_said Said.Nothing = Entry.Nothing
read_said (Said.Thing place what) = thing_at place what
read_said Said.Unreadable = Entry.Unreadable

unfoldable pub read : TextLine → Entry
read line = read_said (said line)
