-- A record, what it says, and the line of it, there and back. Shown in proofs/Recording.antt and
-- proofs/LineBack.antt.
-- Assumes nothing.
use Rattle.std.specs.Prelude.{ℕ, ◌+◌, ◌≤◌, ◌<◌, ◌≡◌, true, List, [], ◌∷◌, eqb, length}
use Rattle.words.specs.Answer.{gives, pick}
use Rattle.lines.specs.declared.Reader.{Reader}
use Rattle.lines.specs.declared.Got.{Got}
use Rattle.lines.specs.Words.{largest}
use Rattle.lines_laws.specs.Calls.{Fresh, NextLine}
use Rattle.trace_text.specs.declared.What.{What}
use Rattle.trace_text.specs.declared.Said.{Said}
use Rattle.trace_text.specs.Record.{bytes_of, record_of_meant}
use Rattle.trace_text.specs.Thing.{thing_of}
use Rattle.trace_text_laws.specs.Calls.{ReadLine, PutRecord}

-- What a record says, recorded, is that record, whatever its kind and its words.
abbrev pub RecordsBack : Type 0
RecordsBack = (place kind x y z : ℕ) → x < 256 → y < 256 → z < 256 → record_of_meant place (thing_of kind x y z) ≡ gives (bytes_of place kind x y z)

-- Bytes.
abbrev pub Bytes : List ℕ → Type 0
Bytes [] = Unit
Bytes (b ∷ bs) = (b < 256) × Bytes bs

-- A thing that has a record: its figures are not refused, and its words are bytes.
abbrev pub HasRecord : ℕ → What → Type 0
HasRecord place what = (bytes : List ℕ) × (record_of_meant place what ≡ gives bytes) × Bytes bytes

-- A thing as its line says it: for X = 12 the third figure, which is not looked at, is none.
abbrev pub as_said : What → What
as_said (What.Balise x y z) = pick (eqb x 12) (What.Balise 12 y 0) (What.Balise x y z)
as_said What.Marker = What.Marker
as_said What.Unreadable = What.Unreadable
as_said What.Position = What.Position
as_said (What.Raw kind x y z) = What.Raw kind x y z

-- A printed line reads back: `put_record` puts it into a buffer that has room for it, `next_line`
-- reads it there, and `read` says the thing at its place; the next line begins where the next would
-- be put.
abbrev pub LineBack : Type 0
LineBack =
    (number place : ℕ) (what : What) (before after : List ℕ) (at next : ℕ) (fresh : Reader) (g : Got) (s : Said)
    → place ≤ largest → HasRecord place what → at + 128 ≤ length before
    → PutRecord number place what before at next after → Fresh fresh → NextLine fresh after at g → ReadLine g.line s
    → (s ≡ Said.Thing place (as_said what)) × (record_of_meant place (as_said what) ≡ record_of_meant place what) × (g.ends ≡ true) × (g.next ≡ next)
