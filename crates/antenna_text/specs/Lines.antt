-- What is heard on a line that comes in pieces, as text: the lines of `contact_text`, with each
-- contact's start counted from the first bit of the line.
-- Assumes nothing.
use Rattle.std.specs.Prelude.{ℕ, ◌-◌, Bool, true, false, List, [], ◌∷◌, ◌++◌, eqb, ltb}
use Rattle.words.specs.Answer.{Outcome, gives, refuses, pick}
use Rattle.words.specs.Limits.{largest64}
use Rattle.refusals.specs.Words.{refused}
use Rattle.contact.specs.declared.Judged.{Judged}
use Rattle.contact.specs.Says.{says_judged}
use Rattle.contact.specs.Judge.{Contact, read, marker}
use Rattle.antenna.specs.Line.{Told, told, placed}
use Rattle.contact_text.specs.Lines.{heard}

-- A number of a line as it is shown: none is above 2^64 - 1. No line has as many bits.
unfoldable pub shown : ℕ → ℕ
shown n = pick (ltb largest64 n) largest64 n

-- The answer that has this number.
unfoldable pub refused_as : ℕ → Judged
refused_as n = pick (eqb n 4) Judged.NotSeven (pick (eqb n 5) Judged.Beyond (pick (eqb n 7) Judged.Differ Judged.Neither))

-- The answer that says a judgement. (What is read has words that read: the other case is none.)
abbrev pub judged_as : Outcome Contact → Judged
judged_as (gives (read (gives telegram) first count)) = Judged.Read telegram (shown first) count
judged_as (gives (read (refuses bad) first count)) = Judged.Neither
judged_as (gives marker) = Judged.Marker
judged_as (refuses n) = refused_as n

-- The line of a contact that was handed out.
unfoldable pub told_line : Told → List ℕ
told_line (told start length judgement) = heard start length (judged_as judgement)

-- The contact that a bit of the line closes: it ends before that bit.
abbrev pub closed_before : ℕ → ℕ → Judged → Told
closed_before end length judged = told (end - length) length (placed (end - length) (says_judged judged))

-- The lines of contacts, one after the other.
unfoldable pub told_lines : List Told → List ℕ
told_lines [] = []
told_lines (contact ∷ rest) = told_line contact ++ told_lines rest

-- What is said at the end of the line: "A contact still open where the record ends is refusal 9."
unfoldable pub end_line : Bool → List ℕ
end_line true = refused 9
end_line false = []
