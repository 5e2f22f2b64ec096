-- What each case of the answers inside the crate says. No promise to a caller cites these; the
-- functions that the code is cut into do.
-- Assumes nothing.
use Rattle.std.specs.Prelude.{ℕ, List, take, Option, Some, None}
use Rattle.words.specs.Answer.{Outcome, gives, refuses}
use Rattle.group_rows.specs.declared.Part.{Part}
use Rattle.group_rows.specs.declared.Placed.{Placed}
use Rattle.group.specs.declared.reading.AllRead.{AllRead}
use Rattle.group.specs.declared.Number.{Number}
use Rattle.group_rows.specs.Row.{Found, none, found}
use Rattle.group.specs.Numbers.{number_or}

-- A balise that was looked for.
abbrev pub says_sought : Option Placed → Found
says_sought (Some b) = found b
says_sought None = none

-- A balise read; "a balise unreadable, or its words refused" is 12.
abbrev pub says_part_read : Option Part → Outcome Part
says_part_read (Some p) = gives p
says_part_read None = refuses 12

-- The first n balises read, or 12.
abbrev pub says_all_read : ℕ → Option AllRead → Outcome (List Placed)
says_all_read n (Some all) = gives (take n all.parts)
says_all_read n None = refuses 12

-- The number found among the balises so far, or else that of the next one.
abbrev pub else_number : Number → Part → Number
else_number (Number.Figure m) p = Number.Figure m
else_number Number.None p = number_or p Number.None
