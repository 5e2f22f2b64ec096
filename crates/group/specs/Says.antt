-- The numbers and values of document 01 for each case of this crate's answers.
-- Assumes nothing.
use Rattle.std.specs.Prelude.{ℕ, Result, Ok, Err}
use Rattle.words.specs.Answer.{Outcome, gives, refuses}
use Rattle.group.specs.declared.NoDistance.{NoDistance}
use Rattle.group.specs.declared.Message.{Message}
use Rattle.group.specs.declared.GroupRefused.{GroupRefused}

-- A distance in decimetres, or what is said with it; "distance not allowed" is 15.
abbrev pub says_measured : {A : Type 0} → Result A NoDistance → Outcome A
says_measured (Ok d) = gives d
says_measured (Err e) = refuses 15

-- The refusals of a group: 10, 11, 12, 13 or 15 of document 01's table.
abbrev pub refused_as : GroupRefused → ℕ
refused_as GroupRefused.One = 10
refused_as GroupRefused.Many = 11
refused_as GroupRefused.Unread = 12
refused_as GroupRefused.NoRow = 13
refused_as GroupRefused.NoDistance = 15

-- The judgement of a group: its message, or why it is refused.
abbrev pub says_group_judged : Result Message GroupRefused → Outcome Message
says_group_judged (Ok m) = gives m
says_group_judged (Err e) = refuses (refused_as e)
