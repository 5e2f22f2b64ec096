-- The ride's lines taken as they come (document 02, M-113: "the groups are answered one at a time
-- as the ride's lines come"): the run after them, what went wrong, and the text of each present
-- group.
-- Assumes nothing.
use Rattle.std.specs.Prelude.{ℕ, List, [], ◌∷◌, ◌++◌}
use Rattle.ride.specs.declared.Line.{Line}
use Rattle.acceptance.specs.declared.Acceptance.{Acceptance}
use Rattle.acceptance.specs.declared.Role.{Role}
use Rattle.acceptance.specs.declared.Took.{Took}
use Rattle.acceptance.specs.Taking.{one_more, take_line}
use Rattle.acceptance_text.specs.declared.taking.Troubles.{Troubles}
use Rattle.acceptance_text.specs.Lines.{group_line}

-- The text of a line by its part: a present group's line; nothing for what takes no part.
abbrev pub part_line : Line → Role → List ℕ
part_line (Line.Group g) (Role.Wanted i) = group_line g.place g.kind (Role.Wanted i)
part_line (Line.Group g) Role.Extra = group_line g.place g.kind Role.Extra
part_line (Line.Group g) Role.NoPart = []
part_line (Line.Fault place n) part = []
part_line (Line.Missed place) part = []
part_line (Line.Record number n) part = []
part_line (Line.Trace n) part = []

-- What went wrong, after a line: a fault is one more, and so is a refused record.
abbrev pub troubled_by : Troubles → Line → Troubles
troubled_by t (Line.Fault place n) = record { faults = one_more t.faults; refused = t.refused }
troubled_by t (Line.Record number n) = record { faults = t.faults; refused = one_more t.refused }
troubled_by t (Line.Group g) = t
troubled_by t (Line.Missed place) = t
troubled_by t (Line.Trace n) = t

-- What taking some lines has come to: the run, what went wrong so far, and the text.
pub record Taking : Type 0 where
  pub run : Acceptance
  pub troubles : Troubles
  pub text : List ℕ

-- At first no text is written.
abbrev pub started : Acceptance → Troubles → Taking
started run troubles = record { run = run; troubles = troubles; text = [] }

-- A line is taken as `take` of `acceptance` says, and its text comes after what is written.
unfoldable pub take_one : Taking → Line → Taking
take_one t line =
    let took : Took = take_line t.run line in
    record { run = took.state; troubles = troubled_by t.troubles line; text = t.text ++ part_line line took.answer }

-- So are some, one after the other.
unfoldable pub take_all : Taking → List Line → Taking
take_all t [] = t
take_all t (l ∷ ls) = take_all (take_one t l) ls
