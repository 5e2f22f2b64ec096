-- The viewer's calls (document 02, M-108): "a viewer that holds the caller's lent trace and a
-- record number, with forward and back".
-- Assumes nothing.
use Rattle.std.specs.Prelude.{ℕ, ◌+◌, ◌/◌, ◌%◌, List, [], eqb, ltb, length}
use Rattle.words.specs.Answer.{Outcome, gives, refuses, pick}
use Rattle.settings.specs.declared.Store.{Store}
use Rattle.settings.specs.Versions.{Kept}
use Rattle.settings.specs.Store.{judged}
use Rattle.settings.specs.At.{gap_at}
use Rattle.group.specs.declared.Group.{Group}
use Rattle.ride.specs.declared.Line.{Line}
use Rattle.ride.specs.State.{no_group}
use Rattle.ride.specs.Record.{odometer_of}
use Rattle.ride.specs.Step.{Step, treat}
use Rattle.ride.specs.At.{record_at}
use Rattle.ride.specs.Over.{lines_for}
use Rattle.viewer.specs.declared.Standing.{Standing}
use Rattle.viewer.specs.Stand.{opened, passed, returned}

-- What is said of a call that is not refused: that it was done.
pub data Done : Type 0 where
  done : Done

-- What opening answers: that it was done, or the number of its refusal; the trace that the viewer
-- then holds; where it stands.
pub record Start : Type 0 where
  pub answer : Outcome Done
  pub trace : List ℕ
  pub stand : Standing

-- A refused viewer holds an empty trace.
abbrev pub unopened : Store → ℕ → Start
unopened store n = record { answer = refuses n; trace = []; stand = opened store }

-- The settings are judged first: their refusal decides.
abbrev pub opens : Store → List ℕ → Outcome Kept → Start
opens store trace (gives k) =
    pick (eqb (length trace % 8) 0)
    (record { answer = gives done; trace = trace; stand = opened store })
    (unopened store 16)
opens store trace (refuses n) = unopened store n

-- "A viewer opens at the first record with a fresh ride; 19, then 16 refuse it": the settings' own
-- refusal (of a gap, 19), then 16 for the trace's length.
unfoldable pub start : Store → List ℕ → Start
start store trace = opens store trace (judged store)

-- What going forward answers: that it was done, or the number of its refusal; the lines that the
-- record gave; the group that closed; where the viewer stands then.
pub record Forward : Type 0 where
  pub answer : Outcome Done
  pub lines : List Line
  pub closed : Group
  pub stand : Standing

-- A refused forward leaves the viewer unchanged.
abbrev pub stays : Standing → ℕ → Forward
stays s n = record { answer = refuses n; lines = []; closed = no_group; stand = s }

-- A record is passed by its step: "A refused record counts as a step", and its line says so.
abbrev pub by_step : Standing → Step → Forward
by_step s t =
    record { answer = gives done; lines = lines_for (s.number + 1) t.lines; closed = t.closed; stand = passed s t.ride }

-- A viewer that no call made may hold settings that are refused: then forward is refused with their
-- number.
abbrev pub under : Standing → Outcome Kept → Forward → Forward
under s (gives k) f = f
under s (refuses n) f = stays s n

-- The step of a record, with the gap in force at its own odometer.
abbrev pub step_of : Standing → List ℕ → Step
step_of s r = treat s.ride (gap_at s.settings (odometer_of r)) r

-- Forward: "23 for forward exactly at the end".
unfoldable pub forward : List ℕ → Standing → Forward
forward trace s =
    pick (ltb s.number (length trace / 8))
    (under s (judged s.settings) (by_step s (step_of s (record_at trace s.number))))
    (stays s 23)

-- What going back answers, and what going many times does: that it was done, or the number of its
-- refusal; where the viewer stands then.
pub record Back : Type 0 where
  pub answer : Outcome Done
  pub stand : Standing

-- Back: "22 for back exactly if the kept count is 0"; it leaves the viewer unchanged.
unfoldable pub back : Standing → Back
back s =
    pick (eqb s.kept 0)
    (record { answer = refuses 22; stand = s })
    (record { answer = gives done; stand = returned s })
