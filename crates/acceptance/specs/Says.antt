-- What each case of this crate's answers says.
-- Assumes nothing.
use Rattle.std.specs.Prelude.{Result, Ok, Err}
use Rattle.words.specs.Answer.{Outcome, gives, refuses}
use Rattle.acceptance.specs.declared.PlanRefused.{PlanRefused}
use Rattle.acceptance.specs.declared.Planned.{Planned}
use Rattle.acceptance.specs.Plan.{Good, good, Planning}

-- "26 for a bad plan record, length or count above 64; 27 for entries out of order or too near; 28
-- for the tolerance"
abbrev pub says_plan_judged : Result (Unit {0}) PlanRefused → Outcome Good
says_plan_judged (Ok u) = gives good
says_plan_judged (Err PlanRefused.Tolerance) = refuses 28
says_plan_judged (Err PlanRefused.Record) = refuses 26
says_plan_judged (Err PlanRefused.Near) = refuses 27

-- A plan that was read: how it was judged, and the plan.
abbrev pub says_planned : Planned → Planning
says_planned p = record { answer = says_plan_judged p.judged; plan = p.plan }
