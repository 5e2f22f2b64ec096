-- Each contract fixes the whole answer: any two that it allows are equal.
-- Assumes nothing.
use Rattle.std.proofs.Common.{Option, Result, Ok, Err}
use mathlib.Core.Path.{◌≡◌, refl, sym, ap, ap₂, ◌∙◌}
use borrow.Fn.Kinds.{Dens, ended_of}
use denote.Triple.Clauses.{AtExit}
use lib.Dec.{eqb}
use Rattle.words.specs.Answer.{Outcome, gives, refuses, pick}
use Rattle.acceptance.specs.declared.Acceptance.{Acceptance}
use Rattle.acceptance.specs.declared.PlanRefused.{PlanRefused}
use Rattle.acceptance.specs.declared.Planned.{Planned}
use Rattle.acceptance.specs.declared.Entry.{Entry}
use Rattle.acceptance.specs.declared.Took.{Took}
use Rattle.acceptance.specs.declared.Sums.{Sums}
use Rattle.acceptance.specs.Plan.{Good, Planning}
use Rattle.acceptance.specs.Says.{says_plan_judged, says_planned}
use Rattle.acceptance.proofs.plan.Kinds as plan_kinds
use Rattle.acceptance.proofs.plan.Reads as plan_reads
use Rattle.words.proofs.Told.{Fixed}
use Rattle.acceptance.proofs.taking.one_more.Kinds as one_more_kinds
use Rattle.acceptance.proofs.taking.one_more.Reads as one_more_reads
use Rattle.acceptance.proofs.take.Kinds as take_kinds
use Rattle.acceptance.proofs.take.Reads as take_reads
use Rattle.acceptance.proofs.report.Kinds as report_kinds
use Rattle.acceptance.proofs.report.Reads as report_reads
use Rattle.acceptance.proofs.sum_up.Kinds as sum_up_kinds
use Rattle.acceptance.proofs.sum_up.Reads as sum_up_reads

-- The judgement that says so.
abbrev pub judged_by : Outcome Good → Result (Unit {0}) PlanRefused
judged_by (gives g) = Ok tt
judged_by (refuses n) = Err (pick (eqb n 26) PlanRefused.Record (pick (eqb n 27) PlanRefused.Near PlanRefused.Tolerance))

judged_back : (j : Result (Unit {0}) PlanRefused) → judged_by (says_plan_judged j) ≡ j
judged_back (Ok u) = refl
judged_back (Err PlanRefused.Tolerance) = refl
judged_back (Err PlanRefused.Record) = refl
judged_back (Err PlanRefused.Near) = refl

-- Two plans that say the same are the same.
pub same_planned : (p q : Planned) → says_planned p ≡ says_planned q → p ≡ q
same_planned p q e =
    let same : p.judged ≡ q.judged = sym (judged_back p.judged) ∙ ap (λ (x : Planning). judged_by x.answer) e ∙ judged_back q.judged in
    ap₂ (λ (a : Acceptance) (j : Result (Unit {0}) PlanRefused). record { plan = a; judged = j }) (ap (λ (x : Planning). x.plan) e) same

pub plan_determined : Fixed 1 plan_kinds.ps plan_kinds.r plan_reads.Post
plan_determined κs a r r' x x' p q = same_planned r r' (p ∙ sym q)

pub take_determined : (a : Dens tt take_kinds.ps) (r r' : Took) (x x' : AtExit (ended_of 0 take_kinds.ps take_kinds.r) tt)
    → take_reads.Post tt a r x → take_reads.Post tt a r' x' → r ≡ r'
take_determined a r r' x x' p q = p ∙ sym q

pub report_determined : (a : Dens tt report_kinds.ps) (r r' : Option Entry) (x x' : AtExit (ended_of 0 report_kinds.ps report_kinds.r) tt)
    → report_reads.Post tt a r x → report_reads.Post tt a r' x' → r ≡ r'
report_determined a r r' x x' p q = p ∙ sym q

pub sum_up_determined : (a : Dens tt sum_up_kinds.ps) (r r' : Sums) (x x' : AtExit (ended_of 0 sum_up_kinds.ps sum_up_kinds.r) tt)
    → sum_up_reads.Post tt a r x → sum_up_reads.Post tt a r' x' → r ≡ r'
sum_up_determined a r r' x x' p q = p ∙ sym q

pub one_more_determined : Fixed 0 one_more_kinds.ps one_more_kinds.r one_more_reads.Post
one_more_determined κs a r r' x x' p q = p ∙ sym q
