-- A plan that is good, its entries and its tolerance; none of them is met yet.
-- Assumes nothing.
use Rattle.std.proofs.Common.{None, Ok}
use Prim.Native.Nat.{ℕ, zero, suc, ◌-◌, ◌≤◌}
use native.Mathlib.Omega.{arith}
use mathlib.Core.Path.{◌≡◌, refl, sym, ap, ◌∙◌}
use mathlib.Core.Bool.{Bool, true, false}
use mathlib.Core.List.{List, [], ◌∷◌, map}
use lib.Dec.{leb}
use lib.ListN.{length, get_or, replicate}
use lib.Seq.{take_at}
use Rattle.words.specs.Answer.{Outcome, gives, refuses, pick}
use Rattle.words.proofs.Never.{cannot_be}
use Rattle.acceptance.specs.declared.Entry.{Entry}
use Rattle.acceptance.specs.declared.Acceptance.{Acceptance}
use Rattle.acceptance.specs.declared.Planned.{Planned}
use Rattle.acceptance.specs.Plan.{Good, good, Planning, entry_of, entries_of, no_entry, apart, well_formed, plan_with, empty_plan, plan}
use Rattle.acceptance.specs.Taking.{planned, is_absent}
use Rattle.acceptance.specs.Report.{met_in}
use Rattle.acceptance.specs.Says.{says_plan_judged, says_planned}

good_by : (x y z : Bool) (p : Planned) (whole : Acceptance)
    → says_planned p
    ≡ pick x (pick y (pick z (record { answer = gives good; plan = whole }) (record { answer = refuses 27; plan = empty_plan })) (record { answer = refuses 26; plan = empty_plan }))
    (record { answer = refuses 28; plan = empty_plan })
    → p.judged ≡ Ok tt → (z ≡ true) × (p.plan ≡ whole)
good_by true true true p whole e g = (refl, ap (λ (q : Planning). q.plan) e)
good_by true true false p whole e g =
    let q : ◌≡◌ {A = Outcome Good} (gives good) (refuses 27) = sym (ap says_plan_judged g) ∙ ap (λ (q : Planning). q.answer) e in
    cannot_be cc
good_by true false z p whole e g =
    let q : ◌≡◌ {A = Outcome Good} (gives good) (refuses 26) = sym (ap says_plan_judged g) ∙ ap (λ (q : Planning). q.answer) e in
    cannot_be cc
good_by false y z p whole e g =
    let q : ◌≡◌ {A = Outcome Good} (gives good) (refuses 28) = sym (ap says_plan_judged g) ∙ ap (λ (q : Planning). q.answer) e in
    cannot_be cc

pub good_plan : (b : List ℕ) (tolerance : ℕ) (p : Planned) → says_planned p ≡ plan b tolerance → p.judged ≡ Ok tt
    → (apart tolerance (entries_of b) ≡ true) × (p.plan ≡ plan_with tolerance (entries_of b))
unfolding plan
good_plan b tolerance p e g =
    good_by (leb tolerance 500) (well_formed b) (apart tolerance (entries_of b)) p (plan_with tolerance (entries_of b)) e g

pub plan_entries : (tolerance : ℕ) (es : List Entry) → planned (plan_with tolerance es) ≡ es
unfolding plan_with
plan_entries tolerance es = take_at es (replicate (64 - length es) no_entry) (length es) refl

pub plan_tolerance : (tolerance : ℕ) (es : List Entry) → (plan_with tolerance es).tolerance ≡ tolerance
unfolding plan_with
plan_tolerance tolerance es = refl

pub plan_extra : (tolerance : ℕ) (es : List Entry) → (plan_with tolerance es).extra ≡ 0
unfolding plan_with
plan_extra tolerance es = refl

-- A plan's entries are not met yet.
pub unmet : (rs : List (List ℕ)) (i : ℕ) → (get_or (map entry_of rs) i no_entry).met ≡ None
unfolding entry_of
unmet [] i = refl
unmet (r ∷ rs) zero = refl
unmet (r ∷ rs) (suc i) = unmet rs i

-- No more are met than there are.
pub met_within : (es : List Entry) → met_in es ≤ length es
unfolding met_in
met_within [] = omega arith
met_within (e ∷ es) = by_test (is_absent e.met) (met_within es)
  where
    by_test : (b : Bool) → met_in es ≤ length es → pick b (met_in es) (suc (met_in es)) ≤ suc (length es)
    by_test true h = omega arith
    by_test false h = omega arith

pub none_met : (rs : List (List ℕ)) → met_in (map entry_of rs) ≡ 0
unfolding met_in entry_of
none_met [] = refl
none_met (r ∷ rs) = none_met rs
