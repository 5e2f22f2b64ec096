-- The plan's refusals are those of the list, in its order.
-- Assumes nothing.
use Prim.Native.Nat.{ℕ, ◌+◌, ◌*◌, ◌/◌, ◌%◌}
use mathlib.Core.Path.{◌≡◌, refl, sym, ap, ap₂, subst, ◌∙◌}
use mathlib.Core.Bool.{Bool, true, false, not, ◌&&◌, ◌||◌}
use mathlib.Core.List.{List, [], ◌∷◌, map}
use lib.Dec.{eqb, leb}
use lib.ListN.{length}
use Rattle.words.specs.Answer.{Outcome, gives, refuses, pick}
use Rattle.words.proofs.Never.{cannot_be}
use Rattle.ride.specs.Record.{byte, blank}
use Rattle.ride.specs.Over.{records}
use Rattle.acceptance.specs.declared.Acceptance.{Acceptance}
use Rattle.acceptance.specs.declared.Planned.{Planned}
use Rattle.acceptance.specs.Plan.{Good, good, Planning, place_of, is_good, all_good, entry_of, entries_of, is_beyond, apart, plan_with, empty_plan, well_formed, plan}
use Rattle.acceptance.specs.Says.{says_planned}
use Rattle.demands.specs.Rules.{Decided, Is}
use Rattle.demands.specs.Plans.{Plans, bad_entry, some_bad, bad_plan, near_next, some_near, plan_rules, PlansDecided, PlansUntouched}
use Rattle.demands.proofs.Common.Spelled.{above_not}

not_and : (a b : Bool) → (not a || not b) ≡ not (a && b)
not_and true b = refl
not_and false b = refl

not_not : (a : Bool) → not (not a) ≡ a
not_not true = refl
not_not false = refl

entry_is : (r : List ℕ) → bad_entry r ≡ not (is_good r)
unfolding is_good
entry_is r = ap (λ (t : Bool). t || not (blank r)) (above_not (byte r 4) 4) ∙ not_and (leb (byte r 4) 4) (blank r)

bad_is : (rs : List (List ℕ)) → some_bad rs ≡ not (all_good rs)
unfolding some_bad all_good
bad_is [] = refl
bad_is (r ∷ rs) = ap₂ ◌||◌ (entry_is r) (bad_is rs) ∙ not_and (is_good r) (all_good rs)

plan_is : (b : List ℕ) → bad_plan b ≡ not (well_formed b)
unfolding well_formed
plan_is b =
    ap₂ (λ (s t : Bool). not (eqb (length b % 8) 0) || s || t) (above_not (length b / 8) 64) (bad_is (records b))
    ∙ ap (λ (t : Bool). t || not (all_good (records b))) (not_and (eqb (length b % 8) 0) (leb (length b / 8) 64))
    ∙ not_and (eqb (length b % 8) 0 && leb (length b / 8) 64) (all_good (records b))

next_is : (tolerance p : ℕ) (rs : List (List ℕ)) → near_next tolerance p (map place_of rs) ≡ not (is_beyond tolerance p (map entry_of rs))
unfolding entry_of
next_is tolerance p [] = refl
next_is tolerance p (r ∷ rs) = sym (not_not (leb (place_of r) (p + 2 * tolerance))) ∙ ap not (sym (above_not (place_of r) (p + 2 * tolerance)))

near_is : (tolerance : ℕ) (rs : List (List ℕ)) → some_near tolerance (map place_of rs) ≡ not (apart tolerance (map entry_of rs))
unfolding some_near apart entry_of
near_is tolerance [] = refl
near_is tolerance (r ∷ rs) =
    ap₂ ◌||◌ (next_is tolerance (place_of r) rs) (near_is tolerance rs)
    ∙ not_and (is_beyond tolerance (place_of r) (map entry_of rs)) (apart tolerance (map entry_of rs))

-- ---- the list

abbrev answered : Bool → Bool → Bool → Acceptance → Planning
answered x y z whole =
    pick x (pick y (pick z (record { answer = gives good; plan = whole }) (record { answer = refuses 27; plan = empty_plan })) (record { answer = refuses 26; plan = empty_plan }))
    (record { answer = refuses 28; plan = empty_plan })

-- What the three tests decide.
abbrev Three : Bool → Bool → Bool → Outcome Good → Type 0
Three x y z o = (x ≡ true → o ≡ refuses 28) × (x ≡ false → (y ≡ true → o ≡ refuses 26) × (y ≡ false → (z ≡ true → o ≡ refuses 27) × (z ≡ false → o ≡ gives good)))

three : (x y z : Bool) (whole : Acceptance) → Three (not x) (not y) (not z) (answered x y z whole).answer
three true true true whole = (λ e. cannot_be cc, λ e. (λ f. cannot_be cc, λ f. (λ g. cannot_be cc, λ g. refl)))
three true true false whole = (λ e. cannot_be cc, λ e. (λ f. cannot_be cc, λ f. (λ g. refl, λ g. cannot_be cc)))
three true false z whole = (λ e. cannot_be cc, λ e. (λ f. refl, λ f. cannot_be cc))
three false y z whole = (λ e. refl, λ e. cannot_be cc)

empty : (x y z : Bool) (whole : Acceptance) (n : ℕ) → (answered x y z whole).answer ≡ refuses n → (answered x y z whole).plan ≡ empty_plan
empty true true true whole n e = cannot_be cc
empty true true false whole n e = refl
empty true false z whole n e = refl
empty false y z whole n e = refl

plan_by : (b : List ℕ) (tolerance : ℕ) (r : Planned) → Plans b tolerance r
    → says_planned r ≡ answered (leb tolerance 500) (well_formed b) (apart tolerance (entries_of b)) (plan_with tolerance (entries_of b))
unfolding plan
plan_by b tolerance r p = p.4 ∙ ap (λ (c : List ℕ). plan c tolerance) p.3

abbrev answer : List ℕ → ℕ → Outcome Good
answer b tolerance = (answered (leb tolerance 500) (well_formed b) (apart tolerance (entries_of b)) (plan_with tolerance (entries_of b))).answer

pub plans_decided : PlansDecided
plans_decided =
    record {
      plan = λ b tolerance r p.
          subst (λ (o : Outcome Good). Decided (Is good) (plan_rules b tolerance) o) (sym (ap (λ (q : Planning). q.answer) (plan_by b tolerance r p)))
          (subst (λ (t : Bool). Three t (bad_plan b) (some_near tolerance (map place_of (records b))) (answer b tolerance)) (sym (above_not tolerance 500))
          (subst (λ (t : Bool). Three (not (leb tolerance 500)) t (some_near tolerance (map place_of (records b))) (answer b tolerance)) (sym (plan_is b))
          (subst (λ (t : Bool). Three (not (leb tolerance 500)) (not (well_formed b)) t (answer b tolerance)) (sym (near_is tolerance (records b)))
          (three (leb tolerance 500) (well_formed b) (apart tolerance (entries_of b)) (plan_with tolerance (entries_of b))))));
    }

pub plans_untouched : PlansUntouched
plans_untouched =
    record {
      plan = λ b tolerance r n p e.
          ap (λ (q : Planning). q.plan) (plan_by b tolerance r p)
          ∙ empty (leb tolerance 500) (well_formed b) (apart tolerance (entries_of b)) (plan_with tolerance (entries_of b)) n
          (sym (ap (λ (q : Planning). q.answer) (plan_by b tolerance r p)) ∙ e);
    }
