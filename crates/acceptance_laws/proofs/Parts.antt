-- The part of each line: wanted exactly if it is the first present group for an entry.
-- Assumes nothing.
use Rattle.std.proofs.Common.{Some, None}
use Prim.Native.Nat.{ℕ, zero, suc, ◌<◌}
use native.Mathlib.Omega.{arith}
use mathlib.Core.Path.{◌≡◌, refl, sym, ap, ap₂, ◌∙◌}
use mathlib.Core.Bool.{Bool, true, false, not, ◌&&◌, ◌||◌}
use mathlib.Core.List.{List, [], ◌∷◌, map}
use lib.ListN.{length, take, get_or, length-map}
use borrow.Author.Tests.{not-true}
use Rattle.words.specs.Answer.{pick}
use Rattle.words.proofs.Never.{cannot_be}
use Rattle.group_rows.specs.declared.Kind.{Kind}
use Rattle.ride.specs.declared.Line.{Line}
use Rattle.acceptance.specs.declared.Entry.{Entry}
use Rattle.acceptance.specs.declared.Acceptance.{Acceptance}
use Rattle.acceptance.specs.declared.Role.{Role}
use Rattle.acceptance.specs.declared.Took.{Took}
use Rattle.acceptance.specs.Plan.{no_entry, apart}
use Rattle.acceptance.specs.Taking.{planned, is_absent, is_for, waits, take_line}
use Rattle.acceptance_laws.specs.Lines.{is_group, is_group_for, some_for, first_for}
use Rattle.acceptance_laws.proofs.Placed.{place_in, kind_in, group_for, first_of}
use Rattle.acceptance_laws.proofs.Near.{and_left, and_right, only_one}
use Rattle.acceptance_laws.proofs.Meeting.{waits_there, not_later}
use Rattle.acceptance_laws.proofs.Cases.{Case, none, wanted, extra, case, waits_for}
use Rattle.acceptance_laws.proofs.Over.{run_over, answers_to, met_all, after_lines, plan_over, tolerance_over, apart_over}

-- A line is taken in the run that those before it left.
pub answer_at : (s : Acceptance) (ls : List Line) (k : ℕ) (d : Took) → k < length ls
    → get_or (answers_to s ls) k d ≡ take_line (run_over s (take k ls)) (get_or ls k (Line.Trace 0))
unfolding answers_to run_over
answer_at s [] k d h = absurd (omega arith)
answer_at s (l ∷ ls) zero d h = refl
answer_at s (l ∷ ls) (suc k) d h = answer_at (take_line s l).state ls k d (omega arith)

-- An entry is absent exactly if no line was a group for it.
pub absent_first : (tolerance : ℕ) (e : Entry) (ls : List Line) → is_absent (first_for tolerance e ls) ≡ not (some_for tolerance e ls)
unfolding first_for some_for
absent_first tolerance e [] = refl
absent_first tolerance e (l ∷ ls) = ap is_absent (first_of tolerance e l ls) ∙ by_test (is_group_for tolerance e l) (absent_first tolerance e ls)
  where
    by_test : (b : Bool) → is_absent (first_for tolerance e ls) ≡ not (some_for tolerance e ls)
        → is_absent (pick b (Some (place_in l)) (first_for tolerance e ls)) ≡ not (b || some_for tolerance e ls)
    by_test true h = refl
    by_test false h = h

pub get_d_map : (f : Entry → Entry) (es : List Entry) (i : ℕ) → i < length es → get_or (map f es) i no_entry ≡ f (get_or es i no_entry)
get_d_map f [] i h = absurd (omega arith)
get_d_map f (e ∷ es) zero h = refl
get_d_map f (e ∷ es) (suc i) h = get_d_map f es i (omega arith)

both : (a b : Bool) → a ≡ true → b ≡ true → (a && b) ≡ true
both true b p q = q
both false b p q = p

module _ (s : Acceptance) (ls : List Line) (a : apart s.tolerance (planned s) ≡ true) where
  pub plan_length : length (planned (run_over s ls)) ≡ length (planned s)
  plan_length = ap length (plan_over s ls a) ∙ length-map (planned s) (after_lines s.tolerance ls)

  pub entry_after : (i : ℕ) → i < length (planned s) → get_or (planned (run_over s ls)) i no_entry ≡ after_lines s.tolerance ls (get_or (planned s) i no_entry)
  entry_after i h = ap (λ (es : List Entry). get_or es i no_entry) (plan_over s ls a) ∙ get_d_map (after_lines s.tolerance ls) (planned s) i h

  module _ (i : ℕ) (h : i < length (planned s)) (fresh : (get_or (planned s) i no_entry).met ≡ None) where
    pub entry_met : (get_or (planned (run_over s ls)) i no_entry).met ≡ first_for s.tolerance (get_or (planned s) i no_entry) ls
    entry_met =
        ap (λ (e : Entry). e.met) (entry_after i h) ∙ ap (met_all (first_for s.tolerance (get_or (planned s) i no_entry) ls)) fresh

    -- Whether entry i waits for a group after these lines: none of them was for it, and the group
    -- is.
    pub waits_is : (place : ℕ) (kind : Kind) → waits (run_over s ls).tolerance place kind (get_or (planned (run_over s ls)) i no_entry)
        ≡ (not (some_for s.tolerance (get_or (planned s) i no_entry) ls) && is_for s.tolerance place kind (get_or (planned s) i no_entry))
    waits_is place kind =
        ap (λ (t : ℕ). waits t place kind (get_or (planned (run_over s ls)) i no_entry)) (tolerance_over s ls)
        ∙ ap₂ ◌&&◌ (ap is_absent entry_met ∙ absent_first s.tolerance (get_or (planned s) i no_entry) ls)
        (ap (is_for s.tolerance place kind) (entry_after i h))

-- ---- the part of the line after these

module _ (s : Acceptance) (ls : List Line) (a : apart s.tolerance (planned s) ≡ true) (l : Line) (i : ℕ) where
  abbrev now : Acceptance
  now = run_over s ls

  abbrev e : Entry
  e = get_or (planned s) i no_entry

  module _ (h : i < length (planned s)) (fresh : e.met ≡ None) (for : is_group_for s.tolerance e l ≡ true) (first : some_for s.tolerance e ls ≡ false) where
    waits_now : waits now.tolerance (place_in l) (kind_in l) (get_or (planned now) i no_entry) ≡ true
    waits_now =
        waits_is s ls a i h fresh (place_in l) (kind_in l)
        ∙ both (not (some_for s.tolerance e ls)) (is_for s.tolerance (place_in l) (kind_in l) e) (ap not first)
        (and_right (is_group l) (is_for s.tolerance (place_in l) (kind_in l) e) (sym (group_for s.tolerance e l) ∙ for))

    within_now : i < length (planned now)
    within_now = omega (arith, plan_length s ls a)

    by_case : Case now l → (take_line now l).answer ≡ Role.Wanted i
    by_case (none g is) =
        let t : is_group l ≡ true = and_left (is_group l) (is_for s.tolerance (place_in l) (kind_in l) e) (sym (group_for s.tolerance e l) ∙ for) in
        cannot_be cc
    by_case (wanted g w is) =
        let there = waits_there now.tolerance (place_in l) (kind_in l) (planned now) (waits_for now l) refl w in
        let same : waits_for now l ≡ i =
        only_one now.tolerance (place_in l) (kind_in l) (planned now) (apart_over s ls a) (waits_for now l) i w within_now
        (and_right (is_absent (get_or (planned now) (waits_for now l) no_entry).met) (is_for now.tolerance (place_in l) (kind_in l) (get_or (planned now) (waits_for now l) no_entry)) there)
        (and_right (is_absent (get_or (planned now) i no_entry).met) (is_for now.tolerance (place_in l) (kind_in l) (get_or (planned now) i no_entry)) waits_now) in
        ap (λ (t : Took). t.answer) is ∙ ap Role.Wanted same
    by_case (extra g w is) =
        absurd (omega (arith, within_now, not_later now.tolerance (place_in l) (kind_in l) (planned now) i within_now waits_now))

    pub first_wanted : (take_line now l).answer ≡ Role.Wanted i
    first_wanted = by_case (case now l)

  module _ (fresh : (i : ℕ) → (get_or (planned s) i no_entry).met ≡ None) where
    by_answer : Case now l → (take_line now l).answer ≡ Role.Wanted i
        → (i < length (planned s)) × (is_group_for s.tolerance e l ≡ true) × (some_for s.tolerance e ls ≡ false)
    by_answer (none g is) p =
        let q : Role.NoPart ≡ Role.Wanted i = sym (ap (λ (t : Took). t.answer) is) ∙ p in
        cannot_be cc
    by_answer (wanted g w is) p =
        let q : Role.Wanted (waits_for now l) ≡ Role.Wanted i = sym (ap (λ (t : Took). t.answer) is) ∙ p in
        let same : waits_for now l ≡ i = cc in
        let h : i < length (planned s) = omega (arith, plan_length s ls a) in
        let there : waits now.tolerance (place_in l) (kind_in l) (get_or (planned now) i no_entry) ≡ true =
        waits_there now.tolerance (place_in l) (kind_in l) (planned now) i (sym same) (omega arith) in
        let both_hold = sym (waits_is s ls a i h (fresh i) (place_in l) (kind_in l)) ∙ there in (
          h,
          group_for s.tolerance e l
              ∙ both (is_group l) (is_for s.tolerance (place_in l) (kind_in l) e) g (and_right (not (some_for s.tolerance e ls)) (is_for s.tolerance (place_in l) (kind_in l) e) both_hold),
          not-true (some_for s.tolerance e ls) (and_left (not (some_for s.tolerance e ls)) (is_for s.tolerance (place_in l) (kind_in l) e) both_hold),
        )
    by_answer (extra g w is) p =
        let q : Role.Extra ≡ Role.Wanted i = sym (ap (λ (t : Took). t.answer) is) ∙ p in
        cannot_be cc

    pub wanted_first : (take_line now l).answer ≡ Role.Wanted i
        → (i < length (planned s)) × (is_group_for s.tolerance e l ≡ true) × (some_for s.tolerance e ls ≡ false)
    wanted_first p = by_answer (case now l) p

-- ---- an extra group: a present one that is the first for no entry

module _ (s : Acceptance) (ls : List Line) (a : apart s.tolerance (planned s) ≡ true) (l : Line) (fresh : (i : ℕ) → (get_or (planned s) i no_entry).met ≡ None) where
  abbrev MetNone : Type 0
  MetNone =
      (i : ℕ) → i < length (planned s) → is_group_for s.tolerance (get_or (planned s) i no_entry) l ≡ true
      → some_for s.tolerance (get_or (planned s) i no_entry) ls ≡ false → ⊥

  other_by : is_group l ≡ true → MetNone → Case (run_over s ls) l → (take_line (run_over s ls) l).answer ≡ Role.Extra
  other_by t n (none g is) = cannot_be cc
  other_by t n (wanted g w is) =
      let i : ℕ = waits_for (run_over s ls) l in
      let all = wanted_first s ls a l i fresh (ap (λ (x : Took). x.answer) is) in
      absurd (n i all.0 all.1 all.2)
  other_by t n (extra g w is) = ap (λ (x : Took). x.answer) is

  pub other_extra : is_group l ≡ true → MetNone → (take_line (run_over s ls) l).answer ≡ Role.Extra
  other_extra t n = other_by t n (case (run_over s ls) l)

  group_by : (take_line (run_over s ls) l).answer ≡ Role.Extra → Case (run_over s ls) l → is_group l ≡ true
  group_by p (none g is) =
      let z : Role.NoPart ≡ Role.Extra = sym (ap (λ (x : Took). x.answer) is) ∙ p in
      cannot_be cc
  group_by p (wanted g w is) = g
  group_by p (extra g w is) = g

  met_none : (take_line (run_over s ls) l).answer ≡ Role.Extra → MetNone
  met_none p i h f n =
      let z : Role.Wanted i ≡ Role.Extra = sym (first_wanted s ls a l i h (fresh i) f n) ∙ p in
      cannot_be cc

  pub extra_other : (take_line (run_over s ls) l).answer ≡ Role.Extra → (is_group l ≡ true) × MetNone
  extra_other p = (group_by p (case (run_over s ls) l), met_none p)

-- A line that is no present group takes no part.
by_kind : (s : Acceptance) (l : Line) → is_group l ≡ false → Case s l → (take_line s l).answer ≡ Role.NoPart
by_kind s l n (none g is) = ap (λ (t : Took). t.answer) is
by_kind s l n (wanted g w is) = cannot_be cc
by_kind s l n (extra g w is) = cannot_be cc

pub others_none : (s : Acceptance) (l : Line) → is_group l ≡ false → (take_line s l).answer ≡ Role.NoPart
others_none s l n = by_kind s l n (case s l)
