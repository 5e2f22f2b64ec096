-- What is promised of an acceptance run holds of every run that the contracts allow.
-- Assumes nothing.
use Rattle.std.proofs.Common.{Option, None, Some}
use Prim.Native.Nat.{ℕ, ◌+◌, ◌-◌, ◌≤◌, ◌<◌, ◌^◌}
use native.Mathlib.Omega.{arith}
use mathlib.Core.Path.{◌≡◌, refl, sym, ap, ap₂, ◌∙◌}
use mathlib.Core.Bool.{Bool, true, false}
use mathlib.Core.List.{List}
use lib.Dec.{ltb}
use lib.ListN.{length, take, get_or}
use borrow.Author.Tests.{ltb-true, ltb-false, le-leb}
use Rattle.words.specs.Answer.{pick}
use Rattle.words.proofs.Never.{cannot_be}
use Rattle.words.specs.Limits.{largest64}
use Rattle.ride.specs.declared.Line.{Line}
use Rattle.ride.specs.Over.{records}
use Rattle.acceptance.specs.declared.Entry.{Entry}
use Rattle.acceptance.specs.declared.Acceptance.{Acceptance}
use Rattle.acceptance.specs.declared.Role.{Role}
use Rattle.acceptance.specs.declared.Took.{Took}
use Rattle.acceptance.specs.declared.Sums.{Sums}
use Rattle.acceptance.specs.Plan.{entries_of, no_entry, apart, plan_with, plan}
use Rattle.acceptance.specs.Taking.{planned, is_for, no_part, take_line}
use Rattle.acceptance.specs.Report.{report, met_in, sum_up}
use Rattle.acceptance_laws.specs.ByContract.{Reports, SumsUp}
use Rattle.acceptance_laws.specs.Lines.{is_group, groups_in, is_group_for, some_for, first_for, wanted_in, extra_in}
use Rattle.acceptance_laws.specs.Accepted.{Run, ended, entries, entry, part, Accepted}
use Rattle.acceptance_laws.specs.Accepted as claim
use Rattle.acceptance_laws.proofs.Placed.{place_in, kind_in, group_for}
use Rattle.acceptance_laws.proofs.Near.{and_right, only_one}
use Rattle.acceptance_laws.proofs.Meeting.{with}
use Rattle.acceptance_laws.proofs.Over.{run_over, answers_to, met_all, wanted_over, extra_over, groups_over}
use Rattle.acceptance_laws.proofs.Parts.{answer_at, absent_first, plan_length, entry_after, first_wanted, wanted_first, other_extra, extra_other, others_none}
use Rattle.acceptance_laws.proofs.Plan.{good_plan, plan_entries, plan_tolerance, plan_extra, unmet, met_within, none_met}
use Rattle.acceptance_laws.proofs.Reports.{taken_are, some_at, reported, not_reported, sums_are}

module _ (r : Run) where
  abbrev s : Acceptance
  s = r.planned.plan

  facts : (apart r.tolerance (entries_of r.bytes) ≡ true) × (r.planned.plan ≡ plan_with r.tolerance (entries_of r.bytes))
  facts =
      good_plan r.bytes r.tolerance r.planned (r.is_plan.4 ∙ ap (λ (b : List ℕ). plan b r.tolerance) r.is_plan.3) r.is_good_law

  entries_are : planned s ≡ entries_of r.bytes
  entries_are = ap planned facts.1 ∙ plan_entries r.tolerance (entries_of r.bytes)

  tolerance_is : s.tolerance ≡ r.tolerance
  tolerance_is = ap (λ (x : Acceptance). x.tolerance) facts.1 ∙ plan_tolerance r.tolerance (entries_of r.bytes)

  none_extra : s.extra ≡ 0
  none_extra = ap (λ (x : Acceptance). x.extra) facts.1 ∙ plan_extra r.tolerance (entries_of r.bytes)

  apart_is : apart s.tolerance (planned s) ≡ true
  apart_is = ap₂ apart tolerance_is entries_are ∙ facts.0

  size : length (planned s) ≡ entries r
  size = ap length entries_are

  entry_is : (i : ℕ) → get_or (planned s) i no_entry ≡ entry r i
  entry_is i = ap (λ (es : List Entry). get_or es i no_entry) entries_are

  fresh : (i : ℕ) → (get_or (planned s) i no_entry).met ≡ None
  fresh i = ap (λ (e : Entry). e.met) (entry_is i) ∙ unmet (records r.bytes) i

  none_yet : met_in (planned s) ≡ 0
  none_yet = ap met_in entries_are ∙ none_met (records r.bytes)

  over : ended r ≡ run_over s r.lines
  over = (taken_are s r.lines r.answers r.are_taken).1

  answers_are : r.answers ≡ answers_to s r.lines
  answers_are = (taken_are s r.lines r.answers r.are_taken).0

  size_after : length (planned (run_over s r.lines)) ≡ entries r
  size_after = plan_length s r.lines apart_is ∙ size

  part_is : (k : ℕ) → k < length r.lines → part r k ≡ (take_line (run_over s (take k r.lines)) (get_or r.lines k (Line.Trace 0))).answer
  part_is k h =
      ap (λ (ts : List Took). (get_or ts k (no_part s)).answer) answers_are ∙ ap (λ (t : Took). t.answer) (answer_at s r.lines k (no_part s) h)

  -- The plan's own tolerance and entries in place of the run's.
  for_is : (i : ℕ) (l : Line) → is_group_for s.tolerance (get_or (planned s) i no_entry) l ≡ is_group_for r.tolerance (entry r i) l
  for_is i l = ap₂ (λ (t : ℕ) (e : Entry). is_group_for t e l) tolerance_is (entry_is i)

  some_is : (i : ℕ) (ls : List Line) → some_for s.tolerance (get_or (planned s) i no_entry) ls ≡ some_for r.tolerance (entry r i) ls
  some_is i ls = ap₂ (λ (t : ℕ) (e : Entry). some_for t e ls) tolerance_is (entry_is i)

  each_entry : (i : ℕ) (x : Option Entry) → i < entries r → Reports (ended r) i x
      → x ≡ Some (record { place = (entry r i).place; kind = (entry r i).kind; met = first_for r.tolerance (entry r i) r.lines })
  each_entry i x h p =
      let in_plan : i < length (planned s) = omega (arith, size) in
      p.1 ∙ ap (λ (e : Acceptance). report e i) over ∙ reported (run_over s r.lines) i (omega (arith, size_after))
      ∙ ap Some
      (entry_after s r.lines apart_is i in_plan
      ∙ ap (λ (m : Option ℕ). with (get_or (planned s) i no_entry) (met_all (first_for s.tolerance (get_or (planned s) i no_entry) r.lines) m)) (fresh i)
      ∙ ap₂ (λ (t : ℕ) (e : Entry). with e (first_for t e r.lines)) tolerance_is (entry_is i))

  no_other : (i : ℕ) (x : Option Entry) → entries r ≤ i → Reports (ended r) i x → x ≡ None
  no_other i x h p = p.1 ∙ ap (λ (e : Acceptance). report e i) over ∙ not_reported (run_over s r.lines) i (omega (arith, size_after))

  in_sums : (x : Sums) → SumsUp (ended r) x → x ≡ sum_up (run_over s r.lines)
  in_sums x p = p.1 ∙ ap sum_up over

  met_and_absent : (x : Sums) → SumsUp (ended r) x → (x.entries ≡ entries r) × (x.met + x.absent ≡ entries r)
  met_and_absent x p =
      let are = sums_are (run_over s r.lines) x (in_sums x p) in
      (are.0 ∙ size_after, omega (arith, are.1, are.2, size_after, met_within (planned (run_over s r.lines))))

  wanted : (x : Sums) → SumsUp (ended r) x → x.met ≡ wanted_in r.answers
  wanted x p =
      let are = sums_are (run_over s r.lines) x (in_sums x p) in
      let all : met_in (planned (run_over s r.lines)) ≡ wanted_in (answers_to s r.lines) = omega (arith, wanted_over s r.lines, none_yet) in
      are.1 ∙ all ∙ ap wanted_in (sym answers_are)

  extra : (x : Sums) → SumsUp (ended r) x → groups_in r.lines < 2 ^ 64 → x.extra ≡ extra_in r.answers
  extra x p h =
      let are = sums_are (run_over s r.lines) x (in_sums x p) in
      let room : s.extra + groups_in r.lines ≤ largest64 = omega (arith, none_extra) in
      let all : (run_over s r.lines).extra ≡ extra_in (answers_to s r.lines) = omega (arith, extra_over s r.lines room, none_extra) in
      are.4 ∙ all ∙ ap extra_in (sym answers_are)

  met_and_extra : (x : Sums) → SumsUp (ended r) x → groups_in r.lines < 2 ^ 64 → (x.met + x.extra ≡ groups_in r.lines) × (x.present ≡ groups_in r.lines)
  met_and_extra x p h =
      let are = sums_are (run_over s r.lines) x (in_sums x p) in
      let room : s.extra + groups_in r.lines ≤ largest64 = omega (arith, none_extra) in
      let all : met_in (planned (run_over s r.lines)) + (run_over s r.lines).extra ≡ groups_in r.lines =
      omega (arith, wanted_over s r.lines, extra_over s r.lines room, groups_over s r.lines, none_extra, none_yet) in
      let fits : met_in (planned (run_over s r.lines)) + (run_over s r.lines).extra ≤ largest64 = omega arith in (
        omega (arith, are.1, are.4),
        are.3 ∙ ap (λ (b : Bool). pick b (met_in (planned (run_over s r.lines)) + (run_over s r.lines).extra) largest64) (le-leb _ _ fits) ∙ all,
      )

  first_is_wanted : (k i : ℕ) → k < length r.lines → i < entries r → claim.is_for r i k → claim.none_before r i k → part r k ≡ Role.Wanted i
  first_is_wanted k i h j f n =
      let l : Line = get_or r.lines k (Line.Trace 0) in
      part_is k h
      ∙ first_wanted s (take k r.lines) apart_is l i (omega (arith, size)) (fresh i) (for_is i l ∙ f) (some_is i (take k r.lines) ∙ n)

  wanted_is_first : (k i : ℕ) → k < length r.lines → part r k ≡ Role.Wanted i → (i < entries r) × (claim.is_for r i k) × (claim.none_before r i k)
  wanted_is_first k i h p =
      let l : Line = get_or r.lines k (Line.Trace 0) in
      let all = wanted_first s (take k r.lines) apart_is l i fresh (sym (part_is k h) ∙ p) in
      (omega (arith, size, all.0), sym (for_is i l) ∙ all.1, sym (some_is i (take k r.lines)) ∙ all.2)

  other_is_extra : (k : ℕ) → k < length r.lines → is_group (get_or r.lines k (Line.Trace 0)) ≡ true → claim.met_none r k → part r k ≡ Role.Extra
  other_is_extra k h t n =
      part_is k h
      ∙ other_extra s (take k r.lines) apart_is (get_or r.lines k (Line.Trace 0)) fresh t
      (λ i j f m. n i (omega (arith, size)) (sym (for_is i (get_or r.lines k (Line.Trace 0))) ∙ f) (sym (some_is i (take k r.lines)) ∙ m))

  extra_is_other : (k : ℕ) → k < length r.lines → part r k ≡ Role.Extra → (is_group (get_or r.lines k (Line.Trace 0)) ≡ true) × claim.met_none r k
  extra_is_other k h p =
      let all = extra_other s (take k r.lines) apart_is (get_or r.lines k (Line.Trace 0)) fresh (sym (part_is k h) ∙ p) in
      (all.0, λ i j f m. all.1 i (omega (arith, size)) (for_is i (get_or r.lines k (Line.Trace 0)) ∙ f) (some_is i (take k r.lines) ∙ m))

  one_entry : (l : Line) (i j : ℕ) → i < entries r → j < entries r
      → is_group_for r.tolerance (entry r i) l ≡ true → is_group_for r.tolerance (entry r j) l ≡ true → i ≡ j
  one_entry l i j h k p q =
      only_one r.tolerance (place_in l) (kind_in l) (entries_of r.bytes) facts.0 i j h k
      (and_right (is_group l) (is_for r.tolerance (place_in l) (kind_in l) (entry r i)) (sym (group_for r.tolerance (entry r i) l) ∙ p))
      (and_right (is_group l) (is_for r.tolerance (place_in l) (kind_in l) (entry r j)) (sym (group_for r.tolerance (entry r j) l) ∙ q))

  -- Of two lines answered wanted for one entry neither comes first.
  not_before : (k m i : ℕ) → k < length r.lines → m < length r.lines → part r k ≡ Role.Wanted i → part r m ≡ Role.Wanted i → k < m → ⊥
  not_before k m i h j p q before =
      let early = wanted_is_first k i h p in
      let late = wanted_is_first m i j q in
      let found : some_for r.tolerance (entry r i) (take m r.lines) ≡ true = some_at r.tolerance (entry r i) r.lines k m before h early.1 in
      let z : true ≡ false = sym found ∙ late.2 in
      cannot_be cc

  one_group : (k m i : ℕ) → k < length r.lines → m < length r.lines → part r k ≡ Role.Wanted i → part r m ≡ Role.Wanted i → k ≡ m
  one_group k m i h j p q = by_order (ltb k m) (ltb m k) refl refl
    where
      by_order : (a b : Bool) → ltb k m ≡ a → ltb m k ≡ b → k ≡ m
      by_order true b e f = absurd (not_before k m i h j p q (ltb-true k m e))
      by_order false true e f = absurd (not_before m k i j h q p (ltb-true m k f))
      by_order false false e f = omega (arith, ltb-false k m e, ltb-false m k f)

-- All of it, of every run.
pub accepted : (r : Run) → Accepted r
accepted r =
    record {
      each_entry = each_entry r;
      no_other = no_other r;
      met_exactly = λ i. absent_first r.tolerance (entry r i) r.lines;
      met_and_absent = met_and_absent r;
      met_and_extra = met_and_extra r;
      wanted = wanted r;
      extra = extra r;
      first_is_wanted = first_is_wanted r;
      wanted_is_first = wanted_is_first r;
      other_is_extra = other_is_extra r;
      extra_is_other = extra_is_other r;
      no_part_law = λ k h n. part_is r k h ∙ others_none (run_over r.planned.plan (take k r.lines)) (get_or r.lines k (Line.Trace 0)) n;
      one_entry = one_entry r;
      one_group = one_group r;
    }
