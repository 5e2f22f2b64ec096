-- The answers case by case, as the code comes to them.
-- Assumes nothing.
use Rattle.std.proofs.Common.{Some, None}
use Prim.Native.Nat.{ℕ, ◌+◌, ◌-◌, ◌/◌, ◌%◌, ◌≤◌, ◌<◌}
use native.Mathlib.Omega.{arith}
use mathlib.Core.Path.{◌≡◌, refl, sym, ap, ap₂, ◌∙◌}
use mathlib.Core.Bool.{Bool, true, false, ◌&&◌}
use mathlib.Core.List.{List, ◌++◌}
use lib.Dec.{eqb, leb, ltb}
use lib.ListN.{length, take, get_or, replicate}
use lib.Seq.{take_at, get_or-take}
use borrow.Author.Tests.{leb-true, lt-ltb, le-ltb}
use Rattle.words.specs.Answer.{pick}
use Rattle.group_rows.specs.declared.Kind.{Kind}
use Rattle.ride.specs.declared.Seen.{Seen}
use Rattle.ride.specs.declared.Line.{Line}
use Rattle.ride.specs.Over.{records}
use Rattle.acceptance.specs.declared.Entry.{Entry}
use Rattle.acceptance.specs.declared.Acceptance.{Acceptance}
use Rattle.acceptance.specs.declared.Role.{Role}
use Rattle.acceptance.specs.declared.Took.{Took}
use Rattle.acceptance.specs.declared.Sums.{Sums}
use Rattle.acceptance.specs.Plan.{all_good, well_formed, entries_of, apart, no_entry, plan_with}
use Rattle.acceptance.specs.Taking.{planned, is_present, waiting, after_wanted, after_extra, take_group, no_part, take_line}
use Rattle.acceptance.specs.Report.{report, met_in, up_to_most, sum_up}
use Rattle.acceptance.proofs.Filling.{entries_length}
use Rattle.words.proofs.Never.{cannot_be}

-- ---- a plan

both : (a b c : Bool) → (a && b && c) ≡ true → b ≡ true
both true true c e = refl
both true false c e = e
both false b c e = cannot_be cc

-- A plan that is well formed has no more than 64 entries.
pub few : (b : List ℕ) → well_formed b ≡ true → length b / 8 ≤ 64
unfolding well_formed
few b e = leb-true (length b / 8) 64 (both (eqb (length b % 8) 0) (leb (length b / 8) 64) (all_good (records b)) e)

module _ (b : List ℕ) (tolerance : ℕ) (es : List Entry) (is : es ≡ entries_of b ++ replicate (64 - length (entries_of b)) no_entry) where
  size : length (entries_of b) ≡ length b / 8
  size = entries_length (length b / 8) b

  pub apart_is : apart tolerance (take (length b / 8) es) ≡ apart tolerance (entries_of b)
  apart_is =
      ap (λ (l : List Entry). apart tolerance (take (length b / 8) l)) is
      ∙ ap (apart tolerance) (take_at (entries_of b) (replicate (64 - length (entries_of b)) no_entry) (length b / 8) size)

  pub plan_is : ◌≡◌ {A = Acceptance} (record { entries = es; count = length b / 8; tolerance = tolerance; extra = 0 }) (plan_with tolerance (entries_of b))
  unfolding plan_with
  plan_is = ap₂ (λ (l : List Entry) (n : ℕ). record { entries = l; count = n; tolerance = tolerance; extra = 0 }) is (sym size)

-- ---- a group

module _ (s : Acceptance) (n : ℕ) (size : n ≡ length (planned s)) (whole : take n s.entries ≡ planned s) where
  module _ (place : ℕ) (kind : Kind) (i : ℕ) (found : i ≡ waiting s.tolerance place kind (take n s.entries)) where
    first : i ≡ waiting s.tolerance place kind (planned s)
    first = found ∙ ap (waiting s.tolerance place kind) whole

    pub wanted_is : i < n → ◌≡◌ {A = Took} (record { state = after_wanted s i place; answer = Role.Wanted i }) (take_group s place kind)
    unfolding take_group
    wanted_is h =
        let is : ltb i (length (planned s)) ≡ true = lt-ltb i (length (planned s)) (omega arith) in
        ap (λ (b : Bool). pick b (record { state = after_wanted s i place; answer = Role.Wanted i }) (record { state = after_extra s; answer = Role.Extra })) (sym is)
        ∙ ap (λ (j : ℕ). pick (ltb j (length (planned s))) (record { state = after_wanted s j place; answer = Role.Wanted j }) (record { state = after_extra s; answer = Role.Extra })) first

    pub extra_is : n ≤ i → ◌≡◌ {A = Took} (record { state = after_extra s; answer = Role.Extra }) (take_group s place kind)
    unfolding take_group
    extra_is h =
        let is : ltb i (length (planned s)) ≡ false = le-ltb i (length (planned s)) (omega arith) in
        ap (λ (b : Bool). pick b (record { state = after_wanted s i place; answer = Role.Wanted i }) (record { state = after_extra s; answer = Role.Extra })) (sym is)
        ∙ ap (λ (j : ℕ). pick (ltb j (length (planned s))) (record { state = after_wanted s j place; answer = Role.Wanted j }) (record { state = after_extra s; answer = Role.Extra })) first

  -- ---- the report

  pub entry_reported : (i : ℕ) → i < n → Some (get_or s.entries i no_entry) ≡ report s i
  unfolding report
  entry_reported i h =
      let is : ltb i (length (planned s)) ≡ true = lt-ltb i (length (planned s)) (omega arith) in
      ap Some (sym (get_or-take n s.entries i no_entry h) ∙ ap (λ (l : List Entry). get_or l i no_entry) whole)
      ∙ ap (λ (b : Bool). pick b (Some (get_or (planned s) i no_entry)) None) (sym is)

  pub none_reported : (i : ℕ) → n ≤ i → None ≡ report s i
  unfolding report
  none_reported i h =
      let is : ltb i (length (planned s)) ≡ false = le-ltb i (length (planned s)) (omega arith) in
      ap (λ (b : Bool). pick b (Some (get_or (planned s) i no_entry)) None) (sym is)

  pub sums_are : (met present : ℕ) → met ≡ met_in (take n s.entries) → present ≡ up_to_most (met + s.extra)
      → ◌≡◌ {A = Sums} (record { entries = n; met = met; absent = n - met; present = present; extra = s.extra }) (sum_up s)
  unfolding sum_up
  sums_are met present e f =
      let m : met ≡ met_in (planned s) = e ∙ ap met_in whole in
      ap (λ (p : ℕ). record { entries = n; met = met; absent = n - met; present = p; extra = s.extra }) f
      ∙ ap₂ (λ (k j : ℕ). record { entries = k; met = j; absent = k - j; present = up_to_most (j + s.extra); extra = s.extra }) size m

-- ---- a line

pub present_is : (s : Acceptance) (l : Line) (g : Seen) → l ≡ Line.Group g → is_present g.direction ≡ true → take_group s g.place g.kind ≡ take_line s l
unfolding take_line
present_is s l g e d = rw (e, d)

pub opposite_is : (s : Acceptance) (l : Line) (g : Seen) → l ≡ Line.Group g → is_present g.direction ≡ false → no_part s ≡ take_line s l
unfolding take_line
opposite_is s l g e d = rw (e, d)
