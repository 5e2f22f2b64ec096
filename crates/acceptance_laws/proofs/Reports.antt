-- The answers to some lines, and what is reported after them.
-- Assumes nothing.
use Rattle.std.proofs.Common.{Some, None}
use Prim.Native.Nat.{ℕ, zero, suc, ◌+◌, ◌-◌, ◌≤◌, ◌<◌}
use native.Mathlib.Omega.{arith}
use mathlib.Core.Path.{◌≡◌, refl, ap, ap₂, ◌∙◌}
use mathlib.Core.Bool.{Bool, true, ◌||◌}
use mathlib.Core.List.{List, [], ◌∷◌}
use lib.ListN.{length, take, get_or}
use borrow.Author.Tests.{lt-ltb, le-ltb}
use Rattle.words.specs.Answer.{pick}
use Rattle.ride.specs.declared.Line.{Line}
use Rattle.acceptance.specs.declared.Entry.{Entry}
use Rattle.acceptance.specs.declared.Acceptance.{Acceptance}
use Rattle.acceptance.specs.declared.Took.{Took}
use Rattle.acceptance.specs.declared.Sums.{Sums}
use Rattle.acceptance.specs.Plan.{no_entry}
use Rattle.acceptance.specs.Taking.{planned, take_line}
use Rattle.acceptance.specs.Report.{report, met_in, up_to_most, sum_up}
use Rattle.demands.proofs.Demand1.Answers.{or_true}
use Rattle.acceptance_laws.specs.Lines.{is_group_for, some_for}
use Rattle.acceptance_laws.specs.Accepted.{Taken, after, entries}
use Rattle.acceptance_laws.proofs.Over.{run_over, answers_to}

-- ---- the answers

pub taken_are : (s : Acceptance) (ls : List Line) (ts : List Took) → Taken s ls ts → (ts ≡ answers_to s ls) × (after s ts ≡ run_over s ls)
unfolding answers_to run_over
taken_are s [] [] h = (refl, refl)
taken_are s [] (t ∷ ts) h = absurd h
taken_are s (l ∷ ls) [] h = absurd h
taken_are s (l ∷ ls) (t ∷ ts) h =
    let is : t ≡ take_line s l = h.0.1 in
    let rest = taken_are t.state ls ts h.1 in (
      ap₂ (λ (x : Took) (xs : List Took). x ∷ xs) is (rest.0 ∙ ap (λ (x : Took). answers_to x.state ls) is),
      rest.1 ∙ ap (λ (x : Took). run_over x.state ls) is,
    )

-- Line k of the lines before m is among them.
pub some_at : (tolerance : ℕ) (e : Entry) (ls : List Line) (k m : ℕ) → k < m → k < length ls → is_group_for tolerance e (get_or ls k (Line.Trace 0)) ≡ true
    → some_for tolerance e (take m ls) ≡ true
unfolding some_for
some_at tolerance e [] k m h j g = absurd (omega arith)
some_at tolerance e (l ∷ ls) k zero h j g = absurd (omega arith)
some_at tolerance e (l ∷ ls) zero (suc m) h j g = ap (λ (b : Bool). b || some_for tolerance e (take m ls)) g
some_at tolerance e (l ∷ ls) (suc k) (suc m) h j g =
    ap (λ (b : Bool). is_group_for tolerance e l || b) (some_at tolerance e ls k m (omega arith) (omega arith) g) ∙ or_true (is_group_for tolerance e l)

-- ---- the report

pub reported : (s : Acceptance) (i : ℕ) → i < length (planned s) → report s i ≡ Some (get_or (planned s) i no_entry)
unfolding report
reported s i h = ap (λ (b : Bool). pick b (Some (get_or (planned s) i no_entry)) None) (lt-ltb i (length (planned s)) h)

pub not_reported : (s : Acceptance) (i : ℕ) → length (planned s) ≤ i → report s i ≡ None
unfolding report
not_reported s i h = ap (λ (b : Bool). pick b (Some (get_or (planned s) i no_entry)) None) (le-ltb i (length (planned s)) h)

pub sums_are : (s : Acceptance) (x : Sums) → x ≡ sum_up s → (x.entries ≡ length (planned s)) × (x.met ≡ met_in (planned s)) × (x.absent ≡ length (planned s) - met_in (planned s))
    × (x.present ≡ up_to_most (met_in (planned s) + s.extra)) × (x.extra ≡ s.extra)
unfolding sum_up
sums_are s x e =
    (ap (λ (y : Sums). y.entries) e, ap (λ (y : Sums). y.met) e, ap (λ (y : Sums). y.absent) e, ap (λ (y : Sums). y.present) e, ap (λ (y : Sums). y.extra) e)
