-- What is promised of an acceptance run (document 02, M-113), for any good plan and any lines. That
-- all of it holds: proofs/Accepted.antt.
-- Assumes nothing.
use Rattle.std.specs.Prelude.{ℕ, ◌+◌, ◌≤◌, ◌<◌, ◌^◌, ◌≡◌, true, false, not, List, [], ◌∷◌, length, take, get_or, Option, Some, None, Ok}
use Rattle.ride.specs.declared.Line.{Line}
use Rattle.acceptance.specs.declared.Entry.{Entry}
use Rattle.acceptance.specs.declared.Acceptance.{Acceptance}
use Rattle.acceptance.specs.declared.Planned.{Planned}
use Rattle.acceptance.specs.declared.Role.{Role}
use Rattle.acceptance.specs.declared.Took.{Took}
use Rattle.acceptance.specs.declared.Sums.{Sums}
use Rattle.acceptance.specs.Plan.{entries_of, no_entry}
use Rattle.acceptance.specs.Taking.{is_absent, no_part}
use Rattle.demands.specs.Plans.{Plans}
use Rattle.acceptance_laws.specs.ByContract.{Takes, Reports, SumsUp}
use Rattle.acceptance_laws.specs.Lines.{is_group, groups_in, is_group_for, some_for, first_for, wanted_in, extra_in}

-- These are the answers of `take` to some lines in turn, each in the run that the one before left.
abbrev pub Taken : Acceptance → List Line → List Took → Type 0
Taken s [] [] = Unit {0}
Taken s [] (t ∷ ts) = ⊥
Taken s (l ∷ ls) [] = ⊥
Taken s (l ∷ ls) (t ∷ ts) = Takes s l t × Taken t.state ls ts

-- The run after them.
abbrev pub after : Acceptance → List Took → Acceptance
after s [] = s
after s (t ∷ ts) = after t.state ts

-- A run: a plan that was read and is good, lines, and the answers to them.
pub record Run : Type 0 where
  pub bytes : List ℕ
  pub tolerance : ℕ
  pub planned : Planned
  pub lines : List Line
  pub answers : List Took
  pub is_plan : Plans bytes tolerance planned
  pub is_good_law : planned.judged ≡ Ok tt
  pub are_taken : Taken planned.plan lines answers

-- The run at its end.
abbrev pub ended : Run → Acceptance
ended r = after r.planned.plan r.answers

-- The plan's length, and its entry with an index.
abbrev pub entries : Run → ℕ
entries r = length (entries_of r.bytes)

abbrev pub entry : Run → ℕ → Entry
entry r i = get_or (entries_of r.bytes) i no_entry

-- Whether line k is a present group of entry i's kind whose A place lies within the tolerance; and
-- whether some line before it is.
abbrev pub is_for : Run → ℕ → ℕ → Type 0
is_for r i k = is_group_for r.tolerance (entry r i) (get_or r.lines k (Line.Trace 0)) ≡ true

abbrev pub none_before : Run → ℕ → ℕ → Type 0
none_before r i k = some_for r.tolerance (entry r i) (take k r.lines) ≡ false

-- Line k met no entry: it is the first such group of none.
abbrev pub met_none : Run → ℕ → Type 0
met_none r k = (i : ℕ) → i < entries r → is_for r i k → none_before r i k → ⊥

-- The part of line k as it was answered.
abbrev pub part : Run → ℕ → Role
part r k = (get_or r.answers k (no_part r.planned.plan)).answer

-- The promise.
pub record Accepted (r : Run) : Type 0 where
  -- "an entry is met by the first present group of its kind whose A place lies within the
  -- tolerance": so says the report of each entry,
  pub each_entry : (i : ℕ) (x : Option Entry) → i < entries r → Reports (ended r) i x
      → x ≡ Some (record { place = (entry r i).place; kind = (entry r i).kind; met = first_for r.tolerance (entry r i) r.lines })
  pub no_other : (i : ℕ) (x : Option Entry) → entries r ≤ i → Reports (ended r) i x → x ≡ None
  -- and it is met exactly if there is such a group
  pub met_exactly : (i : ℕ) → is_absent (first_for r.tolerance (entry r i) r.lines) ≡ not (some_for r.tolerance (entry r i) r.lines)
  -- "Met and absent together equal the plan's length"
  pub met_and_absent : (x : Sums) → SumsUp (ended r) x → (x.entries ≡ entries r) × (x.met + x.absent ≡ entries r)
  -- "met and extra together equal the present groups accepted in the ride, counted from the ride's
  -- lines" (fewer than 2^64, as in any ride)
  pub met_and_extra : (x : Sums) → SumsUp (ended r) x → groups_in r.lines < 2 ^ 64
      → (x.met + x.extra ≡ groups_in r.lines) × (x.present ≡ groups_in r.lines)
  -- as many groups were answered wanted as entries are met, and as many extra as the sums say
  pub wanted : (x : Sums) → SumsUp (ended r) x → x.met ≡ wanted_in r.answers
  pub extra : (x : Sums) → SumsUp (ended r) x → groups_in r.lines < 2 ^ 64 → x.extra ≡ extra_in r.answers
  -- "wanted (it is the one that met an entry)": a group is answered wanted, for entry i, exactly if
  -- it is the first such group of entry i
  pub first_is_wanted : (k i : ℕ) → k < length r.lines → i < entries r → is_for r i k → none_before r i k → part r k ≡ Role.Wanted i
  pub wanted_is_first : (k i : ℕ) → k < length r.lines → part r k ≡ Role.Wanted i → (i < entries r) × (is_for r i k) × (none_before r i k)
  -- "or extra": a present group is answered extra exactly if it met no entry
  pub other_is_extra : (k : ℕ) → k < length r.lines → is_group (get_or r.lines k (Line.Trace 0)) ≡ true → met_none r k → part r k ≡ Role.Extra
  pub extra_is_other : (k : ℕ) → k < length r.lines → part r k ≡ Role.Extra → (is_group (get_or r.lines k (Line.Trace 0)) ≡ true) × met_none r k
  -- "Opposite and refused groups take no part", nor does any other line
  pub no_part_law : (k : ℕ) → k < length r.lines → is_group (get_or r.lines k (Line.Trace 0)) ≡ false → part r k ≡ Role.NoPart
  -- each group meets at most one entry: neighbours lie more than twice the tolerance apart
  pub one_entry : (l : Line) (i j : ℕ) → i < entries r → j < entries r
      → is_group_for r.tolerance (entry r i) l ≡ true → is_group_for r.tolerance (entry r j) l ≡ true → i ≡ j
  -- each entry is met by at most one group
  pub one_group : (k m i : ℕ) → k < length r.lines → m < length r.lines → part r k ≡ Role.Wanted i → part r m ≡ Role.Wanted i → k ≡ m
