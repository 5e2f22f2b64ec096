-- The depot's run over a ride (document 02, M-113): the promise for any lines; that the lines of a
-- ride, by its steps and its end, over any cards, under a store (M-111), are such; that the
-- program's calls, whatever their blocks, come to the run over those lines; that such runs are; and
-- why neighbours lie more than twice the tolerance apart. That all of it holds: proofs/Depot.antt.
-- Assumes nothing.
use Rattle.std.specs.Prelude.{ℕ, ◌*◌, ◌≤◌, ◌≡◌, true, List, [], ◌∷◌, ◌++◌, length, get_or, Some, None}
use Rattle.words.specs.Answer.{refuses}
use Rattle.settings.specs.declared.Store.{Store}
use Rattle.settings.specs.At.{gap_at}
use Rattle.group_rows.specs.declared.Direction.{Direction}
use Rattle.group_rows.specs.declared.Kind.{Kind}
use Rattle.group.specs.declared.Number.{Number}
use Rattle.ride.specs.State.{fresh_ride}
use Rattle.ride.specs.Step.{end}
use Rattle.ride.specs.Over.{records, ride_over, Ridden}
use Rattle.ride.specs.Says.{says_lines}
use Rattle.ride.specs.declared.Ended.{Ended}
use Rattle.ride.specs.declared.Line.{Line}
use Rattle.ride.specs.declared.Mark.{Mark}
use Rattle.ride.specs.declared.Ride.{Ride}
use Rattle.ride.specs.declared.Stepped.{Stepped}
use Rattle.acceptance.specs.declared.Entry.{Entry}
use Rattle.acceptance.specs.declared.Took.{Took}
use Rattle.acceptance.specs.Plan.{no_entry, plan_with, plan}
use Rattle.acceptance.specs.Taking.{planned, take_line}
use Rattle.acceptance.specs.Report.{up_to_most}
use Rattle.acceptance_text.specs.declared.Going.{Going}
use Rattle.acceptance_text.specs.declared.Advanced.{Advanced}
use Rattle.acceptance_text.specs.Taking.{part_line}
use Rattle.acceptance_text.specs.Says.{says_progress}
use Rattle.demands.specs.ByContract.{Fresh, EndOf}
use Rattle.demands.specs.Output.{records_in}
use Rattle.demands.specs.Stores.{Good, trace_rules}
use Rattle.demands.specs.Rules.{Decided, Given}
use Rattle.demands.specs.Sections.{Whole, Call, joined, ByStep, lines_from, after_steps}
use Rattle.acceptance_laws.specs.ByContract.{AcceptInto}
use Rattle.acceptance_laws.specs.Lines.{is_group_for, first_for, faults_in, refused_in}
use Rattle.acceptance_laws.specs.Accepted.{Run, ended, Accepted}
use Rattle.acceptance_laws.specs.Calls.{set_out, taken, ByAccept, text_from, after_calls, Last, Ends, last_text}

-- The lines of a ride over some cards, with the gap that a rule gives for each record's odometer,
-- and those of its end.
unfoldable pub ride_lines : (ℕ → ℕ) → List (List ℕ) → List Line
ride_lines gaps cards =
    let ridden : Ridden = ride_over gaps fresh_ride 1 (records (joined cards)) in
    ridden.lines ++ (end ridden.ride).lines

-- The line of each present group as text, with its part as it was answered.
unfoldable pub group_lines : List Line → List Took → List ℕ
group_lines [] ts = []
group_lines (l ∷ ls) [] = []
group_lines (l ∷ ls) (t ∷ ts) = part_line l t.answer ++ group_lines ls ts

-- What the program's calls leave, against a run over the ride's lines.
pub record Carried (r : Run) (calls : List (Call Advanced)) (last : Last) : Type 0 where
  -- the run that `take` over those lines leaves, which is the one that `report` and `sum_up` are
  -- asked of,
  pub run : last.answer.going.run ≡ ended r
  -- the lines of the present groups, each with its part,
  pub lines : text_from calls ++ last_text last ≡ group_lines r.lines r.answers
  -- and what went wrong on the way
  pub faults : last.answer.going.troubles.faults ≡ up_to_most (faults_in r.lines)
  pub refused : last.answer.going.troubles.refused ≡ up_to_most (refused_in r.lines)

-- Calls of `accept` over any cards, and then of `finish`.
pub record Blocks : Type 0 where
  -- whatever blocks `accept` is called with, and whatever room it has: after the end the run is the
  -- one over the ride's lines
  pub whole : (store : Store) (cards : List (List ℕ)) (f : Ride) (r : Run) (calls : List (Call Advanced)) (last : Last) → Good store → Fresh f
      → r.lines ≡ ride_lines (gap_at store) cards → ByAccept store (set_out f r.planned.plan) (joined cards) calls
      → Ends (after_calls (set_out f r.planned.plan) calls) last → Carried r calls last
  -- so long as it has room for one record, a call takes one, so that the calls come to an end
  pub goes_on : (going : Going) (store : Store) (c : Call Advanced) → Good store → Whole c.block → 1 ≤ records_in c.block → 128 ≤ length c.before
      → AcceptInto going store c.block c.before c.answer c.after → 1 ≤ taken c.answer.progress
  -- with room for 128 bytes a record it takes the whole block
  pub all_at_once : (going : Going) (store : Store) (c : Call Advanced) → Good store → Whole c.block → 128 * records_in c.block ≤ length c.before
      → AcceptInto going store c.block c.before c.answer c.after → taken c.answer.progress ≡ records_in c.block
  -- "given exactly under the condition written there": the settings' own refusals, then 16;
  pub decided : (going : Going) (store : Store) (block before : List ℕ) (r : Advanced) (after : List ℕ) → AcceptInto going store block before r after
      → Decided Given (trace_rules store block) (says_progress r.progress)
  -- and a refusal leaves the run and the buffer as they were
  pub untouched : (going : Going) (store : Store) (block before : List ℕ) (r : Advanced) (after : List ℕ) (n : ℕ) → AcceptInto going store block before r after
      → says_progress r.progress ≡ refuses n → (r.going ≡ going) × (after ≡ before)

-- A group of the present direction.
abbrev pub group_at : ℕ → Kind → Line
group_at place kind = Line.Group (record { place = place; direction = Direction.Present; kind = kind; mark = Mark.Unmarked; number = Number.None })

-- Two entries exactly twice the tolerance of 5 dm apart, and a group between them.
abbrev pub one : Entry
one = record { place = 1000; kind = Kind.Signal; met = None }

abbrev pub two : Entry
two = record { place = 1010; kind = Kind.Signal; met = None }

abbrev pub between : Line
between = group_at 1005 Kind.Signal

-- Without the distance one group would be the first for both entries, so two entries would be met
-- by one group and the sums would not hold; or the second would stay absent though a group of its
-- kind lies within the tolerance. So such a plan is refused.
pub record TooNear : Type 0 where
  pub for_both : (is_group_for 5 one between ≡ true) × (is_group_for 5 two between ≡ true)
  pub left_absent : (get_or (planned (take_line (plan_with 5 (one ∷ two ∷ [])) between).state) 1 no_entry).met ≡ None
  pub though_there : first_for 5 two (between ∷ []) ≡ Some 1005
  pub refused : (plan (0 ∷ 0 ∷ 3 ∷ 232 ∷ 0 ∷ 0 ∷ 0 ∷ 0 ∷ 0 ∷ 0 ∷ 3 ∷ 242 ∷ 0 ∷ 0 ∷ 0 ∷ 0 ∷ []) 5).answer ≡ refuses 27

pub record Depot : Type 0 where
  pub any_lines : (r : Run) → Accepted r
  -- the lines that `step`, record after record, and `end` answer are those of the ride over the
  -- cards
  pub by_step : (store : Store) (cards : List (List ℕ)) (f : Ride) (steps : List Stepped) (e : Ended) → Good store → Fresh f
      → ByStep (gap_at store) f (records (joined cards)) steps → EndOf (after_steps f steps) e
      → lines_from 1 steps ++ says_lines e.lines ≡ ride_lines (gap_at store) cards
  -- and what the program calls comes to the run over them
  pub by_blocks : Blocks
  -- such a run: a signal planned at 1000 and a line board at 5000, and a ride that gave a signal at
  -- 1003 and a warning board at 2000;
  pub such_a_run : (r : Run) × (r.lines ≡ group_at 1003 Kind.Signal ∷ group_at 2000 Kind.Warning ∷ [])
  -- over any ride there is one,
  pub such_a_ride : (gaps : ℕ → ℕ) (cards : List (List ℕ)) → (r : Run) × (r.lines ≡ ride_lines gaps cards)
  -- and over any card of whole records calls that carry it
  pub such_calls : (going : Going) (store : Store) (card : List ℕ) → Good store → Whole card
      → (calls : List (Call Advanced)) × (last : Last) × ByAccept store going card calls × Ends (after_calls going calls) last
  pub too_near : TooNear
