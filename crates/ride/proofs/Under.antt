-- Rides under settings: what is held treats each record as the gap in force at its own odometer
-- does.
-- Assumes nothing.
use Prim.Native.Nat.{ℕ, ◌/◌, ◌%◌, ◌≤◌, ◌<◌}
use mathlib.Core.Path.{◌≡◌, refl, ap, sym, ◌∙◌}
use mathlib.Core.Bool.{Bool, true, false, not}
use mathlib.Core.List.{List, [], ◌∷◌}
use lib.Dec.{eqb, ltb}
use lib.ListN.{length}
use borrow.Author.Tests.{lt-ltb, le-ltb}
use types.Run.{OneOf}
use denote.Enum.Declared.{tag_of}
use Rattle.words.specs.Answer.{Outcome, gives, refuses, pick}
use Rattle.settings.specs.declared.Store.{Store}
use Rattle.settings.specs.declared.Held.{Held}
use Rattle.settings.specs.Versions.{highest, kept}
use Rattle.settings.specs.Store.{judged}
use Rattle.settings.specs.At.{held_at, gap_at, held_for}
use Rattle.settings.proofs.Holding.{Holding, keeps, held_is}
use Rattle.ride.specs.declared.Ride.{Ride}
use Rattle.ride.specs.Record.{Entry, odometer_of, passed_of, in_order_meant, check_record}
use Rattle.ride.specs.Step.{Step, refuse_or, treat}
use Rattle.std.specs.Prelude.{Result}
use Rattle.ride.specs.declared.Lines.{Lines}
use Rattle.ride.specs.declared.Wrong.{Wrong}
use Rattle.ride.specs.declared.trace.Reply.{Reply}
use Rattle.ride.specs.declared.trace.Treated.{Treated}
use Rattle.ride.specs.At.{record_at, odometer_at, Treatment, treat_at}
use Rattle.ride.specs.Over.{records, ride_over, through, Run, run}
use Rattle.ride.specs.Says.{says_given, says_treated}
use Rattle.ride.proofs.At.{took, past, at_record}
use Rattle.ride.specs.contracts.trace.Reply.{the_type}

-- ---- the odometer at an index

pub odometer_there : (trace : List ℕ) (i : ℕ) → i < length trace / 8 → odometer_of (record_at trace i) ≡ odometer_at trace i
unfolding odometer_at
odometer_there trace i h = rw (lt-ltb i (length trace / 8) h)

pub odometer_none : (trace : List ℕ) (i : ℕ) → length trace / 8 ≤ i → 0 ≡ odometer_at trace i
unfolding odometer_at
odometer_none trace i h = rw (le-ltb i (length trace / 8) h)

-- ---- one record

-- A record above the highest place is refused whatever the gap.
refused_by : (b : Bool) (ride : Ride) (gap other : ℕ) (e : Outcome Entry)
    → refuse_or ride gap (pick b (refuses 16) (pick {A = Outcome Entry} true (refuses 18) e)) ≡ refuse_or ride other (pick b (refuses 16) (pick {A = Outcome Entry} true (refuses 18) e))
refused_by true ride gap other e = refl
refused_by false ride gap other e = refl

high_refused : (ride : Ride) (gap other : ℕ) (r : List ℕ) → ltb 4000000000 (odometer_of r) ≡ true → treat ride gap r ≡ treat ride other r
unfolding treat check_record
high_refused ride gap other r e =
    rw e (refused_by (not (in_order_meant r)) ride gap other (pick (ltb (odometer_of r) ride.odometer) (refuses 17) (gives (record { odometer = odometer_of r; passed = passed_of r }))))

treat_by : (b : Bool) (store : Store) (held : Held) (ride : Ride) (r : List ℕ) → ltb highest (odometer_of r) ≡ b → judged store ≡ gives kept → Holding store held
    → treat ride (held_for store held (odometer_of r)).gap r ≡ treat ride (gap_at store (odometer_of r)) r
unfolding gap_at
treat_by true store held ride r e h hold = high_refused ride (held_for store held (odometer_of r)).gap (held_at store (odometer_of r)).gap r e
treat_by false store held ride r e h hold = ap (λ (x : Held). treat ride x.gap r) (held_is store held (odometer_of r) h hold e)

-- What is held treats a record as the gap in force at its odometer does.
pub treat_held : (store : Store) (held : Held) (ride : Ride) (r : List ℕ) → judged store ≡ gives kept → Holding store held
    → treat ride (held_for store held (odometer_of r)).gap r ≡ treat ride (gap_at store (odometer_of r)) r
treat_held store held ride r h hold = treat_by (ltb highest (odometer_of r)) store held ride r refl h hold

-- ---- a turn over a trace

-- What is held for the record at an index stays held,
pub held_next : (store : Store) (held next : Held) (trace : List ℕ) (i : ℕ) → judged store ≡ gives kept → Holding store held
    → next ≡ held_for store held (odometer_at trace i) → Holding store next
held_next store held next trace i h hold for = rw for (keeps store held (odometer_at trace i) h hold)

-- and treats it as the gap in force at its own odometer does.
pub held_treats : (store : Store) (held next : Held) (ride : Ride) (trace : List ℕ) (i : ℕ) → judged store ≡ gives kept → Holding store held
    → next ≡ held_for store held (odometer_at trace i) → i < length trace / 8
    → treat ride next.gap (record_at trace i) ≡ treat ride (gap_at store (odometer_of (record_at trace i))) (record_at trace i)
held_treats store held next ride trace i h hold for there =
    let own : next ≡ held_for store held (odometer_of (record_at trace i)) = for ∙ ap (held_for store held) (sym (odometer_there trace i there)) in
    rw own (treat_held store held ride (record_at trace i) h hold)

-- A turn: what is held for the record at an index, and the answer of treating it so.
pub record Turning (store : Store) (held next : Held) (ride : Ride) (trace : List ℕ) (i : ℕ) (t : Treated) : Type 0 where
  pub good : judged store ≡ gives kept
  pub holding : Holding store held
  pub next_is : next ≡ held_for store held (odometer_at trace i)
  pub says : says_treated t ≡ treat_at ride next.gap trace i

module _ (store : Store) (held next : Held) (ride : Ride) (trace : List ℕ) (i : ℕ) (t : Treated) (turn : Turning store held next ride trace i t) where
  abbrev now_held : Holding store next
  now_held = held_next store held next trace i turn.good turn.holding turn.next_is

  -- With a record: it stands in the trace, and its step is that with the gap in force at its own
  -- odometer.
  pub record Turned (g : Result Lines Wrong) : Type 0 where
    pub there : i < length trace / 8
    pub holding : Holding store next
    pub step : ◌≡◌ {A = Step} (record { lines = says_given g; closed = t.closed; ride = t.ride }) (treat ride (gap_at store (odometer_of (record_at trace i))) (record_at trace i))

  pub turned : (g : Result Lines Wrong) → t.reply ≡ Reply.Record g → Turned g
  turned g e =
      let one = took ride next.gap trace i t g now_held.gap turn.says e in
      record {
        there = one.there;
        holding = now_held;
        step = one.step ∙ held_treats store held next ride trace i turn.good turn.holding turn.next_is one.there;
      }

  -- Without one: the trace has no record there.
  pub turned_past : OneOf (0 ∷ 1 ∷ []) (tag_of the_type t.reply) → length trace / 8 ≤ i
  turned_past other = past ride next.gap trace i t now_held.gap turn.says other

  -- Where a record is known to stand there, its reply need not be looked at.
  pub turned_on : i < length trace / 8 → Holding store next × (t.ride ≡ (treat ride (gap_at store (odometer_of (record_at trace i))) (record_at trace i)).ride)
  turned_on there =
      let says = turn.says ∙ sym (at_record ride next.gap trace i now_held.gap there) in (
        now_held,
        ap (λ (x : Treatment). x.ride) says
            ∙ ap (λ (x : Step). x.ride) (held_treats store held next ride trace i turn.good turn.holding turn.next_is there),
      )

-- ---- the whole trace

pub run_refused : (ride : Ride) (store : Store) (trace : List ℕ) (n : ℕ) → judged store ≡ refuses n
    → ◌≡◌ {A = Run} (record { answer = refuses n; ride = ride }) (run ride store trace)
unfolding run
run_refused ride store trace n e = rw e

pub run_length : (ride : Ride) (store : Store) (trace : List ℕ) → judged store ≡ gives kept → eqb (length trace % 8) 0 ≡ false
    → ◌≡◌ {A = Run} (record { answer = refuses 16; ride = ride }) (run ride store trace)
unfolding run
run_length ride store trace e h = rw (e, h)

pub run_through : (ride : Ride) (store : Store) (trace : List ℕ) → judged store ≡ gives kept → eqb (length trace % 8) 0 ≡ true
    → ◌≡◌ {A = Run} (record { answer = gives through; ride = (ride_over (gap_at store) ride 1 (records trace)).ride }) (run ride store trace)
unfolding run
run_through ride store trace e h = rw (e, h)
