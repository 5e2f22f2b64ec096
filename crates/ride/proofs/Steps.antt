-- The steps of the definitions, each from what its tests say.
-- Assumes nothing.
use Prim.Native.Nat.{ℕ, ◌+◌, ◌≤◌}
use native.Mathlib.Omega.{arith}
use mathlib.Core.Path.{◌≡◌, refl}
use mathlib.Core.Bool.{Bool, true, false, not, ◌&&◌}
use mathlib.Core.List.{List, [], ◌∷◌, ◌++◌, append-nil}
use lib.Dec.{ltb}
use lib.ListN.{length, set}
use Rattle.words.specs.Answer.{gives, refuses, pick}
use Rattle.group.specs.declared.Heard.{Heard}
use Rattle.group.specs.declared.Balise.{Balise}
use Rattle.group.specs.declared.Group.{Group}
use Rattle.ride.specs.declared.Known.{Known}
use Rattle.ride.specs.declared.Ride.{Ride}
use Rattle.ride.specs.declared.Passed.{Passed}
use Rattle.ride.specs.declared.Line.{Line}
use Rattle.ride.specs.declared.Lines.{Lines}
use Rattle.ride.specs.State.{no_group, is_open_meant}
use Rattle.ride.specs.Record.{Entry, check_record}
use Rattle.ride.specs.Joining.{allowed, is_behind, counted, join, take_up}
use Rattle.ride.specs.Linking.{is_overdue, missed_place}
use Rattle.ride.specs.Closing.{Closing, close, leave}
use Rattle.ride.specs.Step.{close_behind, is_missed, missed_lines, unlinked, after_missed, Step, refused, after_closing, go_on, treat, step}
use Rattle.ride.specs.Says.{says_lines}
use Rattle.words.proofs.Never.{cannot_be}

-- ---- step 4

-- the balises that a group keeps once one more has joined
abbrev pub kept : Group → Balise → List Balise
kept g b = pick (ltb g.count 5) (set g.kept g.count b) g.kept

pub joined : (g : Group) (b : Balise) (bs : List Balise) (n : ℕ) → bs ≡ kept g b → n ≡ counted g.count
    → ◌≡◌ {A = Group} (record { kept = bs; count = n; last = b.place }) (join g b)
unfolding join
joined g b bs n e f = rw (e, f)

pub take_position : (g : Group) (o : ℕ) (p : Passed) → p ≡ Passed.Position → g ≡ take_up g o p
unfolding take_up
take_position g o p e = rw e

pub take_open : (g : Group) (o : ℕ) (p : Passed) (h : Heard) → p ≡ Passed.Balise h → is_open_meant g ≡ true → join g (record { place = o; heard = h }) ≡ take_up g o p
unfolding take_up
take_open g o p h e f = rw (e, f)

pub take_none : (g g₀ : Group) (o : ℕ) (p : Passed) (h : Heard) → p ≡ Passed.Balise h → is_open_meant g ≡ false → g₀ ≡ no_group
    → join g₀ (record { place = o; heard = h }) ≡ take_up g o p
unfolding take_up
take_none g g₀ o p h e f n = rw (e, f, n)

-- ---- steps 2 and 3

one_of_two : (b : Bool) (g : Group) (known : Known) → length (pick b (close g known) (leave g known)).lines ≤ 1
unfolding close leave
one_of_two true g known = omega arith
one_of_two false g known = omega arith

-- step 2 gives at most one line
pub at_most_one : (gap o : ℕ) (g : Group) (known : Known) → length (close_behind gap o g known).lines ≤ 1
unfolding close_behind
at_most_one gap o g known = one_of_two (is_behind gap o g) g known

pub behind : (gap o : ℕ) (g : Group) (known : Known) (c : Closing) → is_behind gap o g ≡ true → c ≡ close g known → c ≡ close_behind gap o g known
unfolding close_behind
behind gap o g known c e h = rw e h

pub not_behind : (gap o : ℕ) (g : Group) (known : Known) (c : Closing) → is_behind gap o g ≡ false → c ≡ leave g known → c ≡ close_behind gap o g known
unfolding close_behind
not_behind gap o g known c e h = rw e h

-- the line of a missed signal comes after those of step 2
pub missed_after_none : (ls : Lines) (l : Line) → ls ≡ Lines.None → l ∷ [] ≡ says_lines ls ++ (l ∷ [])
missed_after_none ls l e = rw e

pub missed_after_one : (ls : Lines) (a l : Line) → ls ≡ Lines.One a → a ∷ l ∷ [] ≡ says_lines ls ++ (l ∷ [])
missed_after_one ls a l e = rw e

pub never_two : (ls : Lines) (a b : Line) (A : Type 0) → ls ≡ Lines.Two a b → length (says_lines ls) ≤ 1 → A
never_two ls a b A e h = absurd (let h' : 2 ≤ 1 = rw e at h in omega arith)

pub after_missed_law : (e : Entry) (c : Closing) (g : Group) (known : Known) (ls : List Line) → g ≡ take_up c.group e.odometer e.passed
    → is_missed e.odometer c.group c.known ≡ true → known ≡ unlinked c.known
    → ls ≡ c.lines ++ (Line.Missed (missed_place c.known.linking) ∷ [])
    → ◌≡◌ {A = Step}
    (record { lines = gives ls; closed = c.closed; ride = record { odometer = e.odometer; group = g; known = known } })
    (after_closing e c)
unfolding missed_lines after_missed
after_missed_law e c g known ls h m k l = rw (h, k, l, m)

pub after_none : (e : Entry) (c : Closing) (g : Group) → g ≡ take_up c.group e.odometer e.passed → is_missed e.odometer c.group c.known ≡ false
    → ◌≡◌ {A = Step}
    (record { lines = gives c.lines; closed = c.closed; ride = record { odometer = e.odometer; group = g; known = c.known } })
    (after_closing e c)
unfolding missed_lines after_missed
after_none e c g h m = rw (h, m, append-nil)

-- ---- a quiet record: no group is left behind, and no signal is missed

and_true : (b : Bool) → b ≡ (b && true)
and_true true = refl
and_true false = refl

-- an open group can be left behind, but lets nothing be missed
pub quiet_open : (gap o : ℕ) (g : Group) (known : Known) → is_open_meant g ≡ true
    → not (is_behind gap o g) ≡ (not (is_behind gap o g) && not (is_missed o g known))
quiet_open gap o g known e = rw e (and_true (not (ltb (g.last + gap) o)))

-- where none is open none is left behind, but a signal can be missed
pub quiet_none : (gap o : ℕ) (g : Group) (known : Known) → is_open_meant g ≡ false
    → not (is_overdue known.linking o) ≡ (not (is_behind gap o g) && not (is_missed o g known))
quiet_none gap o g known e = rw e

pub neither : (a b : Bool) → (not a && not b) ≡ true → (a ≡ false) × (b ≡ false)
neither true b e = cannot_be cc
neither false true e = cannot_be cc
neither false false e = (refl, refl)

-- Where no group is left behind and no signal is missed, steps 2 and 3 do nothing: the odometer is
-- set, a balise is taken up, and nothing else changes. A position record then sets the odometer
-- alone.
pub quiet : (ride : Ride) (gap : ℕ) (e : Entry) → is_behind gap e.odometer ride.group ≡ false → is_missed e.odometer ride.group ride.known ≡ false
    → ◌≡◌ {A = Step}
    (record {
      lines = gives [];
      closed = no_group;
      ride = record { odometer = e.odometer; group = take_up ride.group e.odometer e.passed; known = ride.known };
    })
    (go_on ride gap e)
unfolding go_on close_behind leave missed_lines after_missed
quiet ride gap e b m = rw (b, m)

-- ---- the whole step

pub step_gap : (ride : Ride) (gap : ℕ) (r : List ℕ) → allowed gap ≡ false → refused ride 19 ≡ step ride gap r
unfolding step
step_gap ride gap r e = rw e

pub step_allowed : (ride : Ride) (gap : ℕ) (r : List ℕ) → allowed gap ≡ true → step ride gap r ≡ treat ride gap r
unfolding step
step_allowed ride gap r e = rw e

pub treat_not : (ride : Ride) (gap : ℕ) (r : List ℕ) (n : ℕ) → refuses n ≡ check_record ride.odometer r → refused ride n ≡ treat ride gap r
unfolding treat
treat_not ride gap r n h = rw (← h)

pub treat_on : (ride : Ride) (gap : ℕ) (r : List ℕ) (e : Entry) → gives e ≡ check_record ride.odometer r → go_on ride gap e ≡ treat ride gap r
unfolding treat
treat_on ride gap r e h = rw (← h)
