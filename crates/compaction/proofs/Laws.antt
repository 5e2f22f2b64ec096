-- The two laws that compaction rests on: a quiet position record changes the odometer alone, and
-- the odometer matters to refusal 17 alone.
-- Assumes nothing.
use Prim.Native.Nat.{ℕ, ◌≤◌}
use native.Mathlib.Nat.{le_trans}
use mathlib.Core.Path.{◌≡◌, refl, sym, ap, ◌∙◌}
use mathlib.Core.Bool.{Bool, true, false, not}
use mathlib.Core.List.{List}
use lib.Dec.{ltb}
use borrow.Author.Tests.{le-ltb, ltb-false}
use Rattle.words.specs.Answer.{Outcome, gives, refuses, pick}
use Rattle.group.specs.declared.Group.{Group}
use Rattle.ride.specs.declared.Passed.{Passed}
use Rattle.ride.specs.declared.Ride.{Ride}
use Rattle.ride.specs.Record.{odometer_of, kind_of, passed_of, in_order_meant, Entry, check_record}
use Rattle.ride.specs.Joining.{is_behind, take_up}
use Rattle.ride.specs.Closing.{close, leave}
use Rattle.ride.specs.Step.{close_behind, is_missed, missed_lines, Step, go_on, refuse_or, treat}
use Rattle.ride.proofs.Steps.{quiet}
use Rattle.compaction.specs.Dropped.{is_quiet, is_accepted}
use Rattle.words.proofs.Never.{cannot_be}

-- The state with another last odometer.
abbrev pub at_odometer : ℕ → Ride → Ride
at_odometer o ride = record { odometer = o; group = ride.group; known = ride.known }

-- ---- the odometer matters to refusal 17 alone

of_tests : (a b c d : Bool) (x e : Entry) → (c ≡ false → d ≡ false)
    → ◌≡◌ {A = Outcome Entry} (pick a (refuses 16) (pick b (refuses 18) (pick c (refuses 17) (gives x)))) (gives e)
    → ◌≡◌ {A = Outcome Entry} (pick a (refuses 16) (pick b (refuses 18) (pick d (refuses 17) (gives x)))) (gives e)
of_tests true b c d x e f h = h
of_tests false true c d x e f h = h
of_tests false false true d x e f h = cannot_be cc
of_tests false false false d x e f h = ap (λ (t : Bool). pick t (refuses 17) (gives x)) (f refl) ∙ h

-- a record that is accepted after some odometer is accepted after any lower one, and says the same
pub accepted_lower : (low last : ℕ) (r : List ℕ) (e : Entry) → low ≤ last → check_record last r ≡ gives e → check_record low r ≡ gives e
unfolding check_record
accepted_lower low last r e h a =
    of_tests (not (in_order_meant r)) (ltb 4000000000 (odometer_of r)) (ltb (odometer_of r) last) (ltb (odometer_of r) low) _ e
    (λ t.
    let not_below : last ≤ odometer_of r = ltb-false (odometer_of r) last t in
    let so : low ≤ odometer_of r = le_trans h not_below in
    le-ltb (odometer_of r) low so)
    a

-- an accepted record's step goes by its entry, the group and what is known
of_check : (low : ℕ) (ride : Ride) (gap : ℕ) (r : List ℕ) (o : Outcome Entry) → low ≤ ride.odometer → check_record ride.odometer r ≡ o → is_accepted o ≡ true
    → treat (at_odometer low ride) gap r ≡ treat ride gap r
unfolding treat go_on
of_check low ride gap r (refuses n) h e a = cannot_be cc
of_check low ride gap r (gives x) h e a =
    ap (refuse_or (at_odometer low ride) gap) (accepted_lower low ride.odometer r x h e) ∙ sym (ap (refuse_or ride gap) e)

-- so its step is the same from any lower odometer
pub same_step : (low : ℕ) (ride : Ride) (gap : ℕ) (r : List ℕ) → low ≤ ride.odometer → is_accepted (check_record ride.odometer r) ≡ true
    → treat (at_odometer low ride) gap r ≡ treat ride gap r
same_step low ride gap r h a = of_check low ride gap r (check_record ride.odometer r) h refl a

-- ---- a quiet position record changes the odometer alone

of_quiet : (b m : Bool) (ride : Ride) (gap : ℕ) (e : Entry) → is_behind gap e.odometer ride.group ≡ b → is_missed e.odometer ride.group ride.known ≡ m
    → is_quiet (go_on ride gap e).lines ≡ true → (is_behind gap e.odometer ride.group ≡ false) × (is_missed e.odometer ride.group ride.known ≡ false)
unfolding go_on close_behind close leave missed_lines
of_quiet false false ride gap e behind missed q = (behind, missed)
of_quiet true m ride gap e behind missed q = absurd (let q' : false ≡ true = rw behind at q in cannot_be cc)
of_quiet false true ride gap e behind missed q = absurd (let q' : false ≡ true = rw (behind, missed) at q in cannot_be cc)

position : (r : List ℕ) → kind_of r ≡ 3 → passed_of r ≡ Passed.Position
unfolding passed_of
position r e = rw e

said : (a b c : Bool) (x e : Entry) → ◌≡◌ {A = Outcome Entry} (pick a (refuses 16) (pick b (refuses 18) (pick c (refuses 17) (gives x)))) (gives e) → x ≡ e
said true b c x e h = cannot_be cc
said false true c x e h = cannot_be cc
said false false true x e h = cannot_be cc
said false false false x e h = cc

entry_is : (last : ℕ) (r : List ℕ) (e : Entry) → check_record last r ≡ gives e → record { odometer = odometer_of r; passed = passed_of r } ≡ e
unfolding check_record
entry_is last r e h = said (not (in_order_meant r)) (ltb 4000000000 (odometer_of r)) (ltb (odometer_of r) last) _ e h

stays_so : (g : Group) (o : ℕ) → take_up g o Passed.Position ≡ g
unfolding take_up
stays_so g o = refl

of_answer : (ride : Ride) (gap : ℕ) (r : List ℕ) (o : Outcome Entry) → check_record ride.odometer r ≡ o → kind_of r ≡ 3 → is_quiet (refuse_or ride gap o).lines ≡ true
    → (refuse_or ride gap o).ride ≡ at_odometer (odometer_of r) ride
of_answer ride gap r (refuses n) e k q = cannot_be cc
of_answer ride gap r (gives x) e k q =
    let n = of_quiet _ _ ride gap x refl refl q in
    let is : record { odometer = odometer_of r; passed = Passed.Position } ≡ x =
    ap (λ (p : Passed). record { odometer = odometer_of r; passed = p }) (sym (position r k)) ∙ entry_is ride.odometer r x e in
    ap (λ (s : Step). s.ride) (sym (quiet ride gap x n.0 n.1))
    ∙ ap (λ (y : Entry). record { odometer = y.odometer; group = take_up ride.group y.odometer y.passed; known = ride.known }) (sym is)
    ∙ ap (λ (g : Group). record { odometer = odometer_of r; group = g; known = ride.known }) (stays_so ride.group (odometer_of r))

pub odometer_alone : (ride : Ride) (gap : ℕ) (r : List ℕ) → kind_of r ≡ 3 → is_quiet (treat ride gap r).lines ≡ true
    → (treat ride gap r).ride ≡ at_odometer (odometer_of r) ride
unfolding treat
odometer_alone ride gap r k q = of_answer ride gap r (check_record ride.odometer r) refl k q

-- a quiet record is accepted
quiet_answer : (ride : Ride) (gap : ℕ) (o : Outcome Entry) → is_quiet (refuse_or ride gap o).lines ≡ true → is_accepted o ≡ true
quiet_answer ride gap (refuses n) q = cannot_be cc
quiet_answer ride gap (gives x) q = refl

pub quiet_accepted : (ride : Ride) (gap : ℕ) (r : List ℕ) → is_quiet (treat ride gap r).lines ≡ true → is_accepted (check_record ride.odometer r) ≡ true
unfolding treat
quiet_accepted ride gap r q = quiet_answer ride gap (check_record ride.odometer r) q
