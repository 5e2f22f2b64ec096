-- A step of an accepted record is steps 2 to 4 of document 01, as far as each hypothesis of
-- specs/Steps.antt takes it.
-- Assumes nothing.
use mathlib.Core.Path.{◌≡◌, sym, ap, ◌∙◌}
use mathlib.Core.Bool.{Bool, true, ◌&&◌}
use mathlib.Core.List.{[], ◌∷◌}
use Prim.Native.Nat.{ℕ, ◌+◌, ◌-◌, ◌≤◌}
use lib.Dec.{ltb}
use borrow.Author.Tests.{lt-ltb, le-ltb, not-false}
use Rattle.std.specs.Prelude.{Result}
use Rattle.words.specs.Answer.{Outcome, gives, refuses, pick}
use Rattle.group.specs.Judge.{judge}
use Rattle.group.specs.declared.Message.{Message}
use Rattle.group.specs.Says.{says_group_judged}
use Rattle.group.specs.declared.GroupRefused.{GroupRefused}
use Rattle.ride.specs.Record.{Entry}
use Rattle.ride.specs.State.{no_group, is_open_meant, nothing_known}
use Rattle.ride.specs.Joining.{allowed, take_up}
use Rattle.ride.specs.Closing.{first_place, close_as, close, leave}
use Rattle.ride.specs.Step.{Step, close_behind, missed_lines, after_missed, after_closing, go_on, refuse_or, refused, treat, step, ended, end}
use Rattle.ride.specs.Says.{says_stepped, says_ended}
use Rattle.ride.specs.declared.Line.{Line}
use Rattle.ride.specs.declared.Ride.{Ride}
use Rattle.ride.specs.declared.Ended.{Ended}
use Rattle.demands.specs.ByContract.{JudgeGroup, EndOf}
use Rattle.demands.specs.Steps.{OneStep, Accepts, LeavesBehind, NoneOpen}
use Rattle.demands.proofs.Common.Spelled.{bad_gap_law}

-- what the record says
abbrev pub entry : OneStep → Entry
entry o = record { odometer = o.odometer; passed = o.passed }

-- An accepted record goes on.
pub goes_on : (o : OneStep) → Accepts o → says_stepped o.answer ≡ go_on o.ride o.gap (entry o)
unfolding step treat
goes_on o a =
    a.called.1
    ∙ ap (λ (t : Bool). pick t (treat o.ride o.gap o.bytes) (refused o.ride 19)) (not-false (allowed o.gap) (sym (bad_gap_law o.gap) ∙ a.good_gap))
    ∙ ap (refuse_or o.ride o.gap) (sym a.accepted.1)

-- A group left behind closes.
pub closes : (o : OneStep) → LeavesBehind o → (j : Outcome Message) → judge o.ride.group ≡ j
    → says_stepped o.answer ≡ after_closing (entry o) (close_as o.ride.group o.ride.known j)
unfolding go_on close_behind close
closes o b j e =
    let g = o.ride.group in
    goes_on o b.accepts
    ∙ ap (λ (t : Bool). after_closing (entry o) (pick (t && ltb (g.last + o.gap) o.odometer) (close g o.ride.known) (leave g o.ride.known))) b.is_open
    ∙ ap (λ (t : Bool). after_closing (entry o) (pick t (close g o.ride.known) (leave g o.ride.known))) (lt-ltb (g.last + o.gap) o.odometer b.exceeds)
    ∙ ap (λ (j : Outcome Message). after_closing (entry o) (close_as g o.ride.known j)) e

-- What stays open, or is not, stays.
abbrev stayed : OneStep → Step
stayed o = after_closing (entry o) (leave o.ride.group o.ride.known)

pub stays_none : (o : OneStep) → NoneOpen o → says_stepped o.answer ≡ stayed o
unfolding go_on close_behind
stays_none o n =
    let g = o.ride.group in
    goes_on o n.accepts
    ∙ ap (λ (t : Bool). after_closing (entry o) (pick (t && ltb (g.last + o.gap) o.odometer) (close g o.ride.known) (leave g o.ride.known))) n.none

pub stays_open : (o : OneStep) → Accepts o → is_open_meant o.ride.group ≡ true → o.odometer ≤ o.ride.group.last + o.gap
    → says_stepped o.answer ≡ stayed o
unfolding go_on close_behind
stays_open o a is near =
    let g = o.ride.group in
    goes_on o a
    ∙ ap (λ (t : Bool). after_closing (entry o) (pick (t && ltb (g.last + o.gap) o.odometer) (close g o.ride.known) (leave g o.ride.known))) is
    ∙ ap (λ (t : Bool). after_closing (entry o) (pick t (close g o.ride.known) (leave g o.ride.known))) (le-ltb (g.last + o.gap) o.odometer near)

-- ---- a refused group

-- A refused group leaves no group but the one that the record opens, and nothing known.
pub group_refused : (o : OneStep) (j : Result Message GroupRefused) (n : ℕ) → LeavesBehind o → JudgeGroup o.ride.group j → says_group_judged j ≡ refuses n
    → says_stepped o.answer
    ≡ record {
      lines = gives (Line.Fault (first_place o.ride.group) n ∷ []);
      closed = o.ride.group;
      ride = record { odometer = o.odometer; group = take_up no_group o.odometer o.passed; known = nothing_known };
    }
unfolding no_group nothing_known missed_lines after_missed
group_refused o j n b c e = closes o b (refuses n) (sym c.1 ∙ e)

-- So does the end.
pub end_refused : (ride : Ride) (r : Ended) (j : Result Message GroupRefused) (n : ℕ) → EndOf ride r → is_open_meant ride.group ≡ true → JudgeGroup ride.group j
    → says_group_judged j ≡ refuses n
    → says_ended r
    ≡ record {
      lines = Line.Fault (first_place ride.group) n ∷ [];
      closed = ride.group;
      ride = record { odometer = ride.odometer; group = no_group; known = nothing_known };
    }
unfolding end close
end_refused ride r j n c is judged e =
    c.1
    ∙ ap (λ (t : Bool). ended ride.odometer (pick t (close ride.group ride.known) (leave ride.group ride.known))) is
    ∙ ap (λ (o : Outcome Message). ended ride.odometer (close_as ride.group ride.known o)) (sym judged.1 ∙ e)
