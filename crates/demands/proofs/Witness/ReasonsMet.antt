-- The hypotheses on balises that join are met: the first two records of document 01's ride.
-- Assumes nothing.
use mathlib.Core.Path.{refl}
use mathlib.Core.List.{List, [], ◌∷◌}
use Prim.Native.Nat.{ℕ}
use Rattle.group.specs.declared.Heard.{Heard}
use Rattle.ride.specs.Record.{odometer_of, passed_of, in_order_meant, check_record}
use Rattle.ride.specs.State.{no_group, nothing_known, fresh_ride}
use Rattle.ride.specs.Joining.{join, take_up}
use Rattle.ride.specs.Closing.{leave}
use Rattle.ride.specs.Step.{close_behind, missed_lines, after_missed, go_on, treat, step}
use Rattle.ride.specs.declared.Lines.{Lines}
use Rattle.ride.specs.declared.Passed.{Passed}
use Rattle.std.specs.Prelude.{Ok}
use Rattle.demands.specs.Table.{bad_gap}
use Rattle.demands.specs.Steps.{OneStep, NoneOpen}
use Rattle.demands.specs.Reasons.{Joined, opened, joined}
use Rattle.demands.proofs.Witness.RidesMet.{joins_step, joins_met}

-- "000003E8 00 17 8E 5A"
abbrev first : List ℕ
first = 0x00 ∷ 0x00 ∷ 0x03 ∷ 0xE8 ∷ 0x00 ∷ 0x17 ∷ 0x8E ∷ 0x5A ∷ []

-- its step, after which the second record's comes
abbrev opens_step : OneStep
opens_step =
    record {
      ride = fresh_ride;
      gap = 40;
      bytes = first;
      odometer = 1000;
      passed = Passed.Balise (Heard.Words 0x17 0x8E 0x5A);
      answer = record { ride = joins_step.ride; closed = no_group; report = Ok Lines.None };
    }

opens_met : NoneOpen opens_step
unfolding odometer_of passed_of in_order_meant check_record no_group nothing_known fresh_ride leave close_behind missed_lines after_missed go_on treat step join take_up bad_gap
opens_met =
    record {
      accepts = record { called = ((fresh_ride, (40, (first, tt))), refl); good_gap = refl; accepted = ((fresh_ride, (first, tt)), refl) };
      none = refl;
    }

two_joined : Joined 2 joins_step.answer.ride
two_joined = joined joins_step (Heard.Words 0x99 0x2B 0x4D) (opened opens_step (Heard.Words 0x17 0x8E 0x5A) opens_met refl) joins_met refl
