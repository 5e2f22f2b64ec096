-- Demand 2 holds: each part by the file of its own.
-- Assumes nothing.
pub mod Messages
pub mod Numbering
pub mod Steps
pub mod Marking
pub mod Runs
pub mod Riding
pub mod Cases
pub mod RoutePresent
pub mod RowCases
pub mod Codes
pub mod Prefix
pub mod Boards
pub mod CalledA
pub mod Contents
pub mod Entered
pub mod Saying
pub mod Reading
pub mod Taking
pub mod Output
pub mod InFull
use Rattle.demands.specs.Demand2.{Demand2}
use Rattle.demands.proofs.Demand2.Codes.{words}
use Rattle.demands.proofs.Demand2.Reading.{telegrams}
use Rattle.demands.proofs.Demand2.Saying.{groups}
use Rattle.demands.proofs.Demand2.RowCases.{present_judged, opposite_judged, outside_judged}
use Rattle.demands.proofs.Demand2.Riding.{riding}
use Rattle.demands.proofs.Demand2.Cases.{cases_hold}
use Rattle.demands.proofs.Demand2.Output.{written}
use Rattle.demands.proofs.Demand2.InFull.{one_ride_law}

pub demand2 : Demand2
demand2 = record {
  words = words;
  telegrams = telegrams;
  groups = groups;
  present = present_judged;
  opposite = opposite_judged;
  outside = outside_judged;
  riding = riding;
  proved = cases_hold;
  written = written;
  one_ride_law = one_ride_law;
}
