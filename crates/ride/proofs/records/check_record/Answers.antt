-- `check_record` asks what the definition asks, in its order.
use borrow.Author.Tests.{le-ltb, lt-ltb, not-true, not-false}
use Rattle.ride.specs.Record.{check_record}
use Rattle.ride.proofs.records.check_record.Goals as goal

pub returns-then-not-in_order : goal.returns-then-not-in_order
unfolding check_record
returns-then-not-in_order c = simp (← c.in_order.ensures, not-true c.in_order.result c.if-not-in_order.true-raw)

pub returns-then-odometer-gt4000000000 : goal.returns-then-odometer-gt4000000000
unfolding check_record
returns-then-odometer-gt4000000000 c = simp (← c.in_order.ensures, not-false c.in_order.result c.if-not-in_order.false-raw, ← c.odometer_of-odometer.ensures, lt-ltb _ _ c.if-odometer-gt4000000000.true)

pub returns-then-odometer-ride : goal.returns-then-odometer-ride
unfolding check_record
returns-then-odometer-ride c = simp (← c.in_order.ensures, not-false c.in_order.result c.if-not-in_order.false-raw, ← c.odometer_of-odometer.ensures, le-ltb _ _ c.if-odometer-gt4000000000.false, lt-ltb _ _ c.if-odometer-ride.true)

pub returns : goal.returns
unfolding check_record
returns c =
    simp (← c.in_order.ensures, not-false c.in_order.result c.if-not-in_order.false-raw, ← c.odometer_of-odometer.ensures, le-ltb _ _ c.if-odometer-gt4000000000.false, le-ltb _ _ c.if-odometer-ride.false, ← c.what_passed-passed.ensures)
