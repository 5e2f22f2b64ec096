-- `in_order` is the test of the definition, with `&` grouped from the left; the three bytes are
-- looked at for the kinds 1 to 3 alone.
use Rattle.ride.specs.Record.{in_order_meant}
use borrow.Author.Tests.{ne_eqb}
use Rattle.ride.proofs.records.in_order.Goals as goal

pub returns-then-kind-eq0 : goal.returns-then-kind-eq0
unfolding in_order_meant
returns-then-kind-eq0 c = rw c.if-kind-eq0.true

pub returns : goal.returns
unfolding in_order_meant
returns c = rw (ne_eqb _ _ c.if-kind-eq0.false)
