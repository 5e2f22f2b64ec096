-- The first figure tells which places the others are.
-- Assumes nothing.
use Rattle.ear_bytes.proofs.Read.{none_read, alike_read, differ_read}
use Rattle.ear_bytes.proofs.reading.places.Goals as goal

pub returns-then-kind-eq0 : goal.returns-then-kind-eq0
returns-then-kind-eq0 c = none_read c.args.bytes.now _ c.figure_at-kind.ensures c.if-kind-eq0.true

pub returns-then-kind-eq1 : goal.returns-then-kind-eq1
returns-then-kind-eq1 c =
    alike_read c.args.bytes.now _ _ _ _ _ _ _ _ _ _ c.figure_at-kind.ensures c.if-kind-eq0.false c.if-kind-eq1.true c.figure_at-x.ensures c.figure_at-y.ensures
    c.figure_at-z.ensures c.telegram.ensures c.low8.ensures c.low8-then-kind-eq1.ensures c.low8-then-kind-eq1-2.ensures c.figure_at.ensures
    c.figure_at-then-kind-eq1.ensures

pub returns : goal.returns
returns c =
    differ_read c.args.bytes.now _ c.figure_at-kind.ensures c.if-kind-eq0.false c.if-kind-eq1.false
