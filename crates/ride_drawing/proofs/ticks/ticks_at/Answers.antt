-- By whether the ticks lie on a strip and the odometer stayed.
-- Assumes nothing.
use mathlib.Core.Path.{sym, ap}
use mathlib.Core.Bool.{Bool}
use Rattle.words.specs.Answer.{pick}
use Rattle.ride_drawing.proofs.ticks.ticks_at.Goals as goal

pub returns-then-pen-before : goal.returns-then-pen-before
returns-then-pen-before c = ap (λ (b : Bool). pick b c.args.pen.ticks 0) (sym c.if-pen-before.true)

pub returns-else-pen-before : goal.returns-else-pen-before
returns-else-pen-before c = ap (λ (b : Bool). pick b c.args.pen.ticks 0) (sym c.if-pen-before.false)
