-- The figures one after the other: what is left to put comes to the whole.
-- Assumes nothing.
use mathlib.Core.Path.{refl, ◌∙◌}
use Rattle.ride_drawing.proofs.Figures.{from_tick, one_put, all_put}
use Rattle.ride_drawing.proofs.strips.put_figures.Goals as goal

pub loop-i-init : goal.loop-i-init
loop-i-init c = (refl, refl)

pub put_figure-next-requires : goal.put_figure-next-requires
put_figure-next-requires c = (c.requires, c.loop-i-test.true)

pub loop-i-preserved : goal.loop-i-preserved
loop-i-preserved c =
    let km = c.args.km in (
      c.put_figure-next.auto.buf ∙ c.loop-i.invariant.0,
      one_put km c.loop-i.i c.loop-i.buf c.loop-i.next c.loop-i-test.true c.put_figure-next.ensures ∙ c.loop-i.invariant.1,
    )

pub shape_of-buf : goal.shape_of-buf
shape_of-buf c = c.loop-i.invariant.0

pub returns : goal.returns
unfolding from_tick
returns c =
    all_put c.args.km c.loop-i.i c.loop-i.buf c.loop-i.next c.loop-i-test.false ∙ c.loop-i.invariant.1
