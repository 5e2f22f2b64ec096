-- By whether the entry lies on the way.
-- Assumes nothing.
use mathlib.Core.Path.{sym, ◌∙◌}
use borrow.Author.Tests.{not-true, not-false}
use Rattle.ride_drawing.proofs.Entries.{by_none, by_drawn}
use Rattle.text.proofs.Putting.{none, after, all_as, none_as}
use Rattle.ride_drawing.proofs.ways.come_by.Goals as goal

pub returns-then-not-is_on_the_way : goal.returns-then-not-is_on_the_way
returns-then-not-is_on_the_way c =
    let left = by_none c.args.began c.args.i c.args.entry c.args.place c.args.until c.args.known c.args.pen (sym c.is_on_the_way.ensures ∙ not-true _ c.if-not-is_on_the_way.true-raw) in
    record { buf_after = none_as _ _ left.0; pen_value = left.1 }

pub returns : goal.returns
returns c =
    let drawn =
    by_drawn c.args.began c.args.i c.args.entry c.args.place c.args.until c.args.known c.args.pen c.arrive-there.result (sym c.is_on_the_way.ensures ∙ not-false _ c.if-not-is_on_the_way.false-raw) c.arrive-there.ensures in
    record { buf_after = all_as _ _ drawn.0 (after _ _ _ _ c.put_way-a.ensures (after _ _ _ _ c.put_entry-next.ensures (none _ _))); pen_value = drawn.1 }
