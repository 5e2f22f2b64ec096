-- By whether the target lies above the main speed.
-- Assumes nothing.
use mathlib.Core.Path.{sym, ap}
use mathlib.Core.Bool.{Bool}
use Rattle.text.proofs.Putting.{all_as}
use Rattle.ride_drawing.specs.Span.{level, main_words}
use Rattle.ride_drawing.proofs.spans.put_main.Goals as goal

pub returns-then-rising : goal.returns-then-rising
returns-then-rising c =
    let a = c.args in
    all_as _ _ (ap (λ (b : Bool). level (main_words b) a.main a.l a.r) (sym c.if-rising.true)) c.put_level.ensures

pub returns : goal.returns
returns c =
    let a = c.args in
    all_as _ _ (ap (λ (b : Bool). level (main_words b) a.main a.l a.r) (sym c.if-rising.false)) c.put_level-2.ensures
