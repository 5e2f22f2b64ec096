-- By what is told, where it has a length.
-- Assumes nothing.
use mathlib.Core.Path.{sym, ap, ◌∙◌}
use borrow.Author.Tests.{le-ltb}
use Rattle.group.specs.declared.Told.{Told}
use Rattle.ride_drawing.proofs.Cases.{unknown_level, known_level}
use Rattle.text.proofs.Putting.{all_as, none_as}
use Rattle.text.specs.Pieces.{puts}
use Rattle.ride_drawing.specs.Span.{level}
use Rattle.ride_drawing.proofs.spans.put_level.Goals as goal

pub returns-then-l-r : goal.returns-then-l-r
unfolding level puts
returns-then-l-r c = simp (le-ltb _ _ c.if-l-r.true)

pub returns-in-Unknown : goal.returns-in-Unknown
returns-in-Unknown c =
    let a = c.args in
    none_as _ _ (unknown_level a.words.now a.l a.r c.if-l-r.false ∙ ap (λ (t : Told). level a.words.now t a.l a.r) (sym c.in-Unknown.is))

pub returns-in-Kmh : goal.returns-in-Kmh
returns-in-Kmh c =
    let a = c.args in
    all_as _ _
    (known_level a.words.now c.in-Kmh.kmh a.l a.r c.if-l-r.false
    ∙ ap (λ (t : Told). level a.words.now t a.l a.r) (sym c.in-Kmh.is))
    c.put_speed.ensures
