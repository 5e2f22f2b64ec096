-- One line after the other.
-- Assumes nothing.
use mathlib.Core.Path.{sym, ap, ◌∙◌}
use Rattle.ride.specs.Says.{says_lines}
use Rattle.ride.specs.declared.Lines.{Lines}
use Rattle.ride_drawing.specs.Drawing.{after_line, after_lines}
use Rattle.ride_drawing.specs.declared.Pen.{Pen}
use Rattle.ride_drawing.proofs.lines.after_lines.Goals as goal

pub returns-in-One : goal.returns-in-One
returns-in-One c =
    let a = c.args in
    c.after_line.ensures ∙ ap (λ (ls : Lines). after_lines a.pen (says_lines ls) a.odometer) (sym c.in-One.is)

pub returns-in-Two : goal.returns-in-Two
returns-in-Two c =
    let a = c.args in
    c.after_line-in-Two-2.ensures
    ∙ ap (λ (p : Pen). after_line p c.in-Two.b a.odometer) c.after_line-in-Two.ensures
    ∙ ap (λ (ls : Lines). after_lines a.pen (says_lines ls) a.odometer) (sym c.in-Two.is)
