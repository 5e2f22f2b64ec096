-- By the direction.
-- Assumes nothing.
use mathlib.Core.Path.{sym, ap, ◌∙◌}
use Prim.Native.Nat.{ℕ, ◌+◌}
use native.Mathlib.Omega.{arith}
use Rattle.group_rows.specs.declared.Direction.{Direction}
use Rattle.ride_drawing.proofs.Cases.{shape_most}
use Rattle.ride_drawing.specs.Sign.{kind_shape, seen_shape}
use Rattle.ride_drawing.proofs.signs.seen_shape.Goals as goal

pub overflow_add-result : goal.overflow_add-result
overflow_add-result c =
    let a = c.args in
    omega (arith, c.kind_shape-in-Opposite.ensures, shape_most a.kind a.mark)

pub returns-in-Present : goal.returns-in-Present
returns-in-Present c =
    let a = c.args in
    c.kind_shape.ensures ∙ ap (λ (d : Direction). seen_shape d (kind_shape a.kind a.mark)) (sym c.in-Present.is)

pub returns-in-Opposite : goal.returns-in-Opposite
returns-in-Opposite c =
    let a = c.args in
    ap (λ (v : ℕ). v + 10) c.kind_shape-in-Opposite.ensures ∙ ap (λ (d : Direction). seen_shape d (kind_shape a.kind a.mark)) (sym c.in-Opposite.is)
