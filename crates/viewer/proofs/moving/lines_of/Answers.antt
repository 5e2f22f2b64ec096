-- `lines_of` has a line of its own for a refused record.
use mathlib.Core.Path.{ap, sym, ◌∙◌}
use mathlib.Core.List.{[], ◌∷◌}
use Prim.Native.Nat.{ℕ}
use Rattle.ride.specs.declared.Line.{Line}
use Rattle.std.specs.Prelude.{Result}
use Rattle.ride.specs.declared.Lines.{Lines}
use Rattle.ride.specs.declared.Wrong.{Wrong}
use Rattle.ride.specs.Over.{lines_for}
use Rattle.ride.specs.Says.{says_given}
use Rattle.viewer.proofs.moving.lines_of.Goals as goal

pub returns-in-Err : goal.returns-in-Err
returns-in-Err c =
    let a = c.args in
    ap (λ (n : ℕ). Line.Record a.number n ∷ []) c.refusal.ensures ∙ ap (λ (x : Result Lines Wrong). lines_for a.number (says_given x)) (sym c.in-Err.is)
