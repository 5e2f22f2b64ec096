-- By the direction of the row.
-- Assumes nothing.
use mathlib.Core.Path.{sym, ap, ◌∙◌}
use lib.ListN.{take}
use Prim.Native.Nat.{ℕ}
use Rattle.group_rows.specs.declared.Direction.{Direction}
use Rattle.group_reason.specs.Explain.{why_present, why_row}
use Rattle.group_reason.proofs.rows.why_row.Goals as goal

pub returns-in-Present : goal.returns-in-Present
returns-in-Present c =
    let a = c.args in
    c.why_present.ensures
    ∙ ap (λ (v : ℕ). why_present a.row.kind v (take a.n a.p)) c.z_of.ensures
    ∙ sym (ap (λ (v : Direction). why_row v a.row (take a.n a.p)) c.in-Present.is)
