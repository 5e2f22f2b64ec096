-- A fault is one more, and so is a refused record; any other line is none.
-- Assumes nothing.
use Prim.Native.Nat.{ℕ}
use mathlib.Core.Path.{sym, ap, ◌∙◌}
use Rattle.acceptance_text.specs.Taking.{troubled_by}
use Rattle.acceptance_text.proofs.taking.troubled_by.Goals as goal

pub returns-in-Fault : goal.returns-in-Fault
returns-in-Fault c =
    let a = c.args in
    ap (λ (n : ℕ). record { faults = n; refused = a.troubles.refused }) c.one_more.ensures
    ∙ ap (troubled_by a.troubles) (sym c.in-Fault.is)

pub returns-in-Record : goal.returns-in-Record
returns-in-Record c =
    let a = c.args in
    ap (λ (n : ℕ). record { faults = a.troubles.faults; refused = n }) c.one_more-in-Record.ensures
    ∙ ap (troubled_by a.troubles) (sym c.in-Record.is)
