-- B and C are looked for, and B is asked before C.
-- Assumes nothing.
use mathlib.Core.Path.{sym, ap, ◌∙◌}
use lib.ListN.{take}
use Rattle.group_rows.specs.declared.Kind.{Kind}
use Rattle.group_reason.specs.Explain.{why_present}
use Rattle.group_reason.proofs.Looking.{of_signal, of_warning}
use Rattle.group_reason.proofs.figures.why_present.Goals as goal

pub returns-in-Signal : goal.returns-in-Signal
returns-in-Signal c =
    let a = c.args in
    c.of_both.ensures
    ∙ rw (c.is_barred.ensures, c.first_of-b.ensures, c.first_of.ensures) (of_signal a.az (take a.n a.p))
    ∙ sym (ap (λ (v : Kind). why_present v a.az (take a.n a.p)) c.in-Signal.is)

pub returns-in-Warning : goal.returns-in-Warning
returns-in-Warning c =
    let a = c.args in
    c.of_both-in-Warning.ensures
    ∙ rw (c.first_of-in-Warning.ensures, c.first_of-in-Warning-2.ensures) (of_warning (take a.n a.p))
    ∙ sym (ap (λ (v : Kind). why_present v a.az (take a.n a.p)) c.in-Warning.is)
