-- By what may come.
-- Assumes nothing.
use mathlib.Core.Path.{sym, ◌∙◌}
use Rattle.group_rows.specs.declared.stands.May.{May}
use Rattle.group_rows.specs.Row.{any, meets}
use Rattle.group_rows.specs.Stands.{may_be, with_rest}
use Rattle.group_rows.proofs.Laws.{left_if}
use Rattle.group_rows.proofs.Figures.{meets_any}
use Rattle.group_rows.proofs.tails.may_next.Goals as goal

pub returns-in-Fourteen : goal.returns-in-Fourteen
returns-in-Fourteen c = rw c.in-Fourteen.is c.optional.ensures

pub returns-in-Eight : goal.returns-in-Eight
returns-in-Eight c = rw c.in-Eight.is c.optional-in-Eight.ensures

pub returns-in-Twelve : goal.returns-in-Twelve
returns-in-Twelve c =
    let s = c.args in
    rw c.in-Twelve.is
    (c.to_if.ensures ∙ left_if c.is_category.result (meets (any 12) s.b.part) (with_rest s.picked (may_be May.Nothing)) (c.is_category.ensures ∙ sym (meets_any 12 s.b.part)))
