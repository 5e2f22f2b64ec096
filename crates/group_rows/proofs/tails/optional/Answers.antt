-- The balise is a c, a 12 or neither; it is not both.
-- Assumes nothing.
use mathlib.Core.Path.{sym, ◌∙◌}
use Rattle.group_rows.specs.declared.stands.May.{May}
use Rattle.group_rows.specs.Row.{any, meets}
use Rattle.group_rows.specs.Stands.{may_be, with_rest}
use Rattle.group_rows.proofs.Laws.{left_if}
use Rattle.group_rows.proofs.Figures.{meets_any, not_number}
use Rattle.group_rows.proofs.tails.optional.Goals as goal

pub returns-then-is_category : goal.returns-then-is_category
returns-then-is_category c =
    let is = sym c.is_category.ensures ∙ c.if-is_category.true in
    rw (is, not_number c.args.c c.args.b.part c.requires is)

pub returns : goal.returns
returns c =
    let s = c.args in
    c.to_if.ensures
    ∙ rw (sym c.is_category.ensures ∙ c.if-is_category.false)
    (left_if c.is_category-2.result (meets (any 12) s.b.part) (with_rest s.picked (may_be May.Nothing))
    (c.is_category-2.ensures ∙ sym (meets_any 12 s.b.part)))
