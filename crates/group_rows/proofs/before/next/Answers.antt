-- By the case of the stand.
-- Assumes nothing.
use mathlib.Core.Path.{sym, ◌∙◌}
use Rattle.group_rows.proofs.before.next.Goals as goal

pub returns-in-Nothing : goal.returns-in-Nothing
returns-in-Nothing c = rw c.in-Nothing.is c.from_nothing.ensures

pub returns-in-Number : goal.returns-in-Number
returns-in-Number c = rw c.in-Number.is c.after_number.ensures

pub returns-in-Eight : goal.returns-in-Eight
returns-in-Eight c = rw c.in-Eight.is c.after_eight.ensures

pub returns-in-NumberEight : goal.returns-in-NumberEight
returns-in-NumberEight c = rw c.in-NumberEight.is c.after_both.ensures

pub returns-then-is_category : goal.returns-then-is_category
returns-then-is_category c = c.to.ensures ∙ rw (c.in-BackFourteen.is, sym c.is_category.ensures ∙ c.if-is_category.true)

pub returns-else-is_category : goal.returns-else-is_category
returns-else-is_category c = rw (c.in-BackFourteen.is, sym c.is_category.ensures ∙ c.if-is_category.false)

pub returns-in-BackNine : goal.returns-in-BackNine
returns-in-BackNine c = rw c.in-BackNine.is c.after_nine.ensures

pub returns-in-BackMarker : goal.returns-in-BackMarker
returns-in-BackMarker c = rw c.in-BackMarker.is c.after_marker.ensures

pub returns-then-is_category-2 : goal.returns-then-is_category-2
returns-then-is_category-2 c = c.opposite.ensures ∙ rw (c.in-BackNumberMarker.is, sym c.is_category-in-BackNumberMarker.ensures ∙ c.if-is_category-2.true)

pub returns-else-is_category-2 : goal.returns-else-is_category-2
returns-else-is_category-2 c = rw (c.in-BackNumberMarker.is, sym c.is_category-in-BackNumberMarker.ensures ∙ c.if-is_category-2.false)
