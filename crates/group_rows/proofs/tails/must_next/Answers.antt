-- By what must come: the balise is tested for it.
-- Assumes nothing.
use mathlib.Core.Path.{sym, ◌∙◌}
use mathlib.Core.List.{[], ◌∷◌}
use Rattle.group_rows.specs.declared.stands.May.{May}
use Rattle.group_rows.specs.Row.{all, ◌to◌, category, any, one_of, M, meets}
use Rattle.group_rows.specs.Stands.{may_be, with_rest}
use Rattle.group_rows.proofs.Laws.{left_if}
use Rattle.group_rows.proofs.Figures.{meets_any}
use Rattle.group_rows.proofs.tails.must_next.Goals as goal

pub returns-in-Nine : goal.returns-in-Nine
returns-in-Nine c =
    let s = c.args in
    rw c.in-Nine.is
    (c.to_if.ensures ∙ left_if c.is_category.result (meets (any 9) s.b.part) (with_rest s.picked (may_be May.Fourteen)) (c.is_category.ensures ∙ sym (meets_any 9 s.b.part)))

pub returns-in-LowNine : goal.returns-in-LowNine
returns-in-LowNine c =
    let s = c.args in
    rw c.in-LowNine.is
    (c.to_if-in-LowNine.ensures ∙ left_if c.is_low_nine.result (meets (category 9 (0 to 13) all) s.b.part) (with_rest s.picked (may_be May.Fourteen)) c.is_low_nine.ensures)

pub returns-in-Five : goal.returns-in-Five
returns-in-Five c =
    let s = c.args in
    rw c.in-Five.is
    (c.to_if-in-Five.ensures ∙ left_if c.is_category-in-Five.result (meets (any 5) s.b.part) (with_rest s.picked (may_be May.Nothing)) (c.is_category-in-Five.ensures ∙ sym (meets_any 5 s.b.part)))

pub returns-in-Marker : goal.returns-in-Marker
returns-in-Marker c =
    let s = c.args in
    rw c.in-Marker.is
    (c.to_if-in-Marker.ensures ∙ left_if c.is_marker.result (meets (M) s.b.part) (with_rest s.picked (may_be May.Nothing)) c.is_marker.ensures)

pub returns-in-ThreeFiveSeven : goal.returns-in-ThreeFiveSeven
returns-in-ThreeFiveSeven c =
    let s = c.args in
    rw c.in-ThreeFiveSeven.is
    (c.to_if-in-ThreeFiveSeven.ensures ∙ left_if c.is_three_five_seven.result (meets (one_of (3 ∷ 5 ∷ 7 ∷ [])) s.b.part) (with_rest s.picked (may_be May.Nothing)) c.is_three_five_seven.ensures)
