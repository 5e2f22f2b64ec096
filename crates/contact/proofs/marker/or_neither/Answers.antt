-- It answers as the marker's test finds.
-- Assumes nothing.
use mathlib.Core.Path.{ap, sym, ◌∙◌}
use mathlib.Core.Bool.{Bool}
use Rattle.words.specs.Answer.{gives, refuses, pick}
use Rattle.contact.specs.Judge.{marker}
use Rattle.contact.proofs.marker.or_neither.Goals as goal

pub returns-then-is_marker : goal.returns-then-is_marker
returns-then-is_marker c = ap (λ (x : Bool). pick x (gives marker) (refuses 8)) (sym c.if-is_marker.true ∙ c.is_marker.ensures)

pub returns-else-is_marker : goal.returns-else-is_marker
returns-else-is_marker c = ap (λ (x : Bool). pick x (gives marker) (refuses 8)) (sym c.if-is_marker.false ∙ c.is_marker.ensures)
