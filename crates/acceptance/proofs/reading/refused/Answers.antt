-- A refused plan is the empty one.
-- Assumes nothing.
use Rattle.std.proofs.Common.{Err}
use mathlib.Core.Path.{ap, ◌∙◌}
use mathlib.Core.List.{List}
use Rattle.acceptance.specs.Plan.{plan_with}
use Rattle.acceptance.specs.declared.Entry.{Entry}
use Rattle.acceptance.specs.declared.Acceptance.{Acceptance}
use Rattle.acceptance.proofs.reading.refused.Goals as goal

pub returns : goal.returns
unfolding plan_with
returns c =
    let a = c.args in
    ap (λ (p : Acceptance). record { plan = p; judged = Err a.why }) (c.begun.ensures ∙ ap (λ (es : List Entry). record { entries = es; count = 0; tolerance = 0; extra = 0 }) c.no_entries.ensures)
