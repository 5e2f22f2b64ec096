-- The first entry that waits is met, or the group is extra.
-- Assumes nothing.
use mathlib.Core.Path.{ap, ◌∙◌}
use Rattle.acceptance.specs.declared.Acceptance.{Acceptance}
use Rattle.acceptance.specs.declared.Role.{Role}
use Rattle.acceptance.proofs.Cases.{wanted_is, extra_is}
use Rattle.acceptance.proofs.taking.group.Goals as goal

pub returns-then-i-n : goal.returns-then-i-n
returns-then-i-n c =
    let a = c.args in
    ap (λ (s : Acceptance). record { state = s; answer = Role.Wanted c.waiting-i.result }) c.after_wanted.ensures
    ∙ wanted_is a.run c.entries_in-n.result c.entries_in-n.ensures.value c.entries_in-n.ensures.entries_value a.place a.kind c.waiting-i.result c.waiting-i.ensures c.if-i-n.true

pub returns : goal.returns
returns c =
    let a = c.args in
    ap (λ (s : Acceptance). record { state = s; answer = Role.Extra }) c.after_extra.ensures
    ∙ extra_is a.run c.entries_in-n.result c.entries_in-n.ensures.value c.entries_in-n.ensures.entries_value a.place a.kind c.waiting-i.result c.waiting-i.ensures c.if-i-n.false
