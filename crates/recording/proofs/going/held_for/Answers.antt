-- Where the held version is left the store is asked, else the held one stays.
-- Assumes nothing.
use mathlib.Core.Path.{sym, ap, ◌∙◌}
use mathlib.Core.Bool.{Bool}
use Rattle.words.specs.Answer.{pick}
use Rattle.recording.specs.Recording.{held_at}
use Rattle.recording.proofs.going.held_for.Goals as goal

pub returns-then-leaves : goal.returns-then-leaves
returns-then-leaves c =
    let a = c.args in
    c.in_force.ensures ∙ ap (λ (b : Bool). pick b (held_at a.store a.odometer) a.held) (sym (sym c.leaves.ensures ∙ c.if-leaves.true))

pub returns : goal.returns
returns c =
    let a = c.args in
    ap (λ (b : Bool). pick b (held_at a.store a.odometer) a.held) (sym (sym c.leaves.ensures ∙ c.if-leaves.false))
