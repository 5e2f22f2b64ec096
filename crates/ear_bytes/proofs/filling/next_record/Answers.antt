-- `next_record` asks at the lead's end, or of the piece.
-- Assumes nothing.
use mathlib.Core.Path.{sym, ap, ◌∙◌}
use mathlib.Core.Bool.{Bool}
use Rattle.recording.proofs.Endings.{ended_is}
use Rattle.ear_bytes.specs.Inside.{coming}
use Rattle.ear_bytes.proofs.filling.next_record.Goals as goal

pub returns-then-ends : goal.returns-then-ends
returns-then-ends c =
    let a = c.args in
    ended_is a.frame a.bit c.end-ended.result _ c.end-ended.ensures
    ∙ ap (λ (b : Bool). coming b a.store a.lead.now a.tape a.frame a.bit) (sym c.if-ends.true)

pub returns : goal.returns
returns c =
    let a = c.args in
    c.go_on.ensures ∙ ap (λ (b : Bool). coming b a.store a.lead.now a.tape a.frame a.bit) (sym c.if-ends.false)
