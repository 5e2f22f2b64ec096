-- `step_at` treats the record by its step: it stands in the trace, and the gap is allowed.
use mathlib.Core.Path.{ap, ◌∙◌}
use Prim.Native.Nat.{◌+◌}
use borrow.Enum.Refused.{opened}
use native.Mathlib.Omega.{arith}
use mathlib.Core.List.{List}
use Rattle.words.specs.Answer.{gives}
use Rattle.ride.specs.declared.Line.{Line}
use Rattle.viewer.specs.declared.Standing.{Standing}
use Rattle.ride.specs.Over.{lines_for}
use Rattle.ride.specs.Says.{says_given}
use Rattle.ride.proofs.At.{took, past}
use Rattle.viewer.specs.Viewing.{done, Forward, by_step}
use Rattle.viewer.proofs.moving.step_at.Goals as goal

pub returns-in_default : goal.returns-in_default
returns-in_default c =
    let a = c.args in
    absurd
    (let none = past a.stand.ride a.held.gap a.trace.now a.stand.number c.treat_at-treated.result c.requires.1 c.treat_at-treated.ensures (opened c.in_default.in_default-own.keys2) in
    let some = c.requires.0 in
    omega arith)

pub returns : goal.returns
returns c =
    let a = c.args in
    let one = took a.stand.ride a.held.gap a.trace.now a.stand.number c.treat_at-treated.result c.in-Record.given c.requires.1 c.treat_at-treated.ensures c.in-Record.is in
    ap {B = Forward} (λ (ls : List Line). record { answer = gives done; lines = ls; closed = c.treat_at-treated.result.closed; stand = c.pass-after.result }) c.lines_of-lines.ensures
    ∙ ap {B = Forward} (λ (x : Standing). record { answer = gives done; lines = lines_for (a.stand.number + 1) (says_given c.in-Record.given); closed = c.treat_at-treated.result.closed; stand = x }) c.pass-after.ensures
    ∙ ap (by_step a.stand) one.step
