-- `finish` puts the record that waits after the bytes that are kept, and treats it.
use Prim.Native.Nat.{◌+◌, ◌≤◌}
use native.Mathlib.Omega.{arith}
use mathlib.Core.Path.{ap, ◌∙◌}
use lib.ListN.{length}
use borrow.Author.Tests.{not-true, not-false}
use Rattle.ride.specs.Step.{Step}
use Rattle.ride.proofs.Steps.{step_allowed}
use Rattle.compaction.proofs.Last.{finish_none, finish_one}
use Rattle.compaction.proofs.ending.finish.Goals as goal

pub returns-then-not-waiting : goal.returns-then-not-waiting
returns-then-not-waiting c =
    let a = c.args in
    let f = finish_none (λ o. a.gap) a.waiting a.at a.trace.now (not-true a.waiting.waits c.if-not-waiting.true) in
    record { ride_value = f.ride_is; size_value = f.size_is; trace_after = f.buffer_is }

pub put_eight-requires : goal.put_eight-requires
put_eight-requires c =
    c.requires.1 (not-false c.args.waiting.waits c.if-not-waiting.false)

pub overflow_add-result : goal.overflow_add-result
overflow_add-result c =
    let h : c.args.at + 8 ≤ length c.args.trace.now = c.requires.1 (not-false c.args.waiting.waits c.if-not-waiting.false) in
    omega arith

pub returns : goal.returns
returns c =
    let a = c.args in
    let f = finish_one (λ o. a.gap) a.waiting a.at a.trace.now c.step-stepped.result.ride c.put_eight.new.trace
    (not-false a.waiting.waits c.if-not-waiting.false) c.put_eight.ensures.bytes_len
    (ap (λ (x : Step). x.ride) (c.step-stepped.ensures ∙ step_allowed a.waiting.ride a.gap a.waiting.bytes c.requires.0))
    c.put_eight.ensures.trace_after in
    record { ride_value = f.ride_is; size_value = f.size_is; trace_after = f.buffer_is }
