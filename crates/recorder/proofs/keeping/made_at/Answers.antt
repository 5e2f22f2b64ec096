-- `made_at` judges the odometer, and puts it high byte first.
use mathlib.Core.Path.{sym, ap}
use mathlib.Core.Bool.{Bool}
use borrow.Author.Tests.{lt-ltb, le-ltb}
use Rattle.words.specs.Answer.{gives, refuses, pick}
use Rattle.recorder.specs.Record.{Content, bytes_of, at_odometer}
use Rattle.recorder.proofs.keeping.made_at.Goals as goal

pub returns-then-odometer-gt4000000000 : goal.returns-then-odometer-gt4000000000
unfolding at_odometer
returns-then-odometer-gt4000000000 c =
    let a = c.args in
    let k : Content = record { kind = a.kept.kind; x = a.kept.x; y = a.kept.y; z = a.kept.z } in
    ap (λ (t : Bool). pick t (refuses 18) (gives (bytes_of a.odometer k))) (sym (lt-ltb 4000000000 a.odometer c.if-odometer-gt4000000000.true))

pub returns : goal.returns
unfolding at_odometer
returns c =
    let a = c.args in
    let k : Content = record { kind = a.kept.kind; x = a.kept.x; y = a.kept.y; z = a.kept.z } in
    ap (λ (t : Bool). pick t (refuses 18) (gives (bytes_of a.odometer k))) (sym (le-ltb 4000000000 a.odometer c.if-odometer-gt4000000000.false))
