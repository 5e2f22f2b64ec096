-- The balises read so far stand before what is left.
-- Assumes nothing.
use Prim.Native.Nat.{ℕ}
use mathlib.Core.Path.{◌≡◌, refl, sym, ap, ◌∙◌}
use native.Mathlib.Omega.{arith}
use lib.ListN.{take, length-set}
use Rattle.words.specs.Answer.{gives}
use Rattle.group_reason.specs.Explain.{read_from}
use Rattle.group_reason.specs.Says.{says_bad_balise}
use Rattle.group_reason.specs.Inside.{says_part_read}
use Rattle.group_reason.proofs.Hearing.{after_none, read_good, read_bad, read_end}
use Rattle.group_reason.proofs.reading.read_all.Goals as goal

pub loop-i-init : goal.loop-i-init
loop-i-init c = (refl, after_none (read_from 0 (take c.args.n c.args.kept)))

pub returns-in-Err : goal.returns-in-Err
returns-in-Err c =
    let e = sym c.part_heard.ensures ∙ ap says_part_read c.in-Err.is in
    read_bad c.args.kept c.args.n c.loop-i.i c.well_formed.0.1.0.1 c.requires c.loop-i-test.true (says_bad_balise c.in-Err.bad) e (take c.loop-i.i c.loop-i.parts)
    ∙ sym c.loop-i.invariant.1

pub loop-i-preserved : goal.loop-i-preserved
loop-i-preserved c =
    let e = sym c.part_heard.ensures ∙ ap says_part_read c.in-Ok.is in (
      simp length-set c.loop-i.invariant.0,
      c.loop-i.invariant.1
          ∙ read_good c.args.kept c.args.n c.loop-i.i c.well_formed.0.1.0.1 c.requires c.loop-i-test.true c.in-Ok.part e c.loop-i.parts c.loop-i.invariant.0,
    )

pub returns : goal.returns
returns c =
    let last : c.args.n ≡ c.loop-i.i = omega arith in
    ap (λ (m : ℕ). gives (take m c.loop-i.parts)) last
    ∙ read_end c.args.kept c.args.n c.loop-i.i c.well_formed.0.1.0.1 c.requires c.loop-i-test.false (take c.loop-i.i c.loop-i.parts)
    ∙ sym c.loop-i.invariant.1
