-- `all_follow` goes from version to version: those from here on follow exactly if all do.
use mathlib.Core.Path.{refl, sym, ap, ◌∙◌}
use Rattle.settings.specs.Says.{says_bad, says_verdict}
use Rattle.settings.proofs.Handed.{handed}
use Rattle.settings.proofs.Walking.{follow_next, follow_bad, follow_end}
use Rattle.settings.proofs.judging.all_follow.Goals as goal

pub loop-i-init : goal.loop-i-init
loop-i-init c = refl

pub returns-in_err-follows : goal.returns-in_err-follows
returns-in_err-follows c =
    ap says_verdict (handed c.from_residual.result c.from_residual.ensures.1)
    ∙ follow_bad c.args.versions c.args.count c.well_formed.0.1.0.1 c.requires.1 c.loop-i.last c.loop-i.i (says_bad c.in_err-follows.field-0.0)
    c.loop-i-test.true (sym c.in_err-follows.ensures)
    ∙ c.loop-i.invariant

pub loop-i-preserved : goal.loop-i-preserved
loop-i-preserved c =
    sym (follow_next c.args.versions c.args.count c.well_formed.0.1.0.1 c.requires.1 c.loop-i.last c.loop-i.i
    c.loop-i-test.true (sym c.in_ok-follows.ensures))
    ∙ c.loop-i.invariant

pub returns : goal.returns
returns c =
    follow_end c.args.versions c.args.count c.well_formed.0.1.0.1 c.requires.1 c.loop-i.last c.loop-i.i c.loop-i-test.false ∙ c.loop-i.invariant
