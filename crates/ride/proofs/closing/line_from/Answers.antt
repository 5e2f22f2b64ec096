-- `line_from` goes by the number of the refusal, as the definition does.
use borrow.Author.Tests.{eq-eqb, ne_eqb}
use Rattle.ride.specs.Inside.{says_group_verdict}
use Rattle.ride.proofs.closing.line_from.Goals as goal

pub returns-then-verdict-eq0 : goal.returns-then-verdict-eq0
unfolding says_group_verdict
returns-then-verdict-eq0 c = simp (eq-eqb _ _ c.if-verdict-eq0.true, c.seen_anew.ensures)

pub returns : goal.returns
unfolding says_group_verdict
returns c = simp (ne_eqb _ _ c.if-verdict-eq0.false)
