-- The count is judged first, then the balises are read, then the rows decide.
-- Assumes nothing.
use mathlib.Core.Path.{◌≡◌, sym, ap, ◌∙◌}
use borrow.Author.Tests.{eq-eqb, ne_eqb, lt-ltb, le-ltb}
use lib.ListN.{take}
use Rattle.words.specs.Answer.{gives, refuses}
use Rattle.group.specs.Balise.{balises}
use Rattle.group_reason.specs.Reason.{bad}
use Rattle.group_reason.specs.Says.{says_bad_balise}
use Rattle.group_reason.specs.Inside.{says_all_read}
use Rattle.group_reason.specs.Explain.{read_from, explain}
use Rattle.group_reason.proofs.explain.Goals as goal

pub returns-then-count-eq1 : goal.returns-then-count-eq1
unfolding explain
returns-then-count-eq1 c = rw (eq-eqb c.args.group.count 1 c.if-count-eq1.true)

pub returns-then-count-gt5 : goal.returns-then-count-gt5
unfolding explain
returns-then-count-gt5 c =
    let n = c.args.group.count in
    rw (ne_eqb n 1 c.if-count-eq1.false, lt-ltb 5 n c.if-count-gt5.true)

pub returns-in-Ok : goal.returns-in-Ok
unfolding explain balises
returns-in-Ok c =
    let g = c.args.group in
    let n = g.count in
    let e : read_from 0 (take n g.kept) ≡ gives (take n c.in-Ok.parts) = sym c.read_all.ensures ∙ ap (says_all_read n) c.in-Ok.is in
    c.why_fit.ensures ∙ sym (rw (ne_eqb n 1 c.if-count-eq1.false, le-ltb 5 n c.if-count-gt5.false, e))

pub returns-in-Err : goal.returns-in-Err
unfolding explain balises
returns-in-Err c =
    let g = c.args.group in
    let n = g.count in
    let u = c.in-Err.unread in
    let e : read_from 0 (take n g.kept) ≡ refuses (bad u.balise u.place (says_bad_balise u.bad)) = sym c.read_all.ensures ∙ ap (says_all_read n) c.in-Err.is in
    rw (ne_eqb n 1 c.if-count-eq1.false, le-ltb 5 n c.if-count-gt5.false, e)
