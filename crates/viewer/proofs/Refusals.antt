-- When back and forward are refused, and that a refusal leaves the viewer.
-- Assumes nothing.
use mathlib.Core.Path.{sym, ap, ◌∙◌}
use native.Mathlib.Omega.{arith}
use borrow.Author.Tests.{eq-eqb, ne_eqb}
use Rattle.viewer.specs.declared.Viewer.{Viewer}
use Rattle.viewer.specs.Viewing.{Forward, Back}
use Rattle.viewer.specs.Says.{Over, over}
use Rattle.viewer.specs.Laws.{Refusing}
use Rattle.viewer.proofs.Calls.{forward_end, forward_step, back_none, back_done}

-- the viewer of an answer
abbrev back_to : Over Back → Viewer
back_to o = record { trace = o.trace; stand = o.answer.stand }

abbrev forward_to : Over Forward → Viewer
forward_to o = record { trace = o.trace; stand = o.answer.stand }

pub refusing : Refusing
refusing = record {
  back_refused = λ v r b none.
      let e = b ∙ ap (over v.trace) (sym (back_none v.stand (eq-eqb v.stand.kept 0 none))) in
      (ap (λ (o : Over Back). o.answer.answer) e, ap back_to e);
  back_done = λ v r b some.
      let e = b ∙ ap (over v.trace) (sym (back_done v.stand (ne_eqb v.stand.kept 0 (λ z. omega arith)))) in
      ap (λ (o : Over Back). o.answer.answer) e;
  forward_refused = λ v r f past.
      let e = f ∙ ap (over v.trace) (sym (forward_end v.trace.now v.stand past)) in
      (ap (λ (o : Over Forward). o.answer.answer) e, ap forward_to e);
  forward_done = λ v r f there good.
      let e = f ∙ ap (over v.trace) (sym (forward_step v.trace.now v.stand there good)) in
      ap (λ (o : Over Forward). o.answer.answer) e;
}
