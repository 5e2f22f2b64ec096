-- `read` takes the place, and what stands after it.
use mathlib.Core.Path.{◌≡◌, sym, ap, ◌∙◌}
use native.Mathlib.Omega.{arith}
use borrow.Author.Tests.{eq-eqb, ne_eqb}
use Rattle.lines.specs.declared.Word.{Word}
use Rattle.lines.proofs.Places.{word_there}
use Rattle.trace_text.specs.Said.{thing, at_place, what_of, said}
use Rattle.trace_text.proofs.read.Goals as goal

pub returns-then-line-eq0 : goal.returns-then-line-eq0
unfolding said
returns-then-line-eq0 c = simp (eq-eqb _ _ c.if-line-eq0.true)

pub returns-in-Ok : goal.returns-in-Ok
unfolding said
returns-in-Ok c =
    let place = sym (ap (λ (w : Word). w.number) (word_there c.args.line 0 (omega arith))) ∙ c.in-Ok.is in
    c.thing.ensures ∙ ap (thing _) c.what_of.ensures ∙ simp (ne_eqb _ _ c.if-line-eq0.false, place)

pub returns-in-Err : goal.returns-in-Err
unfolding said
returns-in-Err c =
    let place = sym (ap (λ (w : Word). w.number) (word_there c.args.line 0 (omega arith))) ∙ c.in-Err.is in
    simp (ne_eqb _ _ c.if-line-eq0.false, place)
