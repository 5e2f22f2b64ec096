-- `begins` judges the settings, then the length.
use mathlib.Core.Path.{ap, sym, ◌∙◌}
use borrow.Author.Tests.{eq-eqb, ne_eqb}
use Rattle.settings.proofs.Handed.{handed}
use Rattle.settings.proofs.Holding.{held_given, store_refused}
use Rattle.viewer.specs.Viewing.{Start}
use Rattle.viewer.specs.Says.{says_opening_went}
use Rattle.viewer.proofs.Calls.{open_refused, open_length, open_done}
use Rattle.viewer.proofs.opening.begins.Goals as goal

pub returns-in_err-at : goal.returns-in_err-at
returns-in_err-at c =
    let a = c.args in
    ap says_opening_went (handed c.from_residual.result c.from_residual.ensures.1)
    ∙ ap (λ (s : Start). s.answer) (open_refused a.store a.trace.now _ (store_refused a.store _ (sym c.in_err-at.ensures)))

pub returns-then-trace-ne0 : goal.returns-then-trace-ne0
returns-then-trace-ne0 c =
    let a = c.args in
    let held = held_given a.store 0 _ (sym c.in_ok-at.ensures) in
    ap (λ (s : Start). s.answer) (open_length a.store a.trace.now held.0 (ne_eqb _ _ c.if-trace-ne0.true))

pub returns : goal.returns
returns c =
    let a = c.args in
    let held = held_given a.store 0 _ (sym c.in_ok-at.ensures) in
    ap (λ (s : Start). s.answer) (open_done a.store a.trace.now held.0 (eq-eqb _ _ c.if-trace-ne0.false))
