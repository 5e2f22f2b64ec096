-- `record_of` asks what is kept, then the odometer.
-- Assumes nothing.
use Prim.Native.Nat.{ℕ}
use mathlib.Core.Path.{sym, ap, ◌∙◌}
use mathlib.Core.List.{List}
use Rattle.std.proofs.lemmas.Result.{err_from_is_err_and}
use Rattle.words.specs.Answer.{Outcome, then}
use Rattle.recorder.specs.Record.{Content, at_odometer, record_of_meant}
use Rattle.recorder.specs.Says.{says_kept}
use Rattle.recorder.proofs.record_of.Goals as goal

-- what is kept, k, comes to at this odometer
abbrev after : ℕ → Outcome Content → Outcome (List ℕ)
after odometer k = then k (at_odometer odometer)

pub returns-in_err-kept : goal.returns-in_err-kept
unfolding record_of_meant
returns-in_err-kept c =
    let p = err_from_is_err_and c.from_residual.result c.from_residual.ensures.1 in
    rw (p.1, p.2) (ap (after c.args.odometer) (sym (ap says_kept c.in_err-kept.was) ∙ c.content_of.ensures))

pub returns : goal.returns
unfolding record_of_meant
returns c = c.made_at.ensures ∙ ap (after c.args.odometer) (sym (ap says_kept c.in_ok-kept.was) ∙ c.content_of.ensures)
