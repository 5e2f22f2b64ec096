-- The row that the balises fit decides, by its direction.
-- Assumes nothing.
use mathlib.Core.Path.{◌≡◌, sym, ap, ◌∙◌}
use mathlib.Core.List.{List}
use lib.ListN.{take}
use Rattle.std.proofs.lemmas.Result.{err_from_is_err_and}
use Rattle.words.specs.Answer.{Outcome, gives}
use Rattle.group_rows.specs.declared.Direction.{Direction}
use Rattle.group_rows.specs.declared.Placed.{Placed}
use Rattle.group_rows.specs.declared.Picked.{Picked}
use Rattle.group_rows.specs.Fitting.{fitting}
use Rattle.group.specs.declared.Number.{Number}
use Rattle.group.specs.declared.Content.{Content}
use Rattle.group.specs.Balise.{then}
use Rattle.group.specs.Judge.{message_of, judge_as, judge_read}
use Rattle.group.proofs.judging.read.Goals.{In_ok-row, Start}
use Rattle.group.proofs.judging.read.Goals as goal

-- The judgement, from how the balises fit.
by_fit : (bs : List Placed) {o : Outcome Picked} → o ≡ fitting bs → then o (λ row. judge_as row.direction row bs) ≡ judge_read bs
unfolding judge_read
by_fit bs e = ap (λ (o : Outcome Picked). then o (λ row. judge_as row.direction row bs)) e

abbrev bs : Start → List Placed
bs s = take s.args.n s.args.p

-- The direction of the row that was found, and the judgement by it.
in_direction : (k : In_ok-row) {d : Direction} → k.in_ok-row.row.direction ≡ d
    → judge_as d k.in_ok-row.row (bs (goal.at-In_ok-row k).Start) ≡ judge_read (bs (goal.at-In_ok-row k).Start)
in_direction k e =
    ap (λ (d : Direction). judge_as d k.in_ok-row.row (bs (goal.at-In_ok-row k).Start)) (sym e)
    ∙ by_fit (bs (goal.at-In_ok-row k).Start) k.in_ok-row.ensures

pub returns-in_err-row : goal.returns-in_err-row
returns-in_err-row c =
    let p = err_from_is_err_and c.from_residual.result c.from_residual.ensures.1 in
    rw (p.1, p.2) (by_fit (bs (goal.at-returns-in_err-row c).Start) c.in_err-row.ensures)

pub returns-in-Present : goal.returns-in-Present
returns-in-Present c = c.as_present.ensures ∙ in_direction (goal.at-returns-in-Present c).In_ok-row c.in-Present.is

pub returns-in-Opposite : goal.returns-in-Opposite
returns-in-Opposite c =
    ap gives (c.message.ensures ∙ ap (λ (n : Number). message_of c.in_ok-row.row n Content.Nothing) c.requires.1)
    ∙ in_direction (goal.at-returns-in-Opposite c).In_ok-row c.in-Opposite.is
