-- `judge_under` asks the store, and judges with the pair in force.
use mathlib.Core.Path.{sym, ap, ◌∙◌}
use Rattle.settings.specs.Says.{says_asked}
use Rattle.contact.specs.Under.{judge_under}
use Rattle.contact.proofs.judge_under.Goals as goal

pub returns-in-Err : goal.returns-in-Err
unfolding judge_under
returns-in-Err c =
    let asked = sym c.at-asked.ensures ∙ ap says_asked c.in-Err.is in
    rw asked

pub returns-in-Ok : goal.returns-in-Ok
unfolding judge_under
returns-in-Ok c =
    let asked = sym c.at-asked.ensures ∙ ap says_asked c.in-Ok.is in
    rw asked (c.with_pair.ensures ∙ c.judge.ensures)
