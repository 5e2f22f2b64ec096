-- `settings_of` judges the pair, then the gap.
use mathlib.Core.Path.{sym, ap, ◌∙◌}
use Rattle.telegram.specs.Says.{says_pair}
use Rattle.settings.specs.Versions.{settings_of}
use Rattle.settings.proofs.versions.settings_of.Goals as goal

pub returns-then-allowed : goal.returns-then-allowed
unfolding settings_of
returns-then-allowed c =
    let pair = sym c.good_pair.ensures ∙ ap says_pair c.in-Ok.is in
    rw (pair, ← c.allowed.ensures, c.if-allowed.true)

pub returns-in-Err : goal.returns-in-Err
unfolding settings_of
returns-in-Err c =
    let pair = sym c.good_pair.ensures ∙ ap says_pair c.in-Err.is in
    rw pair

pub returns-else-allowed : goal.returns-else-allowed
unfolding settings_of
returns-else-allowed c =
    let pair = sym c.good_pair.ensures ∙ ap says_pair c.in-Ok.is in
    rw (pair, ← c.allowed.ensures, c.if-allowed.false)
