-- `balise` makes a record of the words, or hands on why there are none.
use mathlib.Core.Path.{sym, ap, ◌∙◌}
use Rattle.std.specs.Prelude.{Err}
use Rattle.telegram.specs.Says.{says_spelt}
use Rattle.trace_text.specs.Record.{record_of_meant}
use Rattle.trace_text.proofs.making.balise.Goals as goal

pub returns-in-Ok : goal.returns-in-Ok
unfolding record_of_meant
returns-in-Ok c = c.made.ensures ∙ simp (sym c.spell.ensures ∙ ap says_spelt c.in-Ok.is)

pub returns-in-Err-TooLarge : goal.returns-in-Err-TooLarge
unfolding record_of_meant
returns-in-Err-TooLarge c =
    let is = c.in-Err-TooLarge.is ∙ ap Err c.in-Err-TooLarge.field-0-is in
    c.refused.ensures ∙ simp (sym c.spell.ensures ∙ ap says_spelt is)

pub returns-in-Err-Fifteen : goal.returns-in-Err-Fifteen
unfolding record_of_meant
returns-in-Err-Fifteen c =
    let is = c.in-Err-Fifteen.is ∙ ap Err c.in-Err-Fifteen.field-0-is in
    c.refused-in-Err-Fifteen.ensures ∙ simp (sym c.spell.ensures ∙ ap says_spelt is)
