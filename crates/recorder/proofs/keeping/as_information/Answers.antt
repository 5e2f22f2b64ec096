-- `as_information` keeps the words, or hands on why there are none.
use mathlib.Core.Path.{sym, ap, ◌∙◌}
use Rattle.std.specs.Prelude.{Err}
use Rattle.telegram.specs.Says.{says_spelt}
use Rattle.recorder.specs.Record.{informed}
use Rattle.recorder.proofs.keeping.as_information.Goals as goal

pub returns-in-Ok : goal.returns-in-Ok
returns-in-Ok c = ap informed (sym (ap says_spelt c.in-Ok.is) ∙ c.words_of.ensures)

pub returns-in-Err-TooLarge : goal.returns-in-Err-TooLarge
returns-in-Err-TooLarge c = ap informed (sym (ap says_spelt (c.in-Err-TooLarge.is ∙ ap Err c.in-Err-TooLarge.field-0-is)) ∙ c.words_of.ensures)

pub returns-in-Err-Fifteen : goal.returns-in-Err-Fifteen
returns-in-Err-Fifteen c = ap informed (sym (ap says_spelt (c.in-Err-Fifteen.is ∙ ap Err c.in-Err-Fifteen.field-0-is)) ∙ c.words_of.ensures)
