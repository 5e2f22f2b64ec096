-- `information` reads the words as a telegram.
use Rattle.std.specs.Prelude.{Err}
use mathlib.Core.Path.{sym, ap, ◌∙◌}
use Rattle.telegram.specs.Says.{says_telegram_read}
use Rattle.trace_text.proofs.things.information.Goals as goal

pub returns-in-Ok : goal.returns-in-Ok
returns-in-Ok c = c.balise_of.ensures ∙ simp (sym c.read.ensures ∙ ap says_telegram_read c.in-Ok.is)

pub returns-in-Err-NotCode : goal.returns-in-Err-NotCode
returns-in-Err-NotCode c = simp (sym c.read.ensures ∙ ap says_telegram_read (c.in-Err-NotCode.is ∙ ap Err c.in-Err-NotCode.field-0-is))

pub returns-in-Err-Fifteen : goal.returns-in-Err-Fifteen
returns-in-Err-Fifteen c = simp (sym c.read.ensures ∙ ap says_telegram_read (c.in-Err-Fifteen.is ∙ ap Err c.in-Err-Fifteen.field-0-is))
