-- `words_of` spells what was read: three figures, or 12 and the number.
use mathlib.Core.Path.{sym, ap, ◌∙◌}
use Rattle.telegram.specs.declared.Telegram.{Telegram}
use Rattle.telegram.specs.Spelling.{asked, spell}
use Rattle.recorder.specs.Record.{telegram_of}
use Rattle.recorder.proofs.keeping.words_of.Goals as goal

pub returns-in-Figures : goal.returns-in-Figures
returns-in-Figures c = c.spell.ensures ∙ ap (λ (t : Telegram). spell (telegram_of t)) (sym c.in-Figures.is)

pub returns-in-Number : goal.returns-in-Number
unfolding asked
returns-in-Number c = c.spell-in-Number.ensures ∙ ap (λ (t : Telegram). spell (telegram_of t)) (sym c.in-Number.is)
