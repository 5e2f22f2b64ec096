-- Each case is its row, and its figures are as small as their types.
-- Assumes nothing.
use mathlib.Core.Path.{sym, ap, subst}
use Rattle.ear_bytes.specs.Ears.{telegram_figures}
use Rattle.ear_bytes.specs.Sizes.{TelegramFits}
use borrow.Author.Rules.{rules}
use Rattle.ear_bytes.proofs.figures.of_telegram.Goals as goal

pub returns-in-Figures : goal.returns-in-Figures
returns-in-Figures c =
    record { value = ap telegram_figures (sym c.in-Figures.is); telegram_fits = subst TelegramFits (sym c.in-Figures.is) (search rules, search rules, search rules) }

pub returns-in-Number : goal.returns-in-Number
returns-in-Number c =
    record { value = ap telegram_figures (sym c.in-Number.is); telegram_fits = subst TelegramFits (sym c.in-Number.is) (search rules) }
