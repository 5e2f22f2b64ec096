-- Each case is its row; the telegram's own row ends it.
-- Assumes nothing.
use mathlib.Core.Path.{sym, ap, subst, ◌∙◌}
use Rattle.ear_bytes.specs.Ears.{places_figures}
use Rattle.ear_bytes.specs.Sizes.{PlacesFit}
use Rattle.ear_bytes.proofs.Rows.{of_alike}
use borrow.Author.Rules.{rules}
use Rattle.ear_bytes.proofs.figures.of_places.Goals as goal

pub returns-in-NoPlace : goal.returns-in-NoPlace
returns-in-NoPlace c = record { value = ap places_figures (sym c.in-NoPlace.is); places_fit = subst PlacesFit (sym c.in-NoPlace.is) tt }

pub returns-in-Alike : goal.returns-in-Alike
returns-in-Alike c =
    record { value = of_alike _ c.in-Alike.telegram _ _ _ _ _ c.of_telegram-m.ensures.value ∙ ap places_figures (sym c.in-Alike.is); places_fit = subst PlacesFit (sym c.in-Alike.is) (search rules, search rules, search rules, c.of_telegram-m.ensures.telegram_fits) }

pub returns-in-Differ : goal.returns-in-Differ
returns-in-Differ c = record { value = ap places_figures (sym c.in-Differ.is); places_fit = subst PlacesFit (sym c.in-Differ.is) tt }
