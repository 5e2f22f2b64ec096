-- The place of the last record, or 0.
-- Assumes nothing.
use mathlib.Core.Path.{sym, ap, subst}
use Rattle.ear_bytes.specs.Ears.{last_place}
use Rattle.ear_bytes.specs.Sizes.{LastFits}
use borrow.Author.Rules.{rules}
use Rattle.ear_bytes.proofs.figures.last_place.Goals as goal

pub returns-in-None : goal.returns-in-None
returns-in-None c = record { value = ap last_place (sym c.in-None.is); last_fits = subst LastFits (sym c.in-None.is) tt }

pub returns-in-Some : goal.returns-in-Some
returns-in-Some c = record { value = ap last_place (sym c.in-Some.is); last_fits = subst LastFits (sym c.in-Some.is) (search rules) }
