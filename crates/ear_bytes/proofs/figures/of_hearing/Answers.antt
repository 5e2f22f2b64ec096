-- The row of where the ear stands ends that of the hearing.
-- Assumes nothing.
use Rattle.ear_bytes.proofs.Rows.{of_all}
use borrow.Author.Rules.{rules}
use Rattle.ear_bytes.proofs.figures.of_hearing.Goals as goal

pub returns : goal.returns
returns c =
    let hearing = c.args.hearing in record { value = of_all _ _ _ hearing c.of_stand-f.ensures.value c.last_kind-kind.ensures c.last_place-place.ensures.value; hearing_fits = (search rules, search rules, search rules, c.last_place-place.ensures.last_fits, c.of_stand-f.ensures.stand_fits) }
