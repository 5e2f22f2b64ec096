-- One number after the other.
-- Assumes nothing.
use Rattle.text.proofs.Putting.{then, alone, after}
use Rattle.test_rows.proofs.answers.balise.Goals as goal

pub returns : goal.returns
returns c =
    after _ _ _ _ (then _ _ _ _ c.put_number-after_place.ensures (alone _ _ _ c.put_number-after_ay.ensures)) (alone _ _ _ c.put_number.ensures)
