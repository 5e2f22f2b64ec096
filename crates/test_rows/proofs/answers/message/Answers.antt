-- One part after the other.
-- Assumes nothing.
use Rattle.text.proofs.Putting.{then, alone, after}
use Rattle.test_rows.proofs.answers.message.Goals as goal

pub returns : goal.returns
returns c =
    after _ _ _ _ (after _ _ _ _ (after _ _ _ _ (then _ _ _ _ c.direction-after_direction.ensures (alone _ _ _ c.put_kind-after_kind.ensures)) c.balise-after_balise.ensures) c.number-after_number.ensures) c.content.ensures
