-- `put_direction` puts the word for each direction.
use Rattle.text.proofs.Standing.{by_case}
use Rattle.ride_text.specs.Text.{direction_word}
use Rattle.ride_text.proofs.lines.put_direction.Goals as goal

pub returns-in-Present : goal.returns-in-Present
returns-in-Present c = by_case direction_word _ _ c.in-Present.is c.put.ensures

pub returns-in-Opposite : goal.returns-in-Opposite
returns-in-Opposite c = by_case direction_word _ _ c.in-Opposite.is c.put-in-Opposite.ensures
