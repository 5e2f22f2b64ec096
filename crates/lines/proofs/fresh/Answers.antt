-- `fresh` has no word and no character.
use Rattle.lines.specs.Reading.{fresh}
use Rattle.lines.proofs.fresh.Goals as goal

pub returns : goal.returns
unfolding fresh
returns c = rw (c.no_words.ensures, c.no_letters.ensures)
