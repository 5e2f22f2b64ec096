-- `no_letters` is the definition's.
use mathlib.Core.Path.{refl}
use Rattle.lines.specs.Reading.{no_letters}
use Rattle.lines.proofs.spelling.no_letters.Goals as goal

pub returns : goal.returns
unfolding no_letters
returns c = refl
