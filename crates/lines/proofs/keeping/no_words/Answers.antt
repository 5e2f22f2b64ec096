-- `no_words` is the definition's.
use mathlib.Core.Path.{refl}
use Rattle.lines.specs.Words.{no_words}
use Rattle.lines.proofs.keeping.no_words.Goals as goal

pub returns : goal.returns
unfolding no_words
returns c = refl
