-- Refusals, computed.
-- Assumes nothing.
use mathlib.Core.Path.{◌≡◌, refl}
use Rattle.text.specs.Text.{codes, digits, decimal}
use Rattle.refusals.specs.Words.{table, worded, refused}

pub nothing_kept : refused 22 ≡ codes "refused 22: no state is kept to go back to\n"
unfolding refused worded table decimal digits
nothing_kept = refl

pub bad_pair : refused 4 ≡ codes "refused 4: sync pair doesn't differ in seven bits\n"
unfolding refused worded table decimal digits
bad_pair = refl

-- 21 is never said by a program, and has no words.
pub no_words : refused 21 ≡ codes "refused 21\n"
unfolding refused worded table decimal digits
no_words = refl
