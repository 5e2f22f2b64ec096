-- The word lies in the buffer, or is filled with zeroes.
-- Assumes nothing.
use mathlib.Core.Path.{sym, ◌∙◌}
use borrow.Author.Tests.{leb-true}
use Rattle.telegram.proofs.bits.eight_bytes.Goals as goal

pub whole-requires : goal.whole-requires
whole-requires c = leb-true _ _ (sym c.has.ensures ∙ c.if-has.true)
