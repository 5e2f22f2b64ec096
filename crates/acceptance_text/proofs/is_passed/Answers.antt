-- Both counts are looked at.
-- Assumes nothing.
use mathlib.Core.Path.{refl}
use Rattle.acceptance_text.specs.Lines.{is_passed}
use Rattle.acceptance_text.proofs.is_passed.Goals as goal

pub returns : goal.returns
unfolding is_passed
returns c = refl
