-- `not_begun` is the definition's.
use Rattle.std.proofs.Common.{refl}
use Rattle.console.specs.Pass.{not_begun}
use Rattle.console.proofs.progress.not_begun.Goals as goal

pub returns : goal.returns
unfolding not_begun
returns c = refl
