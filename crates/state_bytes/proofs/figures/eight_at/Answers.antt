-- The eight bytes of the figure, in two halves.
-- Assumes nothing.
use mathlib.Core.Path.{ap₂}
use Prim.Native.Nat.{ℕ, ◌+◌, ◌*◌}
use Rattle.state_bytes.specs.Figures.{eight_at}
use Rattle.state_bytes.proofs.figures.eight_at.Goals as goal

pub returns : goal.returns
unfolding eight_at
returns c = ap₂ (λ (h l : ℕ). h * 4294967296 + l) c.high_first-high.ensures.0 c.high_first-low.ensures.0
