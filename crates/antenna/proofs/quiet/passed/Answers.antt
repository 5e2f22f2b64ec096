-- Ones after sixteen ones are passed over; else nothing is.
-- Assumes nothing.
use Prim.Native.Nat.{ℕ, ◌+◌, ◌-◌}
use mathlib.Core.Path.{◌≡◌, ap}
use mathlib.Core.List.{List}
use native.Mathlib.Omega.{arith}
use Rattle.antenna.specs.declared.Ear.{Ear}
use Rattle.antenna.specs.declared.Stand.{Stand}
use Rattle.antenna.specs.Piece.{first}
use Rattle.antenna.proofs.Passing.{passes}
use Rattle.antenna.proofs.quiet.passed.Goals as goal

none : (b : List ℕ) (s t : ℕ) (ear : Ear) (i end : ℕ) → first b s t ear i (end - i) ≡ first b s t ear (i + 0) (end - (i + 0))
none b s t ear i end = let here : i ≡ i + 0 = omega arith in ap (λ (k : ℕ). first b s t ear k (end - k)) here

pub returns-then-history-eq65535 : goal.returns-then-history-eq65535
returns-then-history-eq65535 c =
    let a = c.args in
    (omega arith, λ s t. passes a.buf.now s t a.history a.i a.end c.smaller.result c.ones_ahead.result c.if-history-eq65535.true (omega arith) c.smaller.ensures.0 c.smaller.ensures.1 c.ones_ahead.ensures)

pub returns : goal.returns
returns c =
    let a = c.args in
    (omega arith, λ s t. none a.buf.now s t (record { history = a.history; stand = Stand.Outside }) a.i a.end)
