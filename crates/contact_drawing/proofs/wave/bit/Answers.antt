-- A bit of its byte.
-- Assumes nothing.
use Prim.Native.Nat.{ℕ, ◌-◌, ◌/◌, ◌%◌, ◌^◌}
use mathlib.Core.Path.{ap}
use Rattle.contact_drawing.proofs.wave.bit.Goals as goal

pub returns : goal.returns
returns c =
    let a = c.args in
    ap (λ (w : ℕ). w / 2 ^ (7 - a.i % 8) % 2) c.nth.ensures
