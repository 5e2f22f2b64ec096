-- Eight of the 64 bits from the byte of p on.
-- Assumes nothing.
use Prim.Native.Nat.{ℕ, ◌+◌, ◌-◌, ◌*◌, ◌/◌, ◌%◌, ◌^◌}
use mathlib.Core.Path.{◌≡◌, ap, ◌∙◌}
use native.Mathlib.Omega.{arith}
use Rattle.telegram.specs.Stretch.{bits_at}
use Rattle.telegram.proofs.Bytes.{run_of}
use Rattle.contact_drawing.proofs.boxes.byte.Goals as goal

pub returns : goal.returns
returns c =
    let a = c.args in
    let b = a.bits.now in
    let o = a.p % 8 in
    let l = 56 - o in
    let inside : 64 ≡ o + 8 + l = omega arith in
    let at : 8 * (a.p / 8) + o ≡ a.p = omega arith in
    ap (λ (w : ℕ). w / 2 ^ l % 2 ^ 8) c.eight_bytes.ensures
    ∙ ap (λ (m : ℕ). bits_at b (8 * (a.p / 8)) m / 2 ^ l % 2 ^ 8) inside
    ∙ run_of b (8 * (a.p / 8)) o 8 l ∙ ap (λ (m : ℕ). bits_at b m 8) at
