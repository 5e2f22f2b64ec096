-- Forty of the 64 bits from the byte of p on.
-- Assumes nothing.
use Prim.Native.Nat.{ℕ, ◌+◌, ◌-◌, ◌*◌, ◌/◌, ◌%◌, ◌^◌}
use mathlib.Core.Path.{◌≡◌, ap, ◌∙◌}
use native.Mathlib.Omega.{arith}
use Rattle.telegram.specs.Stretch.{bits_at}
use Rattle.telegram.proofs.Bytes.{run_of}
use Rattle.telegram.proofs.bits.forty.Goals as goal

pub returns : goal.returns
returns c =
    let a = c.args in
    let b = a.buf.now in
    let o = a.p % 8 in
    let l = 24 - o in
    let inside : 64 ≡ o + 40 + l = omega arith in
    let at : 8 * (a.p / 8) + o ≡ a.p = omega arith in
    ap (λ (w : ℕ). w / 2 ^ l % 2 ^ 40) c.eight_bytes.ensures
    ∙ ap (λ (m : ℕ). bits_at b (8 * (a.p / 8)) m / 2 ^ l % 2 ^ 40) inside
    ∙ run_of b (8 * (a.p / 8)) o 40 l ∙ ap (λ (m : ℕ). bits_at b m 40) at
