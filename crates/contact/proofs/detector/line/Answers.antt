-- 48 of the 64 bits from the byte of i on, below the history.
-- Assumes nothing.
use Prim.Native.Nat.{ℕ, ◌+◌, ◌-◌, ◌*◌, ◌/◌, ◌%◌, ◌^◌}
use mathlib.Core.Path.{◌≡◌, ap, ◌∙◌}
use native.Mathlib.Omega.{arith}
use Rattle.telegram.specs.Stretch.{bits_at}
use Rattle.telegram.proofs.Bytes.{run_of}
use Rattle.contact.proofs.detector.line.Goals as goal

pub returns : goal.returns
returns c =
    let a = c.args in
    let b = a.buf.now in
    let o = a.i % 8 in
    let l = 16 - o in
    let inside : 64 ≡ o + 48 + l = omega arith in
    let at : 8 * (a.i / 8) + o ≡ a.i = omega arith in
    ap (λ (n : ℕ). a.history * 2 ^ 48 + n)
    (ap (λ (w : ℕ). w / 2 ^ l % 2 ^ 48) c.eight_bytes.ensures
    ∙ ap (λ (m : ℕ). bits_at b (8 * (a.i / 8)) m / 2 ^ l % 2 ^ 48) inside
    ∙ run_of b (8 * (a.i / 8)) o 48 l ∙ ap (λ (m : ℕ). bits_at b m 48) at)
