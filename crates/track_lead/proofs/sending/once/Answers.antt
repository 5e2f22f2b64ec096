-- `once` sends its byte in its first frame alone.
use mathlib.Core.Path.{◌≡◌, sym, ap}
use mathlib.Core.List.{◌++◌}
use lib.ListN.{take, drop}
use Rattle.track_lead.specs.Sent.{twelve}
use Prim.Native.Nat.{ℕ, ◌*◌}
use native.Mathlib.Omega.{arith}
use Rattle.track_lead.proofs.Ones.{once_over}
use Rattle.track_lead.proofs.sending.once.Goals as goal

pub returns-then-j-gt0 : goal.returns-then-j-gt0
returns-then-j-gt0 c = sym (once_over c.args.byte c.args.j c.if-j-gt0.true)

pub returns : goal.returns
returns c =
    let a = c.args in
    let first : 0 ≡ a.j = omega arith in
    ap (λ (j : ℕ). take 12 (drop (12 * j) (twelve a.byte) ++ twelve 255)) first
