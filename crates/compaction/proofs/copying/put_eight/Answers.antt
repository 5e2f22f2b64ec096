-- `put_eight` copies the eight bytes.
use mathlib.Core.Path.{◌≡◌, ap}
use mathlib.Core.List.{List, ◌++◌}
use Prim.Native.Nat.{ℕ, ◌+◌, ◌-◌}
use native.Mathlib.Omega.{arith}
use borrow.Rule.Slice.PartMut.{put_mid, Post-is}
use lib.ListN.{length, take}
use Rattle.std.proofs.Common.{append_assoc}
use Rattle.text.specs.Put.{placed}
use Rattle.compaction.proofs.copying.put_eight.Goals as goal

-- The middle put into a list is the text placed there.
middle : (n at : ℕ) (xs ys : List ℕ) → length ys ≡ n → put_mid at (at + n - at) xs ys ≡ placed ys xs at
unfolding placed
middle n at xs ys long =
    rw (long, append_assoc) (ap (λ (l : List ℕ). take at xs ++ (ys ++ l)) (Post-is at (at + n) xs (omega arith)))

pub returns-clause-trace_after : goal.returns-clause-trace_after
returns-clause-trace_after c =
    let long : length c.args.bytes ≡ 8 = c.well_formed.0.1.0.1 in
    rw c.copy_from_slice.ensures.after (middle 8 c.args.at c.args.trace.now c.args.bytes long)
