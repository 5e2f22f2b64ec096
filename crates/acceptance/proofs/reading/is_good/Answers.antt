-- By the record's bytes.
-- Assumes nothing.
use native.Mathlib.Omega.{arith}
use Rattle.acceptance.specs.Plan.{is_good}
use Rattle.acceptance.proofs.Filling.{byte_at}
use Rattle.acceptance.proofs.reading.is_good.Goals as goal

pub returns : goal.returns
unfolding is_good
returns c =
    let a = c.args in
    let b = a.bytes.now in
    simp (byte_at b a.at 4 (omega arith), byte_at b a.at 5 (omega arith), byte_at b a.at 6 (omega arith), byte_at b a.at 7 (omega arith))
