-- The zeroes of the 64 bits, counted from the top, those before bit i cleared.
-- Assumes nothing.
use Prim.Native.Nat.{◌/◌, ◌%◌, ◌^◌, ◌-◌}
use native.Mathlib.Omega.{arith}
use lib.Bits.{bit_and, bit_xor}
use lib.Count.{leading_le}
use Rattle.antenna.proofs.Passing.{enough, ones_follow}
use Rattle.antenna.proofs.quiet.ones_ahead.Goals as goal

pub overflow_cast-result : goal.overflow_cast-result
overflow_cast-result c =
    omega (arith, leading_le 64 (bit_and (bit_xor c.eight_bytes.result (2 ^ 64 - 1)) ((2 ^ 64 - 1) / 2 ^ (c.args.i % 8))))

pub overflow_sub-result : goal.overflow_sub-result
overflow_sub-result c = enough (bit_xor c.eight_bytes.result (2 ^ 64 - 1)) (c.args.i % 8) (omega arith)

pub returns : goal.returns
returns c j less = ones_follow c.args.buf.now c.args.i c.eight_bytes.result j c.eight_bytes.ensures less
