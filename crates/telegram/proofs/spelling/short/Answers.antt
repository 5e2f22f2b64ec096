-- `short` refuses what is no byte by itself, as the writer of words does what is above 15.
use Prim.Native.Nat.{◌<◌}
use native.Mathlib.Omega.{arith}
use borrow.Author.Tests.{lt-leb}
use Rattle.words.specs.Code.{write_word}
use Rattle.telegram.proofs.spelling.short.Goals as goal

pub returns-then-figure-gt255 : goal.returns-then-figure-gt255
unfolding write_word
returns-then-figure-gt255 c =
    let h : 15 < c.args.figure = omega arith in
    simp (lt-leb _ _ h)
