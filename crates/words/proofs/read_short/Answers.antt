-- `read_short` answers the high four bits exactly where the byte is a code word, and the parity
-- elsewhere.
-- Assumes nothing.
use Prim.Native.Nat.{◌/◌, ◌<◌}
use mathlib.Core.Path.{sym, ap, ◌∙◌}
use native.Mathlib.Nat.{mod-eq_of_lt}
use native.Mathlib.Omega.{arith}
use Rattle.words.specs.Answer.{gives}
use Rattle.words.proofs.Answers.{accepted, refused}
use Rattle.words.proofs.Short.{high_four}
use Rattle.words.proofs.read_short.Goals as goal

pub returns-then-is_short : goal.returns-then-is_short
returns-then-is_short c =
    let s = c.before.before in
    let w = s.args.word in
    let byte : w < 256 = s.ranges.word.fits in
    let small : w / 16 < 256 = omega arith in
    ap gives (sym (mod-eq_of_lt small))
    ∙ accepted 8 w c.is_short.result c.is_short.ensures (w / 16) (high_four w byte) c.if-is_short.true

pub returns-else-is_short : goal.returns-else-is_short
returns-else-is_short c =
    let s = c.before.before.before in
    let w = s.args.word in
    let byte : w < 256 = s.ranges.word.fits in
    refused 8 w c.is_short.result c.is_short.ensures c.parity.result (c.parity.ensures.1 byte) c.if-is_short.false
