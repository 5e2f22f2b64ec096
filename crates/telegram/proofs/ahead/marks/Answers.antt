-- Where two bytes 32 bits apart differ as the sync words do, there is a mark.
-- Assumes nothing.
use Rattle.telegram.proofs.Many.{unmarked}
use Rattle.telegram.proofs.ahead.marks.Goals as goal

pub returns : goal.returns
returns c =
    let a = c.args in
    let y = c.eight_bytes in
    let x = c.eight_bytes-2 in
    let m = c.where_stands in
    (m.ensures.0, unmarked a.buf.now a.s a.t a.p x.result y.result m.result x.ensures y.ensures m.ensures.1)
