-- A search begins exactly where the stretch is taken; else it is refused with 5.
-- Assumes nothing.
use Rattle.telegram.proofs.Taken.{judged_inside, judged_beyond}
use Rattle.contact.specs.Contacts.{begin, from_start}
use Rattle.contact.proofs.begin.Goals as goal

pub returns-in-Ok : goal.returns-in-Ok
unfolding begin from_start
returns-in-Ok c =
    let a = c.args in
    simp (judged_inside a.buf.now a.start a.len c.inside.result c.inside.ensures c.in-Ok.field-0 c.in-Ok.is)

pub returns-in-Err : goal.returns-in-Err
unfolding begin from_start
returns-in-Err c =
    let a = c.args in
    simp (judged_beyond a.buf.now a.start a.len c.inside.result c.inside.ensures c.in-Err.field-0 c.in-Err.is)
