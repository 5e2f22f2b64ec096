-- A stretch that is taken is walked from outside a contact; else the answer is 5.
-- Assumes nothing.
use Prim.Native.Nat.{◌+◌, ◌-◌}
use mathlib.Core.Path.{◌≡◌}
use native.Mathlib.Omega.{arith}
use Rattle.contact.specs.Contacts.{contacts_from, next_contact}
use Rattle.telegram.proofs.Taken.{taken, judged_inside, judged_beyond}
use Rattle.contact.proofs.next_contact.Goals as goal

pub overflow_add-next : goal.overflow_add-next
overflow_add-next c =
    let a = c.args in
    let h = judged_inside a.buf.now a.search.next a.search.left c.inside.result c.inside.ensures c.in-Ok.field-0 c.in-Ok.is in
    omega (arith, taken a.buf.now a.search.next a.search.left h)

pub outside-requires : goal.outside-requires
outside-requires c =
    let a = c.args in
    let h = judged_inside a.buf.now a.search.next a.search.left c.inside.result c.inside.ensures c.in-Ok.field-0 c.in-Ok.is in
    omega (arith, taken a.buf.now a.search.next a.search.left h)

pub returns-in-Ok : goal.returns-in-Ok
unfolding next_contact contacts_from
returns-in-Ok c =
    let a = c.args in
    let s = a.search in
    let e : s.next + s.left - s.next ≡ s.left = omega arith in
    simp (judged_inside a.buf.now s.next s.left c.inside.result c.inside.ensures c.in-Ok.field-0 c.in-Ok.is) (rw e at c.outside.ensures)

pub returns-in-Err : goal.returns-in-Err
unfolding next_contact contacts_from
returns-in-Err c =
    let a = c.args in
    simp (judged_beyond a.buf.now a.search.next a.search.left c.inside.result c.inside.ensures c.in-Err.field-0 c.in-Err.is)
