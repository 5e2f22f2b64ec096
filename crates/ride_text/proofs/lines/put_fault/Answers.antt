-- `put_fault` puts the place, the number, why and the newline one after the other.
use mathlib.Core.Path.{ap, ◌∙◌}
use mathlib.Core.List.{List, ◌++◌}
use Prim.Native.Nat.{ℕ}
use Rattle.text.specs.Text.{codes}
use Rattle.text.specs.Put.{put}
use Rattle.text.proofs.Standing.{less, room_after, join, join_4, numbered, room_as}
use Rattle.ride_text.specs.Text.{behind}
use Rattle.ride_text.proofs.Texts.{fault_is}
use Rattle.ride_text.proofs.lines.put_fault.Goals as goal

pub put_why-c-requires : goal.put_why-c-requires
put_why-c-requires c =
    let a = c.args in
    let b = a.buf.now in
    let t1 = numbered "" a.place in
    let t2 = numbered " fault " a.n in
    let t3 = behind a.reasons a.closed in
    let whole = room_as b a.at (fault_is a.place a.n t3) c.requires in
    let three = less b a.at (t1 ++ t2 ++ t3) (codes "\n") whole in
    room_after b a.at (t1 ++ t2) t3 three (join b a.at t1 t2 (less b a.at (t1 ++ t2) t3 three) c.put_number-a.ensures c.put_number-b.ensures)

pub returns : goal.returns
returns c =
    let a = c.args in
    let b = a.buf.now in
    let t3 = behind a.reasons a.closed in
    let is = fault_is a.place a.n t3 in
    join_4 b a.at (numbered "" a.place) (numbered " fault " a.n) t3 (codes "\n") (room_as b a.at is c.requires)
    c.put_number-a.ensures c.put_number-b.ensures c.put_why-c.ensures c.put.ensures
    ∙ ap (λ (t : List ℕ). put t b a.at) is
