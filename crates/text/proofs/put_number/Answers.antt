-- `put_number` tests the room for both, copies the words, and spells the number after them.
use mathlib.Core.List.{◌++◌}
use Prim.Native.Nat.{◌+◌, ◌≤◌}
use native.Mathlib.Omega.{arith}
use lib.ListN.{length, length-append}
use Rattle.text.specs.Text.{decimal}
use Rattle.text.proofs.Standing.{Stands, room, behind, no_room, was_put}
use Rattle.text.proofs.put_number.Goals.{After-copy-next, Else-count-buf}
use Rattle.text.proofs.put_number.Goals as goal

-- Both have room.
fits : (c : Else-count-buf) → let a = c.args in a.at + length (a.words.now ++ decimal a.n) ≤ length a.buf.now
fits c =
    let a = c.args in
    omega (arith, length-append a.words.now (decimal a.n))

-- The words stand.
words_stand : (c : After-copy-next) →
    let a = c.args in
    Stands a.buf.now c.copy-next.new.buf a.at c.copy-next.result a.words.now
words_stand c =
    let a = c.args in
    let room_for : a.at + length a.words.now ≤ length a.buf.now = omega (arith, fits (goal.at-After-copy-next c).Else-count-buf, length-append a.words.now (decimal a.n)) in
    record { put = (c.copy-next.ensures.value, c.copy-next.ensures.buf_after); fits = room_for }

pub returns-then-at-buf : goal.returns-then-at-buf
returns-then-at-buf c =
    let a = c.args in
    no_room (a.words.now ++ decimal a.n) a.buf.now a.at (omega (arith, length-append a.words.now (decimal a.n)))

pub returns-then-words-buf : goal.returns-then-words-buf
returns-then-words-buf c =
    let a = c.args in
    no_room (a.words.now ++ decimal a.n) a.buf.now a.at (omega (arith, length-append a.words.now (decimal a.n)))

pub returns-then-count-buf : goal.returns-then-count-buf
returns-then-count-buf c =
    let a = c.args in
    no_room (a.words.now ++ decimal a.n) a.buf.now a.at (omega (arith, length-append a.words.now (decimal a.n)))

pub overflow_add-next : goal.overflow_add-next
overflow_add-next c =
    let a = c.args in
    omega (arith, room (decimal a.n) (words_stand (goal.at-overflow_add-next c).After-copy-next) (fits (goal.at-overflow_add-next c).Else-count-buf))

pub spell-requires : goal.spell-requires
spell-requires c =
    let a = c.args in
    (omega arith, omega (arith, room (decimal a.n) (words_stand (goal.at-spell-requires c).After-copy-next) (fits (goal.at-spell-requires c).Else-count-buf)))

pub returns : goal.returns
returns c =
    let a = c.args in
    was_put (behind (decimal a.n) (words_stand (goal.at-returns c).After-copy-next) (fits (goal.at-returns c).Else-count-buf) (c.spell.ensures.value, c.spell.ensures.buf_after))
