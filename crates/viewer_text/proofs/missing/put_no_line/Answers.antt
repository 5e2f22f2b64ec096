-- `put_no_line` asks whether there is room for the whole line, and then puts its three parts.
use mathlib.Core.List.{map, ◌++◌}
use Prim.Native.Nat.{◌+◌, ◌≤◌}
use native.Mathlib.Omega.{arith}
use lib.ListN.{length}
use Rattle.text.specs.Text.{codes}
use Rattle.text.proofs.Standing.{less, no_room, room_after, join_3}
use Rattle.viewer_text.specs.Missing.{visible, no_line}
use Rattle.viewer_text.proofs.Signs.{as_many, line_length}
use Rattle.viewer_text.proofs.missing.put_no_line.Goals.{Else-buf-at}
use Rattle.viewer_text.proofs.missing.put_no_line.Goals as goal

-- there is room for all of it
fits : (c : Else-buf-at) → let a = c.args in a.at + length (no_line a.word.now) ≤ length a.buf.now
fits c = omega (arith, line_length c.args.word.now, c.if-buf-at.false, c.if-buf-at-lt21.false, c.if-at-buf.false)

-- and so for its first two parts
named : (c : Else-buf-at) → let a = c.args in a.at + length (codes "no further line has " ++ map visible a.word.now) ≤ length a.buf.now
unfolding no_line
named c =
    let a = c.args in
    less a.buf.now a.at (codes "no further line has " ++ map visible a.word.now) (codes "\n") (fits c)

pub returns-then-at-buf : goal.returns-then-at-buf
returns-then-at-buf c =
    let a = c.args in
    no_room (no_line a.word.now) a.buf.now a.at (omega (arith, c.if-at-buf.true))

pub returns-then-buf-at-lt21 : goal.returns-then-buf-at-lt21
returns-then-buf-at-lt21 c =
    let a = c.args in
    no_room (no_line a.word.now) a.buf.now a.at (omega (arith, line_length a.word.now, c.if-buf-at-lt21.true, c.if-at-buf.false))

pub returns-then-buf-at : goal.returns-then-buf-at
returns-then-buf-at c =
    let a = c.args in
    no_room (no_line a.word.now) a.buf.now a.at (omega (arith, line_length a.word.now, c.if-buf-at.true, c.if-buf-at-lt21.false, c.if-at-buf.false))

pub copy-said-requires : goal.copy-said-requires
copy-said-requires c =
    let a = c.args in
    omega (arith, as_many a.word.now, room_after a.buf.now a.at (codes "no further line has ") (map visible a.word.now) (named (goal.at-copy-said-requires c).Else-buf-at) c.put-named.ensures)

pub returns : goal.returns
unfolding no_line
returns c =
    let a = c.args in
    join_3 a.buf.now a.at (codes "no further line has ") (map visible a.word.now) (codes "\n") (fits (goal.at-returns c).Else-buf-at) c.put-named.ensures c.copy-said.ensures c.put.ensures
