-- `put_seen` puts the place, the direction, the kind, the mark, the number and the newline one
-- after the other.
use mathlib.Core.List.{◌++◌}
use Rattle.text.specs.Text.{codes, decimal}
use Rattle.text.proofs.Standing.{less, join, join_4}
use Rattle.ride_text.specs.Text.{direction_word, kind_word, mark, number, seen}
use Rattle.ride_text.proofs.lines.put_seen.Goals as goal

pub returns : goal.returns
unfolding seen
returns c =
    let b = c.args.buf.now in
    let at = c.args.at in
    let of = c.args.of in
    let four = decimal of.place ++ direction_word of.direction ++ kind_word of.kind ++ mark of.mark in
    let h5 = less b at (four ++ number of.number) (codes "\n") c.requires in
    let h4 = less b at four (number of.number) h5 in
    join b at (four ++ number of.number) (codes "\n") c.requires
    (join b at four (number of.number) h5
    (join_4 b at (decimal of.place) (direction_word of.direction) (kind_word of.kind) (mark of.mark) h4
    c.put_number-a.ensures c.put_direction-b.ensures c.put_kind-c.ensures c.put_mark-d.ensures)
    c.put_figure-e.ensures)
    c.put.ensures
