-- `put_record` puts the number of the record, and after it the words with the refusal.
use mathlib.Core.Path.{◌≡◌}
use mathlib.Core.List.{List, ◌++◌, append_assoc}
use Prim.Native.Nat.{ℕ}
use Rattle.text.specs.Text.{codes, decimal}
use Rattle.text.proofs.Standing.{room_as, room_after, join_as}
use Rattle.ride.specs.declared.Line.{Line}
use Rattle.ride_text.specs.Text.{text_with, text}
use Rattle.ride_text.proofs.lines.put_record.Goals as goal

-- what comes last
abbrev after : ℕ → List ℕ
after n = codes " refused " ++ decimal n ++ codes "\n"

reads : (number n : ℕ) → codes "record " ++ decimal number ++ after n ≡ text (Line.Record number n)
unfolding text_with
reads number n = simp append_assoc

pub put_numbered-requires : goal.put_numbered-requires
put_numbered-requires c =
    let a = c.args in
    room_after a.buf.now a.at (codes "record " ++ decimal a.number) (after a.n) (room_as a.buf.now a.at (reads a.number a.n) c.requires) c.put_number-a.ensures

pub returns : goal.returns
returns c =
    let a = c.args in
    join_as a.buf.now a.at (codes "record " ++ decimal a.number) (after a.n) (reads a.number a.n) c.requires c.put_number-a.ensures c.put_numbered.ensures
