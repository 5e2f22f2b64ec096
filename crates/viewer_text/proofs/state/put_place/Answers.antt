-- `put_place` puts one number after the other.
use mathlib.Core.List.{◌++◌}
use Rattle.text.specs.Text.{codes, decimal}
use Rattle.text.proofs.Standing.{join_4}
use Rattle.viewer_text.specs.Pieces.{on_place}
use Rattle.viewer_text.proofs.state.put_place.Goals as goal

pub returns : goal.returns
unfolding on_place
returns c =
    let a = c.args in
    join_4 a.buf.now a.at (codes "" ++ decimal a.number) (codes " of " ++ decimal a.count) (codes ", kept " ++ decimal a.kept) (codes "\n  odometer " ++ decimal a.odometer) c.requires
    c.put_number-a.ensures c.put_number-b.ensures c.put_number-c.ensures c.put_number.ensures
