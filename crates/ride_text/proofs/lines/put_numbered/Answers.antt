-- `put_numbered` puts the words with the number, and the newline after them.
use mathlib.Core.List.{◌++◌}
use Rattle.text.specs.Text.{codes, decimal}
use Rattle.text.proofs.Standing.{join}
use Rattle.ride_text.proofs.lines.put_numbered.Goals as goal

pub returns : goal.returns
returns c =
    let a = c.args in
    join a.buf.now a.at (a.words.now ++ decimal a.n) (codes "\n") c.requires c.put_number-a.ensures c.put.ensures
