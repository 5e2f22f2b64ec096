-- `put_missed` puts the place, and the word after it.
use Rattle.text.specs.Text.{codes, decimal}
use Rattle.text.proofs.Standing.{join}
use Rattle.ride_text.specs.Text.{text_with}
use Rattle.ride_text.proofs.lines.put_missed.Goals as goal

pub returns : goal.returns
unfolding text_with
returns c =
    let a = c.args in
    join a.buf.now a.at (decimal a.place) (codes " missed\n") c.requires c.put_number-a.ensures c.put.ensures
