-- A fresh tape and a fresh ride, and the first record has the number 1.
use Rattle.lead_text.specs.List as listing
use Rattle.lead_text.proofs.fresh.Goals as goal

pub returns : goal.returns
unfolding listing.fresh
returns c = simp (c.fresh-tape.ensures, c.fresh-ride.ensures)
