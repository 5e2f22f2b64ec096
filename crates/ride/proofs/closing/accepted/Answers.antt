-- `accepted` puts the line and what is known together.
use Rattle.ride.specs.Inside.{says_group_verdict}
use Rattle.ride.proofs.closing.accepted.Goals as goal

pub returns : goal.returns
unfolding says_group_verdict
returns c = rw (c.seen_from-seen.ensures, c.known_from-after.ensures)
