-- From the 9 and the 14 of the group.
-- Assumes nothing.
use Rattle.group.specs.Judge.{distance_of}
use Rattle.group.proofs.contents.distance_of.Goals as goal

pub returns : goal.returns
unfolding distance_of
returns c =
    rw (
      c.link_distance.ensures,
      c.z_sought.ensures,
      c.y_sought.ensures,
      c.first_of-c.ensures,
      c.first_of-b.ensures,
    )
