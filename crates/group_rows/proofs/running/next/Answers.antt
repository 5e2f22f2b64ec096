-- By the case of the stand.
-- Assumes nothing.
use Rattle.group_rows.proofs.running.next.Goals as goal

pub returns-in-Before : goal.returns-in-Before
returns-in-Before c = rw c.in-Before.is c.next.ensures

pub returns-in-Must : goal.returns-in-Must
returns-in-Must c =
    rw (c.in-After.is, c.in-Must.is) c.must_next.ensures

pub returns-in-May : goal.returns-in-May
returns-in-May c =
    rw (c.in-After.is, c.in-May.is) c.may_next.ensures
