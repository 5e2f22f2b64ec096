-- `version_of` takes the four words apart one after the other.
use Rattle.settings_text.specs.Line.{version}
use Rattle.settings_text.proofs.line.version_of.Goals as goal

pub returns-in_default : goal.returns-in_default
unfolding version
returns-in_default c = simp c.in_default.is

pub returns-in_default-gap : goal.returns-in_default-gap
unfolding version
returns-in_default-gap c = simp (c.in-Some.is, c.in_default-gap.is)

pub returns-in_default-s : goal.returns-in_default-s
unfolding version
returns-in_default-s c =
    simp (c.in-Some.is, c.in-Some-gap.is, c.in_default-s.is)

pub returns-in_default-t : goal.returns-in_default-t
unfolding version
returns-in_default-t c =
    simp (c.in-Some.is, c.in-Some-gap.is, c.in-Some-s.is, c.in_default-t.is)

pub returns : goal.returns
unfolding version
returns c =
    simp (c.in-Some.is, c.in-Some-gap.is, c.in-Some-s.is, c.in-Some-t.is)
