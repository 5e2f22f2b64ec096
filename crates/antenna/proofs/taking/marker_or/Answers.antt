-- As the test finds.
-- Assumes nothing.
use mathlib.Core.Path.{sym, ap}
use mathlib.Core.Bool.{Bool}
use Rattle.words.specs.Answer.{Outcome, gives, refuses, pick}
use Rattle.contact.specs.Judge.{Contact, marker}
use Rattle.antenna.specs.Sound.{marker_or}
use Rattle.antenna.proofs.taking.marker_or.Goals as goal

pub returns-then-length-ones : goal.returns-then-length-ones
unfolding marker_or
returns-then-length-ones c = ap (λ (x : Bool). pick {A = Outcome Contact} x (gives marker) (refuses 8)) (sym c.if-length-ones.true)

pub returns-else-length-ones : goal.returns-else-length-ones
unfolding marker_or
returns-else-length-ones c = ap (λ (x : Bool). pick {A = Outcome Contact} x (gives marker) (refuses 8)) (sym c.if-length-ones.false)
