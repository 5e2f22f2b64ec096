-- What the loop keeps true.
use Rattle.lead_noise.proofs.SoFar.{SoFar}
use Rattle.lead_noise.proofs.going.over.Given as goal

abbrev pub invariant-loop-i : goal.invariant-loop-i
invariant-loop-i l = SoFar l.x l.chance l.initial.lead l.lead l.here l.i
