-- What the loop keeps true.
use mathlib.Core.Path.{◌≡◌}
use Rattle.lead_noise.specs.Generator.{drawn}
use Rattle.lead_noise.proofs.Bytes.{top, heard_bit}
use Rattle.lead_noise.proofs.byte.with_noise.Given as goal

abbrev pub invariant-loop-i : goal.invariant-loop-i
invariant-loop-i l = (l.here ≡ drawn l.x l.i) × (l.made ≡ top (heard_bit l.x l.chance l.byte) l.i)
