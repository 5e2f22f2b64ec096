-- What the loop keeps true.
use mathlib.Core.Path.{◌≡◌}
use Prim.Native.Nat.{◌+◌, ◌≤◌, max}
use lib.ListN.{length, drop}
use Rattle.figures.specs.Fields.{before, place_of}
use Rattle.figures.proofs.fields.place_of.Given as goal

abbrev pub invariant-loop-i : goal.invariant-loop-i
invariant-loop-i l = (l.i + before l.sign (drop l.i l.text) ≡ place_of l.text l.from l.sign) × (l.i ≤ max l.from (length l.text))
