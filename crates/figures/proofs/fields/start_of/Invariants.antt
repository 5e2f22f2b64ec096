-- What the loop keeps true.
use mathlib.Core.Path.{◌≡◌}
use Prim.Native.Nat.{◌+◌, ◌-◌, ◌≤◌}
use lib.ListN.{length, drop}
use Rattle.figures.specs.Fields.{start_of}
use Rattle.figures.proofs.fields.start_of.Given as goal

abbrev pub invariant-loop : goal.invariant-loop
invariant-loop l = (l.at ≤ length l.text) × (l.counter ≤ l.k) × (l.at + start_of (drop l.at l.text) l.sign (l.k - l.counter) ≡ start_of l.text l.sign l.k)
