-- What the loop keeps true.
use mathlib.Core.Path.{◌≡◌}
use Prim.Native.Nat.{ℕ, ◌+◌, ◌-◌}
use Rattle.settings.specs.declared.Store.{Store}
use Rattle.settings.proofs.Holding.{Holding}
use Rattle.ride.specs.declared.Ride.{Ride}
use mathlib.Core.List.{List}
use Rattle.viewer.specs.declared.Standing.{Standing}
use Rattle.viewer.specs.Going.{after, forwards}
use Rattle.viewer.proofs.going.over.Given as goal

-- where the loop has come
abbrev pub here : ℕ → ℕ → Ride → List Ride → Store → Standing
here number kept ride last store = record { number = number; kept = kept; ride = ride; last = last; settings = store }

abbrev pub invariant-loop-made : goal.invariant-loop-made
invariant-loop-made l =
    Holding l.store l.held
    × (after l.made (forwards (l.times - l.made) l.trace (here (l.from.number + l.made) l.kept l.now l.last l.store)) ≡ forwards l.times l.trace (here l.from.number l.initial.kept l.initial.now l.initial.last l.store))
