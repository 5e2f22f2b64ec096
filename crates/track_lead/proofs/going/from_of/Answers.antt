-- `from_of` takes ten off the first place, or as many as there are.
use Prim.Native.Nat.{◌-◌}
use mathlib.Core.Path.{◌≡◌, sym, ap, ◌∙◌}
use native.Mathlib.Omega.{arith}
use Rattle.track_lead.specs.Way.{from_of}
use Rattle.track_lead.proofs.going.from_of.Goals as goal

pub returns-then-place-lt10 : goal.returns-then-place-lt10
returns-then-place-lt10 c =
    let none : 0 ≡ c.in-At.place - 10 = omega arith in
    none ∙ ap from_of (sym c.in-At.is)

pub returns-else-place-lt10 : goal.returns-else-place-lt10
returns-else-place-lt10 c = ap from_of (sym c.in-At.is)
