-- Linking reads back: distance and place have 32 bits.
-- Assumes nothing.
use mathlib.Core.Path.{sym, ap, ◌∙◌}
use mathlib.Core.List.{List, [], ◌∷◌}
use Prim.Native.Nat.{ℕ}
use native.Mathlib.Omega.{arith}
use Rattle.ride.specs.declared.Linking.{Linking}
use Rattle.ride_bytes.specs.Things.{distance_figure, from_figure, linking_of}
use Rattle.ride_bytes.proofs.Back.{linking_back}
use Rattle.ride_bytes.proofs.known.linking_figures.Goals as goal

-- both figures
both : Linking → List ℕ
both l = distance_figure l ∷ from_figure l ∷ []

pub returns-in-Unset : goal.returns-in-Unset
unfolding linking_of both
returns-in-Unset c = (ap both (sym c.in-Unset.is), sym c.in-Unset.is)

pub returns-in-Set : goal.returns-in-Set
unfolding both
returns-in-Set c =
    (ap both (sym c.in-Set.is), linking_back c.in-Set.distance c.in-Set.from (omega arith) (omega arith) ∙ sym c.in-Set.is)
