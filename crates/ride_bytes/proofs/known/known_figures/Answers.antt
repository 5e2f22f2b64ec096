-- Figure by figure; each reads back.
-- Assumes nothing.
use mathlib.Core.Path.{◌≡◌, ap}
use Prim.Native.Nat.{ℕ, ◌%◌}
use mathlib.Core.List.{List, [], ◌∷◌}
use native.Mathlib.Omega.{arith}
use lib.ListN.{get_or}
use Rattle.group.specs.declared.Number.{Number}
use Rattle.group.specs.declared.Told.{Told}
use Rattle.ride.specs.declared.Linking.{Linking}
use Rattle.ride.specs.declared.Known.{Known}
use Rattle.ride_bytes.specs.Rides.{known_figures}
use Rattle.ride_bytes.proofs.known.known_figures.Goals as goal

six : (o a b c d e a' b' c' d' e' : ℕ) → a ≡ a' → b ≡ b' → c ≡ c' → d ≡ d' → e ≡ e'
    → ◌≡◌ {A = List ℕ} (o ∷ a ∷ b ∷ c ∷ d ∷ e ∷ []) (o ∷ a' ∷ b' ∷ c' ∷ d' ∷ e' ∷ [])
six o a b c d e a' b' c' d' e' p q r s t = cc

knows : (l l' : Linking) (m m' t t' : Told) (n n' : Number) → l ≡ l' → m ≡ m' → t ≡ t' → n ≡ n'
    → ◌≡◌ {A = Known} (record { linking = l; main = m; target = t; number = n }) (record { linking = l'; main = m'; target = t'; number = n' })
knows l l' m m' t t' n n' p q r s = cc

pub returns : goal.returns
unfolding known_figures
returns c =
    let low : c.args.ride.odometer % 4294967296 ≡ c.args.ride.odometer = omega arith in record { value = six _ _ _ _ _ _ _ _ _ _ _ (ap (λ (f : List ℕ). get_or f 0 0) c.linking_figures-l.ensures.0) (ap (λ (f : List ℕ). get_or f 1 0) c.linking_figures-l.ensures.0) c.told_figure.ensures.0 c.told_figure-2.ensures.0 c.number_figure.ensures.0; odometer_value = (low, knows _ _ _ _ _ _ _ _ c.linking_figures-l.ensures.1 c.told_figure.ensures.1 c.told_figure-2.ensures.1 c.number_figure.ensures.1) }
