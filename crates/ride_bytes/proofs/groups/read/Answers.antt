-- Balise after balise, the count and the last place.
-- Assumes nothing.
use mathlib.Core.Path.{◌≡◌, ap, ◌∙◌}
use Prim.Native.Nat.{ℕ, ◌%◌}
use mathlib.Core.List.{List}
use Rattle.state_bytes.specs.Figures.{each}
use Rattle.group.specs.declared.Balise.{Balise}
use Rattle.group.specs.declared.Group.{Group}
use Rattle.ride_bytes.proofs.Back.{five}
use Rattle.ride_bytes.proofs.groups.read.Goals as goal

grouped : (k k' : List Balise) (n n' l l' : ℕ) → k ≡ k' → n ≡ n' → l ≡ l'
    → ◌≡◌ {A = Group} (record { kept = k; count = n; last = l }) (record { kept = k'; count = n'; last = l' })
grouped k k' n n' l l' p q r = cc

pub returns : goal.returns
unfolding each
returns c =
    grouped _ _ _ _ _ _
    (five _ _ _ _ _ _ _ _ _ _ c.balise_at.ensures c.balise_at-2.ensures c.balise_at-3.ensures c.balise_at-4.ensures c.balise_at-5.ensures)
    (c.low8.ensures ∙ ap (λ (m : ℕ). m % 256) c.figure_at.ensures) (c.low32.ensures ∙ ap (λ (m : ℕ). m % 4294967296) c.figure_at-2.ensures)
