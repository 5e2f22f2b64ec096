-- Its two figures.
-- Assumes nothing.
use mathlib.Core.Path.{ap, ap₂, ◌∙◌}
use Prim.Native.Nat.{ℕ, ◌%◌}
use Rattle.group.specs.declared.Heard.{Heard}
use Rattle.group.specs.declared.Balise.{Balise}
use Rattle.ride_bytes.specs.Things.{heard_of}
use Rattle.ride_bytes.proofs.groups.balise_at.Goals as goal

abbrev made : ℕ → Heard → Balise
made p h = record { place = p; heard = h }

pub returns : goal.returns
returns c =
    ap₂ made (c.low32.ensures ∙ ap (λ (n : ℕ). n % 4294967296) c.figure_at.ensures) (c.heard_of.ensures ∙ ap heard_of c.figure_at-2.ensures)
