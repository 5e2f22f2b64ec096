-- Each from its figures.
-- Assumes nothing.
use mathlib.Core.Path.{◌≡◌, ap, ap₂, ◌∙◌}
use Rattle.group.specs.declared.Number.{Number}
use Rattle.group.specs.declared.Told.{Told}
use Rattle.ride.specs.declared.Linking.{Linking}
use Rattle.ride.specs.declared.Known.{Known}
use Rattle.ride_bytes.specs.Things.{told_of, number_of, linking_of}
use Rattle.ride_bytes.proofs.known.read.Goals as goal

knows : (l l' : Linking) (m m' t t' : Told) (n n' : Number) → l ≡ l' → m ≡ m' → t ≡ t' → n ≡ n'
    → ◌≡◌ {A = Known} (record { linking = l; main = m; target = t; number = n }) (record { linking = l'; main = m'; target = t'; number = n' })
knows l l' m m' t t' n n' p q r s = cc

pub returns : goal.returns
returns c =
    knows _ _ _ _ _ _ _ _
    (c.linking_of.ensures ∙ ap₂ linking_of c.figure_at.ensures c.figure_at-2.ensures)
    (c.told_of.ensures ∙ ap told_of c.figure_at-3.ensures) (c.told_of-2.ensures ∙ ap told_of c.figure_at-4.ensures)
    (c.number_of.ensures ∙ ap number_of c.figure_at-5.ensures)
