-- The low bits of the version's four figures.
-- Assumes nothing.
use mathlib.Core.Path.{◌≡◌, ap, ◌∙◌}
use Prim.Native.Nat.{ℕ, ◌%◌}
use Rattle.settings.specs.declared.Version.{Version}
use Rattle.state_bytes.proofs.stores.version_at.Goals as goal

-- a version of these four
of_these : (p q g h s u t v : ℕ) → p ≡ q → g ≡ h → s ≡ u → t ≡ v
    → ◌≡◌ {A = Version} (record { place = p; gap = g; s = s; t = t }) (record { place = q; gap = h; s = u; t = v })
of_these p q g h s u t v a b c d = cc

pub returns : goal.returns
returns c =
    of_these _ _ _ _ _ _ _ _
    (c.low32.ensures ∙ ap (λ (n : ℕ). n % 4294967296) c.figure_at.ensures)
    (c.low32-2.ensures ∙ ap (λ (n : ℕ). n % 4294967296) c.figure_at-2.ensures)
    (c.low8.ensures ∙ ap (λ (n : ℕ). n % 256) c.figure_at-3.ensures)
    (c.low8-2.ensures ∙ ap (λ (n : ℕ). n % 256) c.figure_at-4.ensures)
