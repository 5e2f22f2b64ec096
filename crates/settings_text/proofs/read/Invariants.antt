-- What the loop keeps true.
use mathlib.Core.Path.{◌≡◌}
use Prim.Native.Nat.{◌+◌, ◌-◌, ◌≤◌}
use lib.ListN.{length, drop}
use Rattle.settings.specs.Store.{no_store_meant}
use Rattle.lines.specs.Text.{lines_of, beginning}
use Rattle.settings_text.specs.Sheet.{lines_from}
use Rattle.settings_text.proofs.read.Given as goal

abbrev pub invariant-loop-store : goal.invariant-loop-store
invariant-loop-store l =
    (l.from ≤ length l.text) × (l.number ≤ l.from + 1) × (lines_from no_store_meant 1 (lines_of (drop (beginning l.text) l.text)) ≡ lines_from l.store l.number (lines_of (drop l.from l.text)))

abbrev pub decreases-loop-store : goal.decreases-loop-store
decreases-loop-store l = length l.text - l.from
