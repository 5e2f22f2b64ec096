-- What the loop keeps true.
use Prim.Native.Nat.{ℕ, ◌/◌, ◌%◌, ◌<◌}
use mathlib.Core.Path.{◌≡◌}
use mathlib.Core.List.{List}
use lib.ListN.{length, get_or}
use Rattle.settings.specs.declared.Version.{Version}
use Rattle.settings.specs.Store.{no_version}
use Rattle.state_bytes.specs.Inside.{width_of}
use Rattle.state_bytes.specs.Stores.{version_figure}
use Rattle.state_bytes.proofs.stores.figures.Given as goal

-- the rule of the versions' figures
abbrev pub rule : List Version → ℕ → ℕ
rule versions j = version_figure (get_or versions (j / 4) no_version) (j % 4)

abbrev pub invariant-loop-j : goal.invariant-loop-j
invariant-loop-j l =
    (length l.figures ≡ 129) × ((i : ℕ) → i < l.j → get_or l.figures i 0 ≡ rule l.versions i)
    × ((i : ℕ) → i < l.j → rule l.versions i < width_of (i % 4))
