-- A store as bytes: place, gap, S and S* of each of its 32 versions, then the count.
-- Assumes nothing.
use Rattle.std.specs.Prelude.{ℕ, zero, suc, ◌+◌, ◌*◌, ◌/◌, ◌%◌, List, [], ◌∷◌, ◌++◌, get_or}
use Rattle.settings.specs.declared.Version.{Version}
use Rattle.settings.specs.declared.Store.{Store}
use Rattle.settings.specs.Store.{no_version}
use Rattle.state_bytes.specs.Figures.{each, spread, figure_at_meant}

-- Figure k of a version's four.
abbrev pub version_figure : Version → ℕ → ℕ
version_figure v zero = v.place
version_figure v (suc zero) = v.gap
version_figure v (suc (suc zero)) = v.s
version_figure v (suc (suc (suc k))) = v.t

-- The figures of a store of these versions and this count.
unfoldable pub figures_of : List Version → ℕ → List ℕ
figures_of versions count = each 128 (λ j. version_figure (get_or versions (j / 4) no_version) (j % 4)) ++ (count ∷ [])

-- A store as bytes.
unfoldable pub store_bytes : Store → List ℕ
store_bytes store = spread 1032 (figures_of store.versions store.count)

-- Version i of the store in some bytes: the low bits of its figures count, as many as a place, a
-- gap and a sync word have.
abbrev pub version_at : List ℕ → ℕ → Version
version_at bytes i =
    record {
      place = figure_at_meant bytes (4 * i) % 4294967296;
      gap = figure_at_meant bytes (4 * i + 1) % 4294967296;
      s = figure_at_meant bytes (4 * i + 2) % 256;
      t = figure_at_meant bytes (4 * i + 3) % 256;
    }

-- The store in some bytes.
unfoldable pub store_in : List ℕ → Store
store_in bytes = record { versions = each 32 (version_at bytes); count = figure_at_meant bytes 128 }
