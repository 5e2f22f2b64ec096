-- Lengths in a page, in metres with one decimal.
-- Assumes nothing.
use Rattle.std.specs.Prelude.{ℕ, ◌/◌, ◌%◌, List, [], ◌∷◌, ◌++◌}
use Rattle.text.specs.Text.{codes, decimal}

-- Words and decimetres in metres, with one decimal: `x='123.4`.
abbrev pub metres : List ℕ → ℕ → List (List ℕ)
metres words dm = (words ++ decimal (dm / 10)) ∷ (codes "." ++ decimal (dm % 10)) ∷ []
