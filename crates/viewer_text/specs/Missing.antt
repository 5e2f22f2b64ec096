-- What is said where no further line of the ride has the word that was asked for.
-- Assumes nothing.
use Rattle.std.specs.Prelude.{ℕ, List, map, ◌++◌, ltb}
use Rattle.words.specs.Answer.{pick}
use Rattle.text.specs.Text.{codes}

-- A sign as every terminal shows it: one that none shows, or that would move or clear what stands
-- there (below the space, or past the tilde), as a question mark.
unfoldable pub visible : ℕ → ℕ
visible c = pick (ltb c 32) 63 (pick (ltb 126 c) 63 c)

-- The line that says it: `no further line has fault`.
unfoldable pub no_line : List ℕ → List ℕ
no_line word = codes "no further line has " ++ map visible word ++ codes "\n"
