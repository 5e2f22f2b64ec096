-- A word in a text, whichever letters are capitals (`/fault`).
-- Assumes nothing.
use Rattle.std.specs.Prelude.{ℕ, zero, suc, ◌+◌, ◌-◌, Bool, true, false, ◌&&◌, ◌||◌, List, eqb, ltb, length, get_or}
use Rattle.words.specs.Answer.{pick}

-- The small letter of a capital; any other sign as it is.
unfoldable pub small : ℕ → ℕ
small c = pick (ltb c 65) c (pick (ltb 90 c) c (c + 32))

-- Whether the first k letters of a word stand in a text from a place on.
unfoldable pub stands_at : List ℕ → ℕ → List ℕ → ℕ → Bool
stands_at text at word zero = true
stands_at text at word (suc k) = eqb (small (get_or text (at + k) 0)) (small (get_or word k 0)) && stands_at text at word k

-- Whether a word stands at one of the first n places of a text.
unfoldable pub stands_before : List ℕ → List ℕ → ℕ → Bool
stands_before text word zero = false
stands_before text word (suc n) = stands_at text n word (length word) || stands_before text word n

-- Whether a text has a word.
unfoldable pub has : List ℕ → List ℕ → Bool
has text word = stands_before text word (length text + 1 - length word)
