-- A printed line reads back: words with single blanks between them and a comment after them are
-- those words, and a number in decimal is that number. Shown in proofs/Printed.antt and
-- proofs/Numbers.antt.
-- Assumes nothing.
use Rattle.std.specs.Prelude.{ℕ, ◌≤◌, ◌<◌, ◌≡◌, Bool, true, not, ◌&&◌, ◌||◌, List, [], ◌∷◌, ◌++◌, length, Ok}
use Rattle.text.specs.Text.{decimal}
use Rattle.lines.specs.Text.{blank, newline, hash, words_of}
use Rattle.lines.specs.Words.{largest, number}
use Rattle.lines_laws.specs.Laws.{OneLine}

-- Whether no character is a blank, a `#` or the end of a line.
unfoldable pub plain : List ℕ → Bool
plain [] = true
plain (c ∷ cs) = not (blank c || hash c || newline c) && plain cs

-- A word that can be printed.
abbrev pub AWord : List ℕ → Type 0
AWord w = (0 < length w) × (plain w ≡ true)

abbrev pub Words : List (List ℕ) → Type 0
Words [] = Unit
Words (w ∷ ws) = AWord w × Words ws

-- Words, each after a blank, and what follows them.
abbrev pub spaced : List (List ℕ) → List ℕ → List ℕ
spaced [] end = end
spaced (w ∷ ws) end = 32 ∷ (w ++ spaced ws end)

-- A line of words with a comment, ` #` and what follows: it has no end of a line in it, and its
-- words are those that were printed.
abbrev pub WordsBack : Type 0
WordsBack =
    (w : List ℕ) (ws : List (List ℕ)) (comment : List ℕ) → AWord w → Words ws → OneLine comment
    → OneLine (w ++ spaced ws (32 ∷ 35 ∷ comment)) × (words_of (w ++ spaced ws (32 ∷ 35 ∷ comment)) ≡ w ∷ ws)

-- A number that is printed is a word, and is read as that number.
pub record NumbersBack : Type 0 where
  pub a_word : (n : ℕ) → AWord (decimal n)
  pub reads : (n : ℕ) → n ≤ largest → number (decimal n) ≡ Ok n
