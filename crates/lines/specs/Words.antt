-- What a word is: a number, two hex digits, a name; and what is kept of the words of a line.
-- Assumes nothing.
use Rattle.std.specs.Prelude.{ℕ, ◌+◌, Bool, true, false, ◌&&◌, List, [], ◌∷◌, eqb, ltb, set, replicate, Result, Err, Some}
use Rattle.words.specs.Answer.{pick}
use Rattle.text.specs.Text.{codes}
use Rattle.figures.specs.Figures.{decimal, hex}
use Rattle.figures.specs.declared.NotFigure.{NotFigure}
use Rattle.lines.specs.declared.Name.{Name}
use Rattle.lines.specs.declared.Word.{Word}
use Rattle.lines.specs.declared.TextLine.{TextLine}
use Rattle.lines.specs.Text.{words_of}

-- The largest number that a place can be, 2^32 - 1; all above it are only that.
abbrev pub largest : ℕ
largest = 4294967295

-- A word as a number: decimal, "leading zeroes are free", "a figure of any length is a figure".
unfoldable pub number : List ℕ → Result ℕ NotFigure
number word = decimal word largest

-- Whether two words are the same.
unfoldable pub same : List ℕ → List ℕ → Bool
same [] [] = true
same [] (d ∷ ds) = false
same (c ∷ cs) [] = false
same (c ∷ cs) (d ∷ ds) = eqb c d && same cs ds

-- A word as a name.
unfoldable pub name : List ℕ → Name
name word =
    pick (same word (codes "marker")) Name.Marker
    (pick (same word (codes "unreadable")) Name.Unreadable
    (pick (same word (codes "position")) Name.Position
    (pick (same word (codes "raw")) Name.Raw
    (pick (same word (codes "signal")) Name.Signal
    (pick (same word (codes "warning")) Name.Warning
    (pick (same word (codes "annulled")) Name.Annulled
    (pick (same word (codes "line")) Name.Line
    (pick (same word (codes "route")) Name.Route Name.Other))))))))

-- What a word is.
unfoldable pub word_of : List ℕ → Word
word_of word = record { number = number word; byte = hex word; name = name word }

-- A place of a line that has no word.
abbrev pub no_word : Word
no_word = record { number = Err NotFigure.Odd; byte = Some 0; name = Name.Other }

-- A line without a word.
unfoldable pub no_words : TextLine
no_words = record { words = replicate 6 no_word; count = 0 }

-- A line with one word more: the first six are kept; of a seventh, and of all after it, only that
-- there is one.
unfoldable pub kept : TextLine → Word → TextLine
kept line word =
    pick (ltb line.count 6)
    (record { words = set line.words line.count word; count = line.count + 1 })
    (record { words = line.words; count = 7 })

-- A line with some words more.
unfoldable pub kept_all : TextLine → List (List ℕ) → TextLine
kept_all line [] = line
kept_all line (w ∷ ws) = kept_all (kept line (word_of w)) ws

-- What is kept of a line.
unfoldable pub line_of : List ℕ → TextLine
line_of line = kept_all no_words (words_of line)
