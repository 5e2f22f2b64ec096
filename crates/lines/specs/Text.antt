-- A text (house): "One line for each thing, in order; words between blanks; `#` begins a comment;
-- blank lines are free; line ends LF or CRLF, a byte order mark is passed over." A text is the
-- codes of its characters.
-- Assumes nothing.
use Rattle.std.specs.Prelude.{ℕ, Bool, ◌&&◌, ◌||◌, List, [], ◌∷◌, eqb, leb, length, get_or, drop}
use Rattle.words.specs.Answer.{pick}

-- A blank: a space, a tab, or the CR that stands before the LF in some texts.
abbrev pub blank : ℕ → Bool
blank c = eqb c 32 || eqb c 9 || eqb c 13

-- The end of a line: LF.
abbrev pub newline : ℕ → Bool
newline c = eqb c 10

-- A comment begins with `#`.
abbrev pub hash : ℕ → Bool
hash c = eqb c 35

-- A text up to the first character of a kind.
unfoldable pub up_to : (ℕ → Bool) → List ℕ → List ℕ
up_to is [] = []
up_to is (c ∷ cs) = pick (is c) [] (c ∷ up_to is cs)

-- A character before the pieces that follow: it begins the first of them.
abbrev pub onto : ℕ → List (List ℕ) → List (List ℕ)
onto c [] = (c ∷ []) ∷ []
onto c (piece ∷ pieces) = (c ∷ piece) ∷ pieces

-- The pieces of a text between the characters of a kind, the empty ones too.
unfoldable pub cut : (ℕ → Bool) → List ℕ → List (List ℕ)
cut is [] = [] ∷ []
cut is (c ∷ cs) = pick (is c) ([] ∷ cut is cs) (onto c (cut is cs))

-- The lines of a text, each without its newline. After the last newline, or without one, comes a
-- line that may be empty.
abbrev pub lines_of : List ℕ → List (List ℕ)
lines_of = cut newline

-- Those pieces that are not empty.
unfoldable pub some : List (List ℕ) → List (List ℕ)
some [] = []
some ([] ∷ pieces) = some pieces
some ((c ∷ cs) ∷ pieces) = (c ∷ cs) ∷ some pieces

-- The words of a line: what stands between blanks, up to the comment.
unfoldable pub words_of : List ℕ → List (List ℕ)
words_of line = some (cut blank (up_to hash line))

-- Where a text begins: a byte order mark, EF BB BF in hex, is passed over.
unfoldable pub beginning : List ℕ → ℕ
beginning text =
    pick (leb 3 (length text) && (eqb (get_or text 0 0) 0xEF && eqb (get_or text 1 0) 0xBB && eqb (get_or text 2 0) 0xBF)) 3 0

-- The lines of a text as it lies in a file.
unfoldable pub lines_in : List ℕ → List (List ℕ)
lines_in text = lines_of (drop (beginning text) text)
