-- A refusal as it stands in a line of our own: its number, and the documents' words for it
-- (`refused 22: no state is kept to go back to`).
-- Assumes nothing.
use Rattle.std.specs.Prelude.{ℕ, List, [], ◌∷◌, ◌++◌, eqb}
use Prim.Native.String.{String}
use Rattle.words.specs.Answer.{pick}
use Rattle.text.specs.Text.{codes, decimal}

-- The words of documents 01 and 02, by number.
unfoldable pub table : List (ℕ × String)
table =
    (2, "figure to write above 15 or above 2,047")
    ∷ (3, "a short word of a telegram reads 15")
    ∷ (4, "sync pair doesn't differ in seven bits")
    ∷ (5, "above 16,777,216 bits")
    ∷ (7, "places differ")
    ∷ (8, "contact neither telegram nor marker")
    ∷ (9, "contact cut by the end of the record")
    ∷ (16, "trace length not a multiple of 8")
    ∷ (17, "odometer below the last accepted one")
    ∷ (18, "odometer above 4,000,000,000")
    ∷ (19, "gap outside 1 to 200")
    ∷ (20, "number of telegrams outside 2 to 1,000")
    ∷ (22, "no state is kept to go back to")
    ∷ (23, "no further record")
    ∷ (24, "place not above the last one")
    ∷ (25, "more than 32 versions")
    ∷ (26, "bad plan record, length or count above 64")
    ∷ (27, "entries out of order or too near")
    ∷ (28, "tolerance above 500")
    ∷ []

-- The words of a number after a colon, by a table; nothing for a number that it does not have.
unfoldable pub worded : List (ℕ × String) → ℕ → List ℕ
worded [] n = []
worded (row ∷ rows) n = pick (eqb n row.0) (codes ": " ++ codes row.1) (worded rows n)

-- A number without words.
unfoldable pub alone : ℕ → List ℕ
alone n = codes "refused " ++ decimal n ++ codes "\n"

-- A refusal up to the end of its line.
unfoldable pub refused : ℕ → List ℕ
refused n = codes "refused " ++ decimal n ++ worded table n ++ codes "\n"
