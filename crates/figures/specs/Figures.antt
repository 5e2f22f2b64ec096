-- Figures as they stand on a command line: numbers in decimal, words as two hex digits of either
-- case. A text is the codes of its characters (ASCII).
-- Assumes nothing.
use Rattle.std.specs.Prelude.{ℕ, ◌+◌, ◌-◌, ◌*◌, Bool, true, ◌&&◌, List, [], ◌∷◌, eqb, leb, ltb, length, get_or, Result, Ok, Err, Option, Some, None}
use Rattle.words.specs.Answer.{pick}
use Rattle.figures.specs.declared.NotFigure.{NotFigure}

-- Whether a character lies between two others.
abbrev pub between : ℕ → ℕ → ℕ → Bool
between low high c = leb low c && leb c high

-- Whether all characters are decimal digits.
unfoldable pub all_digits_meant : List ℕ → Bool
all_digits_meant [] = true
all_digits_meant (c ∷ cs) = between 48 57 c && all_digits_meant cs

-- The number whose digits so far make n, continued by the digits of a text.
unfoldable pub continued : ℕ → List ℕ → ℕ
continued n [] = n
continued n (c ∷ cs) = continued (n * 10 + (c - 48)) cs

-- What a text is as a number, of which `most` is the largest asked for: that number (`Ok n`);
-- above it, however long the text is (`Above`); or no number (`Odd`). A text of digits, at least
-- one, is a number.
unfoldable pub decimal : List ℕ → ℕ → Result ℕ NotFigure
decimal text most =
    pick (ltb 0 (length text) && all_digits_meant text)
    (pick (leb (continued 0 text) most) (Ok (continued 0 text)) (Err NotFigure.Above))
    (Err NotFigure.Odd)

-- The value of a hex digit of either case, or 16 for any other character.
unfoldable pub hex_digit : ℕ → ℕ
hex_digit c = pick (between 48 57 c) (c - 48) (pick (between 97 102 c) (c - 87) (pick (between 65 70 c) (c - 55) 16))

-- What a text is as a word: a byte (`Some b`), or no word (`None`). A text of two hex digits is a
-- word, the first its high half.
unfoldable pub hex : List ℕ → Option ℕ
hex text =
    let high : ℕ = hex_digit (get_or text 0 0) in
    let low : ℕ = hex_digit (get_or text 1 0) in
    pick (eqb (length text) 2 && ltb high 16 && ltb low 16) (Some (high * 16 + low)) None
