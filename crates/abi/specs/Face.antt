-- How an answer becomes C's numbers: the number that a call returns, and what it leaves in an array
-- that it was lent.
-- Assumes nothing.
use Rattle.std.specs.Prelude.{ℕ, ◌+◌, ◌*◌, ◌%◌, List, [], ◌∷◌, ℤ, pos, neg_ℤ, eqb}
use Rattle.words.specs.Answer.{Answer, Outcome, gives, refuses, pick}
use Rattle.words.specs.Why.{Ones, are, unsaid, Why, why}
use Rattle.words.specs.Code.{read_short, read_long}
use Rattle.words.specs.declared.Parity.{Parity}
use Rattle.telegram.specs.Telegram.{Received, bad_word}
use Rattle.telegram.specs.declared.Telegram.{Telegram}
use Rattle.telegram.specs.declared.Word.{Word}
use Rattle.telegram.specs.Place.{Single, at}

-- What a call returns: the number of what is given; refusal n is -n.
abbrev pub returned : {A : Type 0} → (A → ℕ) → Outcome A → ℤ
returned number_of (gives x) = pos (number_of x)
returned number_of (refuses n) = neg_ℤ (pos n)

-- What a call leaves in a lent array: what is put there of what is given; a refusal leaves it as it
-- was.
abbrev pub left : {A : Type 0} → (A → List ℕ → List ℕ) → Outcome A → List ℕ → List ℕ
left put (gives x) before = put x before
left put (refuses n) before = before

-- A figure, a word or a distance is its own number.
abbrev pub itself : ℕ → ℕ
itself x = x

-- A telegram as one number: X * 65536 + Y * 256 + Z, or 12 * 65536 + the number of a number balise.
abbrev pub as_one : Telegram → ℕ
as_one (Telegram.Figures x y z) = x * 65536 + y * 256 + z
as_one (Telegram.Number m) = 12 * 65536 + m

-- What three words read, as an answer; which word was refused, and whether its ones were odd or
-- even, is not told.
abbrev pub told : Received → Outcome Telegram
told (gives m) = gives m
told (refuses (bad_word word (why n ones))) = refuses n

-- The number of a word's letter.
abbrev pub letter_number : Word → ℕ
letter_number Word.X = 1
letter_number Word.Y = 2
letter_number Word.Z = 3
letter_number Word.YZ = 4

-- The number of what is said of its ones: 0 nothing, 1 odd, 2 even.
abbrev pub ones_number : Ones → ℕ
ones_number unsaid = 0
ones_number (are Parity.Odd) = 1
ones_number (are Parity.Even) = 2

-- Why three words are refused, as one number: 0 if they read, else the refusal's number + 16 * the
-- letter of the bad word + 256 * its parity.
abbrev pub why_number : Received → ℕ
why_number (gives m) = 0
why_number (refuses (bad_word word (why n ones))) = n + 16 * letter_number word + 256 * ones_number ones

-- A received word read: a long one, or the short one in its low byte.
abbrev pub word_read : ℕ → ℕ → Answer Why ℕ
word_read word isLong = pick (eqb isLong 0) (read_short (word % 256)) (read_long word)

-- Why a word is refused, as one number: 0 if it reads, else the refusal's number + 256 * its
-- parity.
abbrev pub word_number : Answer Why ℕ → ℕ
word_number (gives x) = 0
word_number (refuses (why n ones)) = n + 256 * ones_number ones

-- A place is returned as 0 ..
abbrev pub found_number : Single → ℕ
found_number place = 0

-- .. and put into `out`: where it is, and its telegram. (A place's words are accepted: the second
-- line is never met.)
abbrev pub found_put : Single → List ℕ → List ℕ
found_put (at place (gives m)) before = place ∷ as_one m ∷ []
found_put (at place (refuses b)) before = before
