-- A line read character by character, block after block. What it comes to is said in lines_laws.
-- Assumes nothing.
use Rattle.std.specs.Prelude.{ℕ, ◌+◌, ◌-◌, ◌*◌, Bool, true, false, ◌&&◌, ◌||◌, List, [], ◌∷◌, eqb, leb, ltb, drop, Option, None, Result, Ok, Err}
use Rattle.words.specs.Answer.{pick}
use Rattle.figures.specs.Figures.{between, hex}
use Rattle.figures.specs.declared.NotFigure.{NotFigure}
use Rattle.lines.specs.declared.Name.{Name}
use Rattle.lines.specs.declared.Word.{Word}
use Rattle.lines.specs.declared.TextLine.{TextLine}
use Rattle.lines.specs.declared.Letters.{Letters}
use Rattle.lines.specs.declared.Reader.{Reader}
use Rattle.lines.specs.declared.Got.{Got}
use Rattle.lines.specs.Text.{blank, newline, hash}
use Rattle.lines.specs.Words.{largest, no_words, kept}

-- A number with one digit more.
unfoldable pub digit_on : ℕ → ℕ → Result ℕ NotFigure
digit_on n digit = pick (leb (n * 10 + digit) largest) (Ok (n * 10 + digit)) (Err NotFigure.Above)

abbrev pub numbered : Result ℕ NotFigure → ℕ → Result ℕ NotFigure
numbered (Ok n) c = digit_on n (c - 48)
numbered (Err e) c = Err e

-- A number with one character more.
unfoldable pub number_on : Result ℕ NotFigure → ℕ → Result ℕ NotFigure
number_on number c = pick (between 48 57 c) (numbered number c) (Err NotFigure.Odd)

-- What stands for letters that no name has: 32^11.
abbrev pub no_name : ℕ
no_name = 36028797018963968

-- Letters with one character more, as a number with a digit for each, 1 to 26, of which there are
-- at most eleven.
unfoldable pub letters_on : ℕ → ℕ → ℕ
letters_on letters c = pick (between 97 122 c && ltb letters 1125899906842624) (letters * 32 + (c - 96)) no_name

-- No character yet.
unfoldable pub no_letters : Letters
no_letters = record { number = Ok 0; first = 0; second = 0; count = 0; letters = 0 }

-- A word with one character more.
unfoldable pub letter_on : Letters → ℕ → Letters
letter_on w c =
    let number : Result ℕ NotFigure = number_on w.number c in
    let letters : ℕ = letters_on w.letters c in
    pick (eqb w.count 0) (record { number = number; first = c; second = w.second; count = 1; letters = letters })
    (pick (eqb w.count 1) (record { number = number; first = w.first; second = c; count = 2; letters = letters })
    (record { number = number; first = w.first; second = w.second; count = 3; letters = letters }))

-- The letters of a word after those before it.
unfoldable pub spelled_on : ℕ → List ℕ → ℕ
spelled_on letters [] = letters
spelled_on letters (c ∷ cs) = spelled_on (letters_on letters c) cs

-- The name that letters make.
unfoldable pub named : ℕ → Name
named letters =
    pick (eqb letters 437857458) Name.Marker
    (pick (eqb letters 754888858438021) Name.Unreadable
    (pick (eqb letters 566509577710) Name.Position
    (pick (eqb letters 18487) Name.Raw
    (pick (eqb letters 647215148) Name.Signal
    (pick (eqb letters 24748959175) Name.Warning
    (pick (eqb letters 49884311716) Name.Annulled
    (pick (eqb letters 402885) Name.Line
    (pick (eqb letters 19388037) Name.Route Name.Other))))))))

-- The byte that two characters are, of a word with so many.
unfoldable pub byte_of : ℕ → ℕ → ℕ → Option ℕ
byte_of first second count = pick (eqb count 2) (hex (first ∷ second ∷ [])) None

-- What a word is, after its last character.
unfoldable pub done : Letters → Word
done w = record { number = w.number; byte = byte_of w.first w.second w.count; name = named w.letters }

-- Whether a character ends a word.
abbrev pub stops : ℕ → Bool
stops c = blank c || hash c

-- A line after the word that was being read, if there was one.
unfoldable pub closed : TextLine → Letters → TextLine
closed line w = pick (eqb w.count 0) line (kept line (done w))

-- Before the first character of a line.
unfoldable pub fresh : Reader
fresh = record { line = no_words; word = no_letters; comment = false }

-- One character more: in a comment none counts; a blank or `#` ends a word, and `#` begins the
-- comment.
unfoldable pub character : Reader → ℕ → Reader
character r c =
    pick r.comment r
    (pick (stops c)
    (record { line = closed r.line r.word; word = no_letters; comment = hash c })
    (record { line = r.line; word = letter_on r.word c; comment = false }))

-- What a line comes to that ends before this place, and one that goes on after it.
unfoldable pub whole : TextLine → Letters → ℕ → Got
whole line w next = record { line = closed line w; ends = true; next = next; reader = fresh }

unfoldable pub unfinished : TextLine → Letters → Bool → ℕ → Got
unfinished line w c next =
    record { line = closed line w; ends = false; next = next; reader = record { line = line; word = w; comment = c } }

-- A line read on from a place: up to the newline, or to the end of the block.
unfoldable pub line_from : Reader → List ℕ → ℕ → Got
line_from r [] at = unfinished r.line r.word r.comment at
line_from r (c ∷ cs) at = pick (newline c) (whole r.line r.word (at + 1)) (line_from (character r c) cs (at + 1))

-- Reading on in a block.
unfoldable pub next_line : Reader → List ℕ → ℕ → Got
next_line r text from = line_from r (drop from text) from
