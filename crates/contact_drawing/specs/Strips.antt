-- A contact as strips, as people know them from logic analysers: its bits as a waveform, high for 1
-- and low for 0, four units a bit; under them a box for each word of each telegram, S or S*, X, Y
-- and Z, and the line's number of the bit at which it stands. At most the first 2,000 bits are
-- drawn, in strips of 96, each with the first eight of the next: no word is whole in none.
-- Assumes nothing.
use Rattle.std.specs.Prelude.{ℕ, zero, suc, ◌+◌, ◌-◌, ◌*◌, ◌/◌, Bool, true, false, List, [], ◌∷◌, ◌++◌, eqb, ltb}
use Rattle.words.specs.Answer.{Outcome, gives, refuses, pick}
use Rattle.text.specs.Text.{codes, decimal}
use Rattle.telegram.specs.Stretch.{bit_at, bits_at}
use Rattle.telegram.specs.Place.{Single, find}
use Rattle.contact.specs.declared.Judged.{Judged}
use Rattle.antenna_text.specs.Lines.{shown, told_line, closed_before}

-- How many bits of a contact of so many are drawn.
unfoldable pub drawn : ℕ → ℕ
drawn length = pick (ltb 2000 length) 2000 length

-- What stands for each of the n numbers from i on, one after the other.
unfoldable pub each : (ℕ → List (List ℕ)) → ℕ → ℕ → List (List ℕ)
each f i zero = []
each f i (suc n) = f i ++ each f (i + 1) n

-- A bit of the waveform: the line goes to the bit's height, and four units on.
unfoldable pub level : ℕ → List ℕ
level bit = pick (eqb bit 0) (codes "V28h4") (codes "V16h4")

-- Bit i of the contact that begins at bit `first` of the buffer.
abbrev pub bit_of : List ℕ → ℕ → ℕ → List (List ℕ)
bit_of b first i = level (bit_at b (first + i)) ∷ []

-- The boxes of the telegram at bit p: S* or S stands first.
unfoldable pub boxes : List ℕ → ℕ → ℕ → List ℕ
boxes b p s = pick (eqb (bits_at b p 8) s) (codes "<use href='#t1' x='") (codes "<use href='#t2' x='")

-- Whether a search has found a place.
abbrev pub is_found : Outcome Single → Bool
is_found (gives single) = true
is_found (refuses n) = false

-- The boxes of the telegram at bit p of the buffer, which are drawn at x, and under them the line's
-- number of the bit.
unfoldable pub boxed : List ℕ → ℕ → ℕ → ℕ → ℕ → List (List ℕ)
boxed b p s x number =
    (boxes b p s ++ decimal x)
    ∷ (codes "'/><text y='62' x='" ++ decimal x)
    ∷ (codes "'>" ++ decimal (shown number))
    ∷ codes "</text>\n" ∷ []

-- What stands at bit i of the contact: if the forty bits from there on are a telegram, its boxes.
unfoldable pub telegram_of : List ℕ → ℕ → ℕ → ℕ → ℕ → ℕ → List (List ℕ)
telegram_of b first start s t i = pick (is_found (find b (first + i) 40 s t)) (boxed b (first + i) s (4 * i) (start + i)) []

-- The boxes of the telegrams among the first n bits of the contact.
unfoldable pub telegrams : List ℕ → ℕ → ℕ → ℕ → ℕ → ℕ → List (List ℕ)
telegrams b first start n s t = each (telegram_of b first start s t) 0 (n - 39)

-- The strip k of a contact, with the line's number of its first bit.
unfoldable pub strip : ℕ → ℕ → List (List ℕ)
strip start k =
    (codes "<svg viewBox='" ++ decimal (384 * k))
    ∷ (codes " 0 416 66'><use href='#e' x='" ++ decimal (384 * k))
    ∷ (codes "'/><use href='#c" ++ decimal start)
    ∷ (codes "'/><text y='10' x='" ++ decimal (384 * k))
    ∷ (codes "'>" ++ decimal (shown (start + 96 * k)))
    ∷ codes "</text></svg>\n" ∷ []

-- How many strips n bits have.
abbrev pub strips_of : ℕ → ℕ
strips_of n = (n + 95) / 96

-- What is said of a contact that has more bits than are drawn.
unfoldable pub cut_at : ℕ → List (List ℕ)
cut_at length =
    pick (ltb 2000 length) ((codes "<p>the first 2,000 of " ++ decimal length) ∷ codes " bits</p>\n" ∷ []) []

-- The n bits of a contact that begins at bit `first` of the buffer and at bit `start` of the line,
-- as one long waveform.
unfoldable pub waveform : List ℕ → ℕ → ℕ → ℕ → List (List ℕ)
waveform b first start n =
    ((codes "<svg class='h'><defs><g id='c" ++ decimal start) ∷ codes "'><path class='w' d='M0 28" ∷ [])
    ++ each (bit_of b first) 0 n
    ++ (codes "'/>\n" ∷ [])

-- The whole drawing of these bits, with these boxes: the waveform and the boxes under it as one
-- long picture, and the strips, of which each shows a part.
unfoldable pub picture_with : List (List ℕ) → List ℕ → ℕ → ℕ → ℕ → List (List ℕ)
picture_with boxes b first start n =
    waveform b first start n
    ++ (boxes
    ++ (codes "</g></defs></svg>\n" ∷ each (strip start) 0 (strips_of n)))

-- What stands in the page for the contact of so many bits that bit `end` of the line closes, with
-- these boxes: the line that is written for it, whether it was cut, and its strips. Its bits are
-- those of the buffer from bit `first` on.
unfoldable pub strips_with : List (List ℕ) → ℕ → ℕ → Judged → List ℕ → ℕ → List (List ℕ)
strips_with boxes end length judged b first =
    (codes "<h2>" ∷ told_line (closed_before end length judged) ∷ codes "</h2>\n" ∷ [])
    ++ cut_at length
    ++ picture_with boxes b first (end - length) (drawn length)

-- What stands there: the boxes are those of its telegrams.
unfoldable pub strips : ℕ → ℕ → Judged → List ℕ → ℕ → ℕ → ℕ → List (List ℕ)
strips end length judged b first s t = strips_with (telegrams b first (end - length) (drawn length) s t) end length judged b first
