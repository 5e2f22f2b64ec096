-- What is promised of the drawing of a contact: where a program lends the room, nothing is left
-- out; a box stands at each place that the contact's judging finds among the bits drawn, and
-- nowhere else; each word is whole on a strip; and no heading needs an escape.
-- Assumes nothing.
use Rattle.std.specs.Prelude.{ℕ, ◌+◌, ◌-◌, ◌*◌, ◌/◌, ◌≤◌, ◌<◌, ◌≡◌, Bool, true, not, ◌&&◌, List, [], ◌∷◌, ◌++◌, eqb, leb, length}
use Rattle.text.specs.Put.{placed, came}
use Rattle.text.specs.Pieces.{puts, whole}
use Rattle.telegram.specs.Stretch.{bit_at, inside}
use Rattle.telegram.specs.Sync.{is_good}
use Rattle.telegram.specs.Place.{those, places}
use Rattle.contact.specs.declared.Judged.{Judged}
use Rattle.antenna_text.specs.Lines.{told_line, closed_before, end_line}
use Rattle.contact_drawing.specs.Strips.{drawn, boxed, telegrams, strips_of, strips_with, strips}

-- ---- nothing is left out

-- One call of `draw`: what it is asked, the lent buffer before and after it, and its answer.
pub record Call : Type 0 where
  pub end : ℕ
  pub bits : ℕ
  pub judged : Judged
  pub kept : List ℕ
  pub first : ℕ
  pub s : ℕ
  pub t : ℕ
  pub before : List ℕ
  pub at : ℕ
  pub next : ℕ
  pub after : List ℕ

-- What is to stand in the page.
abbrev pub asked : Call → List (List ℕ)
asked c = strips c.end c.bits c.judged c.kept c.first c.s c.t

-- The contract of `draw` allows it.
abbrev pub Allowed : Call → Type 0
Allowed c = came c.next c.after ≡ puts (asked c) c.before c.at

-- The buffer that a program lends: 262,144 bytes, of which at most 32,768 are used.
pub record Lent (c : Call) : Type 0 where
  pub room : length c.before ≡ 262144
  pub used : c.at ≤ 32768

-- In such a buffer everything stands from the place given on, to the letter, and the answer is the
-- place after it.
pub record Roomy : Type 0 where
  pub all : (c : Call) → Allowed c → Lent c
      → (c.next ≡ c.at + length (whole (asked c))) × (c.after ≡ placed (whole (asked c)) c.before c.at)

-- ---- a box at each place

-- The places of a contact whose forty bits are drawn, among all that its judging finds.
unfoldable pub drawn_places : List ℕ → ℕ → ℕ → ℕ → ℕ → List ℕ
drawn_places line start length s t = those (λ p. leb (p + 40) (start + drawn length)) (places line start length s t)

-- The boxes of some places of the line, in the picture of the contact that begins at bit `start`:
-- each at its bit, four units a bit, with the line's number of the bit.
unfoldable pub boxes_at : List ℕ → ℕ → ℕ → List ℕ → List (List ℕ)
boxes_at line start s [] = []
boxes_at line start s (p ∷ ps) = boxed line p s (4 * (p - start)) p ++ boxes_at line start s ps

-- The n bits of a buffer from bit `first` on are those of the line from bit `start` on.
pub record Holds (kept : List ℕ) (first : ℕ) (line : List ℕ) (start n : ℕ) : Type 0 where
  pub bits : (i : ℕ) → i < n → bit_at kept (first + i) ≡ bit_at line (start + i)
  pub taken : inside kept first n ≡ true

-- The boxes drawn are those of the places, each once and in order, where the buffer holds the bits
-- that are drawn; and where there is room, what `draw` leaves in the page has these boxes.
pub record Boxed : Type 0 where
  pub at_places : (line kept : List ℕ) (first start length s t : ℕ) → is_good s t ≡ true → Holds kept first line start (drawn length)
      → telegrams kept first start (drawn length) s t ≡ boxes_at line start s (drawn_places line start length s t)
  pub in_the_page : (c : Call) (line : List ℕ) → Allowed c → Lent c → is_good c.s c.t ≡ true → Holds c.kept c.first line (c.end - c.bits) (drawn c.bits) →
      let boxes = boxes_at line (c.end - c.bits) c.s (drawn_places line (c.end - c.bits) c.bits c.s c.t) in
      c.after ≡ placed (whole (strips_with boxes c.end c.bits c.judged c.kept c.first)) c.before c.at

-- ---- each word on a strip

-- The eight bits from bit i on of the n that are drawn lie whole on the strip with the number
-- i / 96, which is drawn: it shows 416 units, from 384 times its number on.
pub record OnAStrip : Type 0 where
  pub word : (i n : ℕ) → i + 8 ≤ n → (i / 96 < strips_of n) × (384 * (i / 96) ≤ 4 * i) × (4 * (i + 8) ≤ 384 * (i / 96) + 416)

-- ---- no heading needs an escape

-- Whether a byte stands for itself between tags: it is no `<` and no `&`.
abbrev pub is_plain : ℕ → Bool
is_plain c = not (eqb c 60) && not (eqb c 38)

-- Whether all bytes of a text do.
unfoldable pub are_plain : List ℕ → Bool
are_plain [] = true
are_plain (c ∷ cs) = is_plain c && are_plain cs

-- They do in the line of a contact, which is its heading and stands in the listing, and in the line
-- of the end.
pub record NoEscape : Type 0 where
  pub lines : (end bits : ℕ) (judged : Judged) → are_plain (told_line (closed_before end bits judged)) ≡ true
  pub ending : (cut : Bool) → are_plain (end_line cut) ≡ true
