-- Balises and markers one after the other, with at least twelve ones after each.
-- Assumes nothing.
use Rattle.std.specs.Prelude.{ℕ, ◌+◌, ◌-◌, ◌≤◌, ◌<◌, ◌≡◌, true, List, [], ◌∷◌}
use Rattle.telegram.specs.Stretch.{bit_at, inside}
use Rattle.telegram.specs.Sync.{is_good}
use Rattle.balise_line.specs.Line.{OneBalise, Proper, Clean}
use Rattle.contact.specs.Contacts.{Contacts, contact, quiet}
use Rattle.contact.specs.declared.Search.{Search}
use Rattle.contact.specs.declared.Judged.{Judged}
use Rattle.contact_laws.specs.Calls.{Listened, JudgeContact}
use Rattle.contact_laws.specs.Zeroes.{Audible}
use Rattle.contact_laws.specs.Pass.{Ones, between}
use Rattle.contact_laws.specs.Heard.{enough, OverIt, IsRead, NoFalse}
use Rattle.contact_laws.specs.Marker.{sixty}

-- What lies along the way: a balise, or a marker by its first bit and how many zeroes it sends.
pub data Thing : Type 0 where
  balise : OneBalise → Thing
  marker : ℕ → ℕ → Thing

-- Its first bit, and the first bit after it.
abbrev pub first_bit : Thing → ℕ
first_bit (balise o) = o.start
first_bit (marker start len) = start

abbrev pub first_after : Thing → ℕ
first_after (balise o) = o.start + o.len
first_after (marker start len) = start + len

-- What is passed in the buffer b is heard clean and for long enough: an audible balise for 167
-- bits, with no false place; a marker for sixty.
pub record Long (b : List ℕ) (o : OneBalise) : Type 0 where
  pub buffer_is : o.buffer ≡ b
  pub proper : Proper o
  pub audible : Audible o
  pub clean : Clean o
  pub long : enough ≤ o.len
  pub fair : NoFalse o

abbrev pub Passed : List ℕ → Thing → Type 0
Passed b (balise o) = Long b o
Passed b (marker start len) = (sixty ≤ len) × ((i : ℕ) → i < len → bit_at b (start + i) ≡ 0)

-- The things listed are passed one after the other, from bit i up to bit `to`, with `apart` ones
-- after each, and at last there are ones.
abbrev pub Row : ℕ → List ℕ → ℕ → ℕ → List Thing → Type 0
Row apart b i to [] = (i ≤ to) × Ones b i to
Row apart b i to (x ∷ xs) =
    Passed b x × (i ≤ first_bit x) × Ones b i (first_bit x) × (first_after x + apart ≤ to) × Ones b (first_after x) (first_after x + apart)
    × Row apart b (first_after x + apart) to xs

-- The first of the contacts is the thing's: the balise's is read, the marker's is judged a marker
-- with any good pair.
pub record MarkersOwn (b : List ℕ) (start len : ℕ) (w : Contacts) : Type 0 where
  pub then : Search
  pub rest : Contacts
  pub is : w ≡ contact (start + 7) (len + 4) then rest
  pub judged_so : (s t : ℕ) → is_good s t ≡ true → (a : Judged) → JudgeContact b (start + 7) (len + 4) s t a → a ≡ Judged.Marker

-- One contact for each thing, in order, and no other.
abbrev pub AsPassed : List ℕ → List Thing → Contacts → Type 0
AsPassed b [] w = w ≡ quiet
AsPassed b (balise o ∷ xs) w = (c : OverIt o w) × IsRead o w c × AsPassed b xs c.rest
AsPassed b (marker start len ∷ xs) w = (c : MarkersOwn b start len w) × AsPassed b xs c.rest

-- With twelve ones after each, all are heard.
abbrev pub RowHeard : Type 0
RowHeard =
    (b : List ℕ) (from to : ℕ) (xs : List Thing) → inside b from (to - from) ≡ true → Row between b from to xs
    → (w : Contacts) → Listened b from to w → AsPassed b xs w
