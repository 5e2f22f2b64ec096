-- A marker over the antenna.
-- "A marker sends zeroes." "At least 64 bits long and made of zeroes followed by at most 11 ones:
-- marker" (document 01, "Contacts and readings")
-- Assumes nothing.
use Rattle.std.specs.Prelude.{ℕ, ◌+◌, ◌-◌, ◌≤◌, ◌<◌, ◌≡◌, true, List, leb}
use Rattle.words.specs.Answer.{pick}
use Rattle.telegram.specs.Stretch.{bit_at, inside}
use Rattle.telegram.specs.Sync.{is_good}
use Rattle.contact.specs.Contacts.{Contacts, contact, quiet}
use Rattle.contact.specs.declared.Search.{Search}
use Rattle.contact.specs.declared.Judged.{Judged}
use Rattle.contact_laws.specs.Calls.{Listened, JudgeContact}
use Rattle.contact_laws.specs.Pass.{Ones, between}

-- The fewest zeroes that are a marker: with the eighth the contact opens, and eleven ones after
-- them belong to it.
abbrev pub sixty : ℕ
sixty = 60

-- Between bit `from` and bit `to`: ones, `len` zeroes from bit `start` on, and ones again, at least
-- twelve.
pub record MarkerPass (b : List ℕ) (start len from to : ℕ) : Type 0 where
  pub zeroes_there : (i : ℕ) → i < len → bit_at b (start + i) ≡ 0
  pub from_low : from ≤ start
  pub to_high : start + len + between ≤ to
  pub ones_before : Ones b from start
  pub ones_after : Ones b (start + len) to
  pub taken : inside b from (to - from) ≡ true

-- The contact of a marker of `len` zeroes is judged one exactly if there are sixty or more; else it
-- is refused with 8.
abbrev pub FromSixty : List ℕ → ℕ → ℕ → Type 0
FromSixty b start len =
    (s t : ℕ) → is_good s t ≡ true → (a : Judged) → JudgeContact b (start + 7) (len + 4) s t a → a ≡ pick (leb sixty len) Judged.Marker Judged.Neither

-- With eight zeroes or more exactly one contact opens, with the eighth of them, and closes with the
-- twelfth of the ones.
abbrev pub MarkerHeard : Type 0
MarkerHeard =
    (b : List ℕ) (start len from to : ℕ) → MarkerPass b start len from to → 8 ≤ len → (w : Contacts) → Listened b from to w
    → ((then : Search) × (w ≡ contact (start + 7) (len + 4) then quiet)) × FromSixty b start len
