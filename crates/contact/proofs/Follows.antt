-- Of a search's contacts, those after the first are the contacts of the search that is handed out
-- with the first; and the first lies inside the search's stretch, with its closing bit right after
-- it.
-- Assumes nothing.
use Prim.Native.Nat.{ℕ, zero, suc, ◌+◌, ◌-◌, ◌≤◌, ◌<◌}
use mathlib.Core.Path.{◌≡◌, refl, sym, ◌∙◌}
use mathlib.Core.Bool.{Bool, true, false}
use mathlib.Core.List.{List}
use native.Mathlib.Omega.{arith}
use Rattle.words.specs.Answer.{pick}
use Rattle.telegram.specs.Stretch.{bit_at, inside}
use Rattle.contact.specs.History.{after, opens, closes}
use Rattle.contact.specs.Contacts.{Mode, outside, since, Contacts, contact, quiet, refused, contacts, contacts_from}
use Rattle.contact.specs.declared.Search.{Search}
use Rattle.telegram.proofs.Taken.{part_taken}

-- Of the contacts of the bits from low up to end: the first lies there, the bit after it closes it,
-- and the rest are those of the bits after that one.
abbrev Walked : List ℕ → ℕ → ℕ → Contacts → Type 0
Walked b low end (contact start length then rest) =
    (low ≤ start)
    × (0 < length)
    × (then.next ≡ start + length + 1)
    × (then.next + then.left ≡ end)
    × (rest ≡ contacts b outside then.history then.next then.left)
Walked b low end quiet = Unit
Walked b low end (refused n) = Unit

wider : (b : List ℕ) (low end low' end' : ℕ) → low' ≤ low → end ≡ end' → (w : Contacts) → Walked b low end w → Walked b low' end' w
wider b low end low' end' l e (contact start length then rest) h = (omega arith, h.1, h.2, h.3 ∙ e, h.4)
wider b low end low' end' l e quiet h = tt
wider b low end low' end' l e (refused n) h = tt

-- What holds of both ways on holds of the one taken.
pub either_way : (P : Contacts → Type 0) (t : Bool) (x y : Contacts) → P x → P y → P (pick t x y)
either_way P true x y p q = p
either_way P false x y p q = q

-- The first bit that a contact can have; inside a contact that is its opening bit, which has
-- passed.
abbrev lowest : Mode → ℕ → ℕ
lowest outside i = i
lowest (since start) i = start

-- A contact that is underway began before bit i.
abbrev pub Passed : Mode → ℕ → Type 0
Passed outside i = Unit
Passed (since start) i = start < i

walked : (b : List ℕ) (n : ℕ) (m : Mode) (h i : ℕ) → Passed m i → Walked b (lowest m i) (i + n) (contacts b m h i n)
unfolding contacts
walked b zero outside h i p = tt
walked b zero (since start) h i p = tt
walked b (suc n) outside h i p =
    let now = after h (bit_at b i) in
    let opened = contacts b (since i) now (i + 1) n in
    let on = contacts b outside now (i + 1) n in
    let e : i + 1 + n ≡ i + suc n = omega arith in
    either_way (Walked b i (i + suc n)) (opens now) opened on
    (wider b i (i + 1 + n) i (i + suc n) (omega arith) e opened (walked b n (since i) now (i + 1) (omega arith)))
    (wider b (i + 1) (i + 1 + n) i (i + suc n) (omega arith) e on (walked b n outside now (i + 1) tt))
walked b (suc n) (since start) h i p =
    let now = after h (bit_at b i) in
    let then : Search = record { next = i + 1; left = n; history = now } in
    let closed = contact start (i - start) then (contacts b outside now (i + 1) n) in
    let on = contacts b (since start) now (i + 1) n in
    let e : i + 1 + n ≡ i + suc n = omega arith in
    either_way (Walked b start (i + suc n)) (closes now) closed on
    (omega arith, omega arith, omega arith, e, refl)
    (wider b start (i + 1 + n) start (i + suc n) (omega arith) e on (walked b n (since start) now (i + 1) (omega arith)))

-- Of the contacts of a search: what was said above, and the first is itself a stretch that is
-- taken.
abbrev pub Follows : List ℕ → Search → Contacts → Type 0
Follows b s (contact start length then rest) =
    (s.next ≤ start)
    × (0 < length)
    × (then.next ≡ start + length + 1)
    × (then.next + then.left ≡ s.next + s.left)
    × (inside b start length ≡ true)
    × (rest ≡ contacts_from b then)
Follows b s quiet = Unit
Follows b s (refused n) = Unit

from_walked : (b : List ℕ) (s : Search) → inside b s.next s.left ≡ true → (w : Contacts)
    → Walked b s.next (s.next + s.left) w → Follows b s w
unfolding contacts_from
from_walked b s e (contact start length then rest) h =
    let here : inside b start length ≡ true = part_taken b s.next s.left start length e (omega arith) (omega arith) in
    let there : inside b then.next then.left ≡ true =
    part_taken b s.next s.left then.next then.left e (omega arith) (omega arith) in
    (h.0, h.1, h.2, h.3, here, h.4 ∙ sym (simp there))
from_walked b s e quiet h = tt
from_walked b s e (refused n) h = tt

pub follows : (b : List ℕ) (s : Search) → Follows b s (contacts_from b s)
unfolding contacts_from
follows b s = go (inside b s.next s.left) refl
  where
    go : (t : Bool) → inside b s.next s.left ≡ t
        → Follows b s (pick t (contacts b outside s.history s.next s.left) (refused 5))
    go true e = from_walked b s e (contacts b outside s.history s.next s.left) (walked b s.left outside s.history s.next tt)
    go false e = tt
