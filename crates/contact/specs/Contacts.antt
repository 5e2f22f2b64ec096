-- The contacts of a record (document 01, "Contacts and readings").
-- "Outside a contact, the bit that brings the zeroes among the latest sixteen to 8 or more opens
-- one and is its first bit. Inside, the bit that brings them to 4 or fewer closes it and is not
-- part of it. A contact is handed out as its start and length, or the answer is that no further one
-- opens." "A contact still open where the record ends is refusal 9."
-- Assumes nothing.
use Rattle.std.specs.Prelude.{ℕ, zero, suc, ◌+◌, ◌-◌, List}
use Rattle.words.specs.Answer.{Outcome, gives, refuses, pick}
use Rattle.telegram.specs.Stretch.{bit_at, inside}
use Rattle.contact.specs.History.{sixteen_ones, after, opens, closes}
use Rattle.contact.specs.declared.Search.{Search}

-- Where the detector stands: outside a contact, or inside one since the bit that opened it.
pub data Mode : Type 0 where
  outside : Mode
  since : ℕ → Mode

-- The contacts of a record in order, each by its start, its length and the search after its closing
-- bit, up to the record's end: quiet, with no further one, or refused with a number.
pub data Contacts : Type 0 where
  contact : ℕ → ℕ → Search → Contacts → Contacts
  quiet : Contacts
  refused : ℕ → Contacts

-- The contacts of the n bits of the buffer b from bit i on, the history before them given.
unfoldable pub contacts : List ℕ → Mode → ℕ → ℕ → ℕ → Contacts
contacts b outside history i zero = quiet
contacts b outside history i (suc n) =
    let now = after history (bit_at b i) in
    let opened = contacts b (since i) now (i + 1) n in
    let on = contacts b outside now (i + 1) n in
    pick (opens now) opened on
contacts b (since start) history i zero = refused 9
contacts b (since start) history i (suc n) =
    let now = after history (bit_at b i) in
    let then : Search = record { next = i + 1; left = n; history = now } in
    let rest = contacts b outside now (i + 1) n in
    let on = contacts b (since start) now (i + 1) n in
    pick (closes now) (contact start (i - start) then rest) on

-- The contacts that a search has before it: it stands outside a contact. "Stretch beyond the
-- buffer, or above 16,777,216 bits" is refusal 5.
unfoldable pub contacts_from : List ℕ → Search → Contacts
contacts_from b s =
    let taken = contacts b outside s.history s.next s.left in
    pick (inside b s.next s.left) taken (refused 5)

-- What asking for the next contact hands out: a contact, with the search after its closing bit, or
-- that no further opens.
pub data Handed : Type 0 where
  handed : ℕ → ℕ → Search → Handed
  no_further : Handed

-- The first of the contacts listed, or what stands in their place.
abbrev pub first : Contacts → Outcome Handed
first (contact start length then rest) = gives (handed start length then)
first quiet = gives no_further
first (refused n) = refuses n

-- The next contact of a search: the first that it has before it.
unfoldable pub next_contact : List ℕ → Search → Outcome Handed
next_contact b s = first (contacts_from b s)

-- The search that begins a stretch: at its first bit, with all its bits left, and sixteen ones as
-- history.
unfoldable pub from_start : ℕ → ℕ → Search
from_start start len = record { next = start; left = len; history = sixteen_ones }

-- The beginning of a search over a stretch, or refusal 5.
unfoldable pub begin : List ℕ → ℕ → ℕ → Outcome Search
begin b start len = pick (inside b start len) (gives (from_start start len)) (refuses 5)
