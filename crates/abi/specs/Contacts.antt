-- How the detector's answers and the judgement of a contact become C's numbers.
-- Assumes nothing.
use Rattle.std.specs.Prelude.{ℕ, ◌%◌, List, [], ◌∷◌, get_or}
use Rattle.words.specs.Answer.{gives, refuses}
use Rattle.contact.specs.declared.Search.{Search}
use Rattle.contact.specs.Contacts.{Handed, handed, no_further}
use Rattle.contact.specs.Judge.{Contact, read, marker}
use Rattle.abi.specs.Face.{as_one}

-- The search that a lent array holds: next bit, bits left, history, of which the low sixteen bits
-- count.
abbrev pub search_in : List ℕ → Search
search_in lent = record { next = get_or lent 0 0; left = get_or lent 1 0; history = get_or lent 2 0 % 65536 }

-- A search as an array.
abbrev pub in_array : Search → List ℕ
in_array search = search.next ∷ search.left ∷ search.history ∷ []

-- The beginning of a search is returned as 0 ..
abbrev pub begun_number : Search → ℕ
begun_number begun = 0

-- .. and put into `search`.
abbrev pub begun_put : Search → List ℕ → List ℕ
begun_put begun before = in_array begun

-- A contact is returned as 1, that no further one opens as 0.
abbrev pub next_number : Handed → ℕ
next_number (handed start length then) = 1
next_number no_further = 0

-- A contact's start and length are put into `out` ..
abbrev pub next_put : Handed → List ℕ → List ℕ
next_put (handed start length then) before = start ∷ length ∷ []
next_put no_further before = before

-- .. and `search` moves on to what follows it; else it stays.
abbrev pub next_moved : Handed → List ℕ → List ℕ
next_moved (handed start length then) before = in_array then
next_moved no_further before = before

-- A contact that was read is returned as 1, a marker as 2.
abbrev pub judged_number : Contact → ℕ
judged_number (read words first count) = 1
judged_number marker = 2

-- Into `out` go the telegram, the first place and the number of places. (A place's words are
-- accepted: the second line is never met.)
abbrev pub judged_put : Contact → List ℕ → List ℕ
judged_put (read (gives m) first count) before = as_one m ∷ first ∷ count ∷ []
judged_put (read (refuses b) first count) before = before
judged_put marker before = before
