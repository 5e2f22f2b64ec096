-- What `atc2_find` and `atc2_judge` hand out in `out`: the telegram that the stretch reads, as one
-- number, and where; and what `atc2_begin` and `atc2_next_contact` leave in the lent arrays.
-- Assumes nothing.
use Rattle.std.specs.Prelude.{ℕ, ◌≡◌, List, ℤ, pos}
use Rattle.words.specs.Answer.{gives}
use Rattle.telegram.specs.Place.{Single}
use Rattle.telegram.specs.Place as place
use Rattle.contact.specs.declared.Search.{Search}
use Rattle.contact.specs.Contacts.{Handed}
use Rattle.contact.specs.Contacts as contacts
use Rattle.contact.specs.Judge.{Contact}
use Rattle.contact.specs.Judge as contact
use Rattle.abi.specs.Face.{found_put}
use Rattle.abi.specs.Contacts.{search_in, in_array, next_number, next_put, next_moved, judged_number, judged_put}
use Rattle.abi_laws.specs.Calls.{Find, Judge, Begin, NextContact}

pub record HandedOut : Type 0 where
  -- where the stretch has a place, 0 is returned, and `out` is the first one and its telegram
  pub find : (b : List ℕ) (start len s t : ℕ) (before : List ℕ) (r : ℤ) (after : List ℕ) (x : Single) → Find b start len s t before r after
      → place.find b start len s t ≡ gives x → (r ≡ pos 0) × (after ≡ found_put x before)
  -- where a contact is read, 1 is returned, and `out` is its telegram, the first place and the
  -- number of places; for a marker 2, and `out` as it was
  pub judge : (b : List ℕ) (start len s t : ℕ) (before : List ℕ) (r : ℤ) (after : List ℕ) (x : Contact) → Judge b start len s t before r after
      → contact.judge b start len s t ≡ gives x → (r ≡ pos (judged_number x)) × (after ≡ judged_put x before)
  -- where a search begins, 0 is returned, and `search` is its beginning
  pub begin : (b : List ℕ) (start len : ℕ) (before : List ℕ) (r : ℤ) (after : List ℕ) (x : Search) → Begin b start len before r after
      → contacts.begin b start len ≡ gives x → (r ≡ pos 0) × (after ≡ in_array x)
  -- where a contact comes, 1 is returned, `out` is its start and length, and `search` goes on after
  -- it; "or the answer is that no further one opens, which leaves the search's state as it was": 0,
  -- and both arrays as they were
  pub next_contact_law : (b from before : List ℕ) (r : ℤ) (moved after : List ℕ) (x : Handed) → NextContact b from before r moved after
      → contacts.next_contact b (search_in from) ≡ gives x → (r ≡ pos (next_number x)) × (moved ≡ next_moved x from) × (after ≡ next_put x before)
