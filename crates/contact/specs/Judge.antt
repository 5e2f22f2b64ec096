-- The judging of one contact (document 01, "Contacts and readings").
-- "House, for one contact in this order: (a) two or more places, all with the same X, Y and Z:
-- read, with the first place and the number of places; (b) two places that differ: refusal 7; (c)
-- at least 64 bits long and made of zeroes followed by at most 11 ones: marker; (d) otherwise
-- refusal 8. So one place alone never makes a reading."
-- Assumes nothing.
use Rattle.std.specs.Prelude.{ℕ, zero, suc, ◌+◌, ◌-◌, Bool, true, ◌&&◌, not, List, [], ◌∷◌, eqb, leb, length, get_or}
use Rattle.words.specs.Answer.{Outcome, gives, refuses, pick}
use Rattle.telegram.specs.Stretch.{bit_at, inside}
use Rattle.telegram.specs.Sync.{is_good}
use Rattle.telegram.specs.Telegram.{Received}
use Rattle.telegram.specs.Place.{words_at, places}
use Rattle.telegram.specs.Survey.{all_as}

-- Whether all the places listed have the same X, Y and Z: those of the first.
abbrev pub all_alike : List ℕ → List ℕ → Bool
all_alike b [] = true
all_alike b (p ∷ ps) = all_as b p ps

-- The first of the places listed.
abbrev pub first_place : List ℕ → ℕ
first_place ps = get_or ps 0 0

-- How many ones the n bits of the buffer from bit `start` on end with.
unfoldable pub ones_at_end : List ℕ → ℕ → ℕ → ℕ
ones_at_end b start zero = 0
ones_at_end b start (suc n) = pick (eqb (bit_at b (start + n)) 0) 0 (ones_at_end b start n + 1)

-- Whether the n bits from bit `start` on are all zeroes.
unfoldable pub all_zero : List ℕ → ℕ → ℕ → Bool
all_zero b start zero = true
all_zero b start (suc n) = eqb (bit_at b (start + n)) 0 && all_zero b start n

-- Whether a contact is a marker's: at least 64 bits long, at most 11 ones at its end, and all
-- before them zeroes.
unfoldable pub is_marker : List ℕ → ℕ → ℕ → Bool
is_marker b start len =
    leb 64 len && leb (ones_at_end b start len) 11 && all_zero b start (len - ones_at_end b start len)

-- What a contact is: read, with what its words read, the first place and the number of places; or a
-- marker.
pub data Contact : Type 0 where
  read : Received → ℕ → ℕ → Contact
  marker : Contact

-- The judgement of a contact whose places are ps: (a), (b), (c) and (d), in this order.
unfoldable pub judgement : List ℕ → ℕ → ℕ → List ℕ → Outcome Contact
judgement b start len ps =
    pick (leb 2 (length ps) && all_alike b ps) (gives (read (words_at b (first_place ps)) (first_place ps) (length ps)))
    (pick (not (all_alike b ps)) (refuses 7)
    (pick (is_marker b start len) (gives marker)
    (refuses 8)))

-- Judging a contact: 4, then 5, then its judgement by its places.
unfoldable pub judge : List ℕ → ℕ → ℕ → ℕ → ℕ → Outcome Contact
judge b start len s t =
    pick (is_good s t) (pick (inside b start len) (judgement b start len (places b start len s t)) (refuses 5)) (refuses 4)
