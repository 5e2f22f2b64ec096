-- All places of a stretch together, a house addition for the judging of contacts (document 01,
-- "Contacts and readings"): "two or more places, all with the same X, Y and Z: read, with the first
-- place and the number of places", and "two places that differ: refusal 7". One place alone is
-- alike here: what it makes is judged where a contact is judged.
-- Assumes nothing.
use Rattle.std.specs.Prelude.{ℕ, ◌+◌, Bool, true, ◌&&◌, List, [], ◌∷◌, eqb, length}
use Rattle.words.specs.Answer.{Outcome, gives, refuses, pick}
use Rattle.telegram.specs.Stretch.{bits_at, inside}
use Rattle.telegram.specs.Sync.{is_good}
use Rattle.telegram.specs.Telegram.{Received}
use Rattle.telegram.specs.Place.{words_at, places}

-- Whether the places p and q have the same X, Y and Z, as received.
unfoldable pub same_words : List ℕ → ℕ → ℕ → Bool
same_words b p q =
    eqb (bits_at b (p + 8) 8) (bits_at b (q + 8) 8)
    && eqb (bits_at b (p + 16) 8) (bits_at b (q + 16) 8)
    && eqb (bits_at b (p + 24) 8) (bits_at b (q + 24) 8)

-- Whether all the places listed have the same X, Y and Z as the place p.
unfoldable pub all_as : List ℕ → ℕ → List ℕ → Bool
all_as b p [] = true
all_as b p (q ∷ qs) = same_words b p q && all_as b p qs

-- What places that are alike say: what their words read, the first place, and the number of places.
pub data Alike : Type 0 where
  alike : Received → ℕ → ℕ → Alike

-- The places listed, taken together: refusal 6 if there is none, refusal 7 if two differ.
abbrev pub together : List ℕ → List ℕ → Outcome Alike
together b [] = refuses 6
together b (p ∷ ps) = pick (all_as b p ps) (gives (alike (words_at b p) p (length (p ∷ ps)))) (refuses 7)

-- The survey of a stretch: 4, then 5, then its places taken together.
unfoldable pub survey : List ℕ → ℕ → ℕ → ℕ → ℕ → Outcome Alike
survey b start len s t =
    pick (is_good s t) (pick (inside b start len) (together b (places b start len s t)) (refuses 5)) (refuses 4)
