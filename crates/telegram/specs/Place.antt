-- Places (document 01, "A telegram"): "A *place* is a start p in a stretch such that bits p to p+39
-- lie in it, the outer bytes are S and S* in either order, and the three words between are
-- accepted. Every offset is tested, overlapping ones too. The search for single telegrams is asked
-- with a stretch and hands out its first place with the telegram's figures."
-- Assumes nothing.
use Rattle.std.specs.Prelude.{ℕ, zero, suc, ◌+◌, Bool, true, false, ◌&&◌, ◌||◌, List, [], ◌∷◌, eqb, leb}
use Rattle.words.specs.Answer.{Outcome, gives, refuses, pick}
use Rattle.telegram.specs.Stretch.{bits_at, inside}
use Rattle.telegram.specs.Sync.{is_good}
use Rattle.telegram.specs.Telegram.{Received, telegram}

-- Whether the bytes a and z are s and t, in either order.
unfoldable pub are_syncs : ℕ → ℕ → ℕ → ℕ → Bool
are_syncs s t a z = (eqb a s && eqb z t) || (eqb a t && eqb z s)

-- What the three words after the sync word at bit p of the buffer read.
unfoldable pub words_at : List ℕ → ℕ → Received
words_at b p = telegram (bits_at b (p + 8) 8) (bits_at b (p + 16) 8) (bits_at b (p + 24) 8)

-- Whether words are accepted.
abbrev pub accepted : Received → Bool
accepted (gives m) = true
accepted (refuses b) = false

-- Whether p, a bit of the stretch that begins at `start` and has `len` bits, is a place, with the
-- sync words s and t.
unfoldable pub is_place : List ℕ → ℕ → ℕ → ℕ → ℕ → ℕ → Bool
is_place b start len s t p = leb (p + 40) (start + len) && are_syncs s t (bits_at b p 8) (bits_at b (p + 32) 8) && accepted (words_at b p)

-- The n numbers from p on.
unfoldable pub from : ℕ → ℕ → List ℕ
from p zero = []
from p (suc n) = p ∷ from (p + 1) n

-- Those of a list that pass a test, in their order.
unfoldable pub those : (ℕ → Bool) → List ℕ → List ℕ
those test [] = []
those test (p ∷ ps) = pick (test p) (p ∷ those test ps) (those test ps)

-- All places of a stretch: every offset of it is tested.
unfoldable pub places : List ℕ → ℕ → ℕ → ℕ → ℕ → List ℕ
places b start len s t = those (is_place b start len s t) (from start len)

-- A place handed out: where it is, and what the words there read.
pub data Single : Type 0 where
  at : ℕ → Received → Single

-- The first of the places listed, with its telegram, or refusal 6 if there is none.
abbrev pub first_of : List ℕ → List ℕ → Outcome Single
first_of b [] = refuses 6
first_of b (p ∷ ps) = gives (at p (words_at b p))

-- The search for single telegrams: 4, then 5, then 6, or the first place of the stretch.
unfoldable pub find : List ℕ → ℕ → ℕ → ℕ → ℕ → Outcome Single
find b start len s t =
    pick (is_good s t) (pick (inside b start len) (first_of b (places b start len s t)) (refuses 5)) (refuses 4)
