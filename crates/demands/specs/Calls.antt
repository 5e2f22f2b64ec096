-- Calls of `find` one after the other, each answered as its contract allows (`Find` of
-- specs/ByContract.antt): "asked again from the bit after that place, it goes on".
-- Assumes nothing.
use Rattle.std.specs.Prelude.{ℕ, ◌+◌, ◌-◌, List, [], ◌∷◌, Result, Ok, Err}
use Rattle.telegram.specs.declared.Found.{Found}
use Rattle.telegram.specs.declared.NotFound.{NotFound}
use Rattle.telegram.specs.declared.Telegram.{Telegram}
use Rattle.demands.specs.ByContract.{Find}

-- The telegram m is handed out at bit p to one who calls `find` with a stretch of the buffer b and
-- the sync words s and t, then from the bit after the place handed out to the same end, and so on,
-- as often as he likes.
pub data HandedOut (b : List ℕ) (s t : ℕ) : ℕ → ℕ → ℕ → Telegram → Type 0 where
  first : {start len p : ℕ} {m : Telegram} → Find b start len s t (Ok (record { place = p; telegram = m })) → HandedOut b s t start len p m
  later : {start len q : ℕ} {n : Telegram} (p : ℕ) (m : Telegram) → Find b start len s t (Ok (record { place = p; telegram = m }))
      → HandedOut b s t (p + 1) (start + len - (p + 1)) q n → HandedOut b s t start len q n

-- The list is all that comes of calling `find` so, until it answers that there is no place (6).
pub data Comes (b : List ℕ) (s t : ℕ) : ℕ → ℕ → List (Result Found NotFound) → Type 0 where
  further : {start len p : ℕ} {m : Telegram} {rest : List (Result Found NotFound)} → Find b start len s t (Ok (record { place = p; telegram = m }))
      → Comes b s t (p + 1) (start + len - (p + 1)) rest → Comes b s t start len (Ok (record { place = p; telegram = m }) ∷ rest)
  ends : {start len : ℕ} → Find b start len s t (Err NotFound.NoPlace) → Comes b s t start len []
