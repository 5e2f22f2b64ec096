-- A marker is passed, and noise falls on the line.
-- "With no balise the line carries ones; a marker sends zeroes." (document 01, "Contacts and
-- readings")
-- Assumes nothing.
use Rattle.std.specs.Prelude.{ℕ, ◌+◌, ◌-◌, ◌≤◌, ◌≡◌, true, List}
use Rattle.words.specs.Answer.{pick}
use Rattle.telegram.specs.Stretch.{inside}
use Rattle.telegram.specs.Sync.{is_good}
use Rattle.telegram.specs.declared.Telegram.{Telegram}
use Rattle.contact.specs.Contacts.{Contacts, contact, quiet, refused}
use Rattle.contact.specs.declared.Judged.{Judged}
use Rattle.contact_laws.specs.Calls.{Listened, JudgeContact}
use Rattle.noise_laws.specs.Pass.{is_over, InForty}

-- The bit that the line carries at bit i of the buffer, before any noise: over the marker a zero,
-- elsewhere a one.
unfoldable pub marker_at : ℕ → ℕ → ℕ → ℕ
marker_at start len i = pick (is_over start len i) 0 1

-- Between bit `from` and bit `to` of the buffer: quiet line, `len` zeroes from bit `start` on,
-- quiet line; and no forty bits of it in a row hold more than so many flips.
pub record NoisyMarker (most : ℕ) (b : List ℕ) (start len from to : ℕ) : Type 0 where
  pub from_low : from ≤ start
  pub to_high : start + len ≤ to
  pub few : InForty most (marker_at start len) b from to
  pub taken : inside b from (to - from) ≡ true

-- None of the contacts is read as a telegram, with any good pair, whatever the contract of `judge`
-- allows: each is judged a marker, or refused.
abbrev pub NeverRead : List ℕ → Contacts → Type 0
NeverRead b (contact start length then rest) =
    ((s t : ℕ) → is_good s t ≡ true → (a : Judged) → JudgeContact b start length s t a → (m : Telegram) (first count : ℕ) → a ≡ Judged.Read m first count → ⊥) × NeverRead b rest
NeverRead b quiet = Unit
NeverRead b (refused n) = Unit

-- A marker passed with at most two flips in forty bits is a marker or refused, never a reading.
abbrev pub MarkerNeverRead : Type 0
MarkerNeverRead =
    (b : List ℕ) (start len from to : ℕ) → NoisyMarker 2 b start len from to → (w : Contacts) → Listened b from to w → NeverRead b w
