-- No false reading: what a contact over one balise is read as, whatever noise falls on the line, up
-- to so many flips in forty bits.
-- Assumes nothing.
use Rattle.std.specs.Prelude.{ℕ, ◌-◌, ◌≤◌, ◌≡◌, true, List, [], ◌∷◌, length, get_or}
use Rattle.words.specs.Answer.{gives}
use Rattle.telegram.specs.Place.{words_at, places}
use Rattle.telegram.specs.declared.Telegram.{Telegram}
use Rattle.balise_line.specs.Line.{OneBalise, Proper}
use Rattle.balise_line.specs.Forty.{EqualBit}
use Rattle.contact.specs.Contacts.{Contacts, contact, quiet, refused}
use Rattle.contact.specs.Judge.{all_alike, first_place}
use Rattle.contact.specs.declared.Judged.{Judged}
use Rattle.contact_laws.specs.Calls.{Listened, JudgeContact}
use Rattle.noise_laws.specs.Pass.{NoisyPass}

-- The fewest places that make a reading, if all are alike: "one place alone never makes a reading"
-- (document 01).
abbrev pub fewest : ℕ
fewest = 2

-- One contact: places enough, all alike, read the telegram sent;
abbrev pub AlikeTheSent : OneBalise → ℕ → ℕ → Type 0
AlikeTheSent o start len =
    (m : Telegram) → fewest ≤ length (places o.buffer start len o.s o.t) → all_alike o.buffer (places o.buffer start len o.s o.t) ≡ true
    → words_at o.buffer (first_place (places o.buffer start len o.s o.t)) ≡ gives m → m ≡ o.telegram

-- and so, whatever the contract of `judge` allows, a contact that is read as a telegram reads the
-- one sent. (Of refusals nothing is said.)
abbrev pub JudgedTheSent : OneBalise → ℕ → ℕ → Type 0
JudgedTheSent o start len =
    (a : Judged) → JudgeContact o.buffer start len o.s o.t a → (m : Telegram) (first count : ℕ) → a ≡ Judged.Read m first count → m ≡ o.telegram

-- Each of the contacts.
abbrev pub ReadsTheSent : OneBalise → Contacts → Type 0
ReadsTheSent o (contact start len then rest) = AlikeTheSent o start len × JudgedTheSent o start len × ReadsTheSent o rest
ReadsTheSent o quiet = Unit
ReadsTheSent o (refused n) = Unit

-- How many flips in forty bits in a row are allowed, by the equal bit of the sync pair, from the
-- first sent to the eighth.
abbrev pub allowed : List ℕ
allowed = 1 ∷ 1 ∷ 2 ∷ 3 ∷ 3 ∷ 2 ∷ 1 ∷ 1 ∷ []

-- One balise is passed, at any phase, for any length. If no forty bits of the line in a row, quiet
-- parts included, hold more flips than the pair's equal bit allows, every contact that is read as a
-- telegram reads the one sent.
abbrev pub NoFalseReading : Type 0
NoFalseReading =
    (o : OneBalise) → Proper o → (k : ℕ) → EqualBit o k → (from to : ℕ) → NoisyPass (get_or allowed (k - 1) 0) o from to
    → (w : Contacts) → Listened o.buffer from to w → ReadsTheSent o w
