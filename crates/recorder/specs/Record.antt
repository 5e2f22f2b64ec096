-- From a judged contact to a record of a trace (document 01, "A ride"): "8 bytes. Bytes 0 to 3
-- odometer in dm, high byte first; byte 4 kind (0 information, 1 marker, 2 unreadable, 3 position
-- only); bytes 5 to 7 the received X, Y, Z, all zero for kinds 1 to 3."
-- Assumes nothing.
use Rattle.std.specs.Prelude.{ℕ, ◌/◌, ◌%◌, List, [], ◌∷◌, ltb}
use Rattle.words.specs.Answer.{Outcome, gives, refuses, then, pick}
use Rattle.telegram.specs.declared.Telegram.{Telegram}
use Rattle.contact.specs.declared.Judged.{Judged}
use Rattle.telegram.specs.Spelling.{Words, asked, spell}

-- What a record says beyond its odometer: its kind and the words X, Y and Z.
pub record Content : Type 0 where
  pub kind : ℕ
  pub x : ℕ
  pub y : ℕ
  pub z : ℕ

-- The telegram whose words are kept: the one read. (Three figures of which the first is 12 are
-- never read: they are taken for the number that they would be written as.)
abbrev pub telegram_of : Telegram → Telegram
telegram_of (Telegram.Figures x y z) = asked x y z
telegram_of (Telegram.Number m) = Telegram.Number m

-- "0 information": with the words received, which are the words sent for what was read. (Figures
-- that no telegram has are refused with 2 and 3, as in writing.)
abbrev pub informed : Outcome Words → Outcome Content
informed (gives w) = gives (record { kind = 0; x = w.x; y = w.y; z = w.z })
informed (refuses n) = refuses n

-- "1 marker, 2 unreadable": "all zero".
abbrev pub blank : ℕ → Content
blank kind = record { kind = kind; x = 0; y = 0; z = 0 }

-- What a judged contact is kept as: a reading as information, a marker as one, refusals 7 and 8 as
-- unreadable; 4 and 5 are handed on.
unfoldable pub content_of : Judged → Outcome Content
content_of (Judged.Read t first count) = informed (spell (telegram_of t))
content_of Judged.Marker = gives (blank 1)
content_of Judged.Differ = gives (blank 2)
content_of Judged.Neither = gives (blank 2)
content_of Judged.NotSeven = refuses 4
content_of Judged.Beyond = refuses 5

-- The eight bytes.
abbrev pub bytes_of : ℕ → Content → List ℕ
bytes_of odometer c =
    odometer / 16777216 ∷ odometer / 65536 % 256 ∷ odometer / 256 % 256 ∷ odometer % 256 ∷ c.kind ∷ c.x ∷ c.y ∷ c.z ∷ []

-- "Odometer above 4,000,000,000" is refusal 18.
unfoldable pub at_odometer : ℕ → Content → Outcome (List ℕ)
at_odometer odometer c = pick (ltb 4000000000 odometer) (refuses 18) (gives (bytes_of odometer c))

-- The record of a judged contact: its bytes, or a refusal.
unfoldable pub record_of_meant : ℕ → Judged → Outcome (List ℕ)
record_of_meant odometer j = then (content_of j) (at_odometer odometer)

-- That a record is made, or the number of its refusal: without its bytes.
pub data Made : Type 0 where
  made : Made

abbrev pub whether : Outcome (List ℕ) → Outcome Made
whether (gives bytes) = gives made
whether (refuses n) = refuses n
