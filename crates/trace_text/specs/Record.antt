-- The record of a thing at a place (document 01, "A ride"): "8 bytes. Bytes 0 to 3 odometer in dm,
-- high byte first; byte 4 kind (0 information, 1 marker, 2 unreadable, 3 position only); bytes 5 to
-- 7 the received X, Y, Z, all zero for kinds 1 to 3."
-- Assumes nothing.
use Rattle.std.specs.Prelude.{ℕ, ◌/◌, ◌%◌, List, [], ◌∷◌}
use Rattle.words.specs.Answer.{Outcome, gives, refuses, then}
use Rattle.telegram.specs.Spelling.{asked, spell}
use Rattle.trace_text.specs.declared.What.{What}

-- The eight bytes.
abbrev pub bytes_of : ℕ → ℕ → ℕ → ℕ → ℕ → List ℕ
bytes_of place kind x y z = place / 16777216 ∷ place / 65536 % 256 ∷ place / 256 % 256 ∷ place % 256 ∷ kind ∷ x ∷ y ∷ z ∷ []

-- The record of a thing; the figures of a balise are judged as in writing one: 2, then 3.
unfoldable pub record_of_meant : ℕ → What → Outcome (List ℕ)
record_of_meant place (What.Balise x y z) = then (spell (asked x y z)) λ w. gives (bytes_of place 0 w.x w.y w.z)
record_of_meant place What.Marker = gives (bytes_of place 1 0 0 0)
record_of_meant place What.Unreadable = gives (bytes_of place 2 0 0 0)
record_of_meant place What.Position = gives (bytes_of place 3 0 0 0)
record_of_meant place (What.Raw kind x y z) = gives (bytes_of place kind x y z)

-- What making a record answers: that it is made, or the number of its refusal; and its bytes, all
-- zero if it is not.
pub data Made : Type 0 where
  made : Made

pub record Recording : Type 0 where
  pub answer : Outcome Made
  pub bytes : List ℕ

abbrev pub eight_zeroes : List ℕ
eight_zeroes = 0 ∷ 0 ∷ 0 ∷ 0 ∷ 0 ∷ 0 ∷ 0 ∷ 0 ∷ []

abbrev pub recording : Outcome (List ℕ) → Recording
recording (gives bytes) = record { answer = gives made; bytes = bytes }
recording (refuses n) = record { answer = refuses n; bytes = eight_zeroes }
