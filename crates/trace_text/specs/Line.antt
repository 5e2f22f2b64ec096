-- The line of a record: "followed by ` # ` and its number (`1000 1 8 5 # 1`)"; "single blanks";
-- "hex is written in capitals".
-- Assumes nothing.
use Rattle.std.specs.Prelude.{ℕ, ◌+◌, ◌/◌, ◌%◌, List, [], ◌∷◌, ◌++◌, eqb, ltb}
use Rattle.words.specs.Answer.{pick}
use Rattle.text.specs.Text.{codes, decimal}
use Rattle.trace_text.specs.declared.What.{What}

-- The sign of a hex digit, a capital.
unfoldable pub hex_sign : ℕ → ℕ
hex_sign digit = pick (ltb digit 10) (48 + digit) (55 + digit)

-- A blank and a byte in hex.
unfoldable pub byte_text : ℕ → List ℕ
byte_text byte = 32 ∷ hex_sign (byte / 16) ∷ hex_sign (byte % 16) ∷ []

-- "A balise of three figures", or "a number balise".
unfoldable pub balise : ℕ → ℕ → ℕ → List ℕ
balise x y z = pick (eqb x 12) (codes " 12 " ++ decimal y) (codes " " ++ decimal x ++ codes " " ++ decimal y ++ codes " " ++ decimal z)

-- What lies at a place.
unfoldable pub what_text : What → List ℕ
what_text (What.Balise x y z) = balise x y z
what_text What.Marker = codes " marker"
what_text What.Unreadable = codes " unreadable"
what_text What.Position = codes " position"
what_text (What.Raw kind x y z) = codes " raw" ++ byte_text kind ++ byte_text x ++ byte_text y ++ byte_text z

-- What lies at a place, without its number: `1000 1 8 5`.
unfoldable pub thing_text : ℕ → What → List ℕ
thing_text place what = decimal place ++ what_text what

-- The line of what lies at a place, with the number of its record.
unfoldable pub record_line : ℕ → ℕ → What → List ℕ
record_line number place what = decimal place ++ what_text what ++ codes " # " ++ decimal number ++ codes "\n"
