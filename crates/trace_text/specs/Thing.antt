-- What a record of a trace says: a thing at a place. "Figures where the words read as a telegram,
-- `raw` for whatever else"; "kind 0 with words that do not read as a telegram (damaged, or a 15) is
-- `raw 00 ..`".
-- Assumes nothing.
use Rattle.std.specs.Prelude.{ℕ, ◌+◌, ◌*◌, ◌&&◌, List, eqb, leb, length, get_or}
use Rattle.words.specs.Answer.{gives, refuses, pick}
use Rattle.telegram.specs.Telegram.{Received, telegram}
use Rattle.telegram.specs.declared.Telegram.{Telegram}
use Rattle.trace_text.specs.declared.What.{What}
use Rattle.trace_text.specs.declared.Said.{Said}

-- "Bytes 0 to 3 odometer in dm, high byte first".
abbrev pub place_of : ℕ → ℕ → ℕ → ℕ → ℕ
place_of a b c d = a * 16777216 + b * 65536 + c * 256 + d

-- The balise that sends a telegram.
abbrev pub balise_of : Telegram → What
balise_of (Telegram.Figures x y z) = What.Balise x y z
balise_of (Telegram.Number m) = What.Balise 12 m 0

-- Information: the balise, where the words read as a telegram.
abbrev pub informed : ℕ → ℕ → ℕ → Received → What
informed x y z (gives t) = balise_of t
informed x y z (refuses bad) = What.Raw 0 x y z

-- "1 marker, 2 unreadable, 3 position only", with no words.
unfoldable pub blank : ℕ → What
blank kind = pick (eqb kind 1) What.Marker (pick (eqb kind 2) What.Unreadable (pick (eqb kind 3) What.Position (What.Raw kind 0 0 0)))

-- What a kind and three words say.
unfoldable pub thing_of : ℕ → ℕ → ℕ → ℕ → What
thing_of kind x y z =
    pick (eqb kind 0) (informed x y z (telegram x y z))
    (pick (eqb x 0 && eqb y 0 && eqb z 0) (blank kind) (What.Raw kind x y z))

-- What the record at a byte of a trace says, or nothing where no whole one stands there.
unfoldable pub thing_at : List ℕ → ℕ → Said
thing_at trace at =
    let byte : ℕ → ℕ = λ i. get_or trace (at + i) 0 in
    pick (leb (at + 8) (length trace))
    (Said.Thing (place_of (get_or trace at 0) (byte 1) (byte 2) (byte 3)) (thing_of (byte 4) (byte 5) (byte 6) (byte 7)))
    Said.Nothing
