-- A record of a trace (document 01, "A ride"): eight bytes. "Bytes 0 to 3 odometer in dm, high byte
-- first; byte 4 kind (0 information, 1 marker, 2 unreadable, 3 position only); bytes 5 to 7 the
-- received X, Y, Z, all zero for kinds 1 to 3."
-- Assumes nothing.
use Rattle.std.specs.Prelude.{ℕ, ◌+◌, ◌*◌, Bool, not, ◌&&◌, ◌||◌, List, eqb, leb, ltb, get_or}
use Rattle.words.specs.Answer.{Outcome, gives, refuses, pick}
use Rattle.group.specs.declared.Heard.{Heard}
use Rattle.ride.specs.declared.Passed.{Passed}

-- Byte i of a record.
abbrev pub byte : List ℕ → ℕ → ℕ
byte r i = get_or r i 0

-- "Bytes 0 to 3 odometer in dm, high byte first"
unfoldable pub odometer_of : List ℕ → ℕ
odometer_of r = ((byte r 0 * 256 + byte r 1) * 256 + byte r 2) * 256 + byte r 3

-- "byte 4 kind"
abbrev pub kind_of : List ℕ → ℕ
kind_of r = byte r 4

-- What the record says beyond its odometer, by its kind: "0 information, 1 marker, 2 unreadable, 3
-- position only".
unfoldable pub passed_of : List ℕ → Passed
passed_of r =
    pick (eqb (kind_of r) 0) (Passed.Balise (Heard.Words (byte r 5) (byte r 6) (byte r 7)))
    (pick (eqb (kind_of r) 1) (Passed.Balise Heard.Marker)
    (pick (eqb (kind_of r) 2) (Passed.Balise Heard.Unreadable)
    Passed.Position))

-- Whether bytes 5 to 7 are all zero.
abbrev pub blank : List ℕ → Bool
blank r = eqb (byte r 5) 0 && eqb (byte r 6) 0 && eqb (byte r 7) 0

-- Whether the record is in order: its kind is not above 3, and bytes 5 to 7 are "all zero for kinds
-- 1 to 3".
unfoldable pub in_order_meant : List ℕ → Bool
in_order_meant r = leb (kind_of r) 3 && (eqb (kind_of r) 0 || blank r)

-- What an accepted record says: its odometer, and what was passed there.
pub record Entry : Type 0 where
  pub odometer : ℕ
  pub passed : Passed

-- The check of a record after one accepted at the odometer `last`, 16, 18, 17 in this order: "kind
-- above 3, or bytes 5 to 7 not zero where they must be", "odometer above 4,000,000,000", "odometer
-- below the last accepted one".
unfoldable pub check_record : ℕ → List ℕ → Outcome Entry
check_record last r =
    pick (not (in_order_meant r)) (refuses 16)
    (pick (ltb 4000000000 (odometer_of r)) (refuses 18)
    (pick (ltb (odometer_of r) last) (refuses 17)
    (gives (record { odometer = odometer_of r; passed = passed_of r }))))
