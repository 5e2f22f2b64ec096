-- Document 01's table of M(8,4), and its table of proved cases, as a single table.
-- "0 is 00; 9 is 99; 14 is E8; 18 hex refused; 1152 is 88/06; 1216 is 99/00; 1612 is D1/C6 (000,
-- table NR); 88/07 refused; distances (BY,BZ) (0,1) 125, (13,14) 119000, (14,1) 7000, (14,14) 500,
-- (0,0) refused without a 14."
-- Assumes nothing.
use Rattle.std.specs.Prelude.{ℕ, ◌≡◌, List, [], ◌∷◌, Result}
use Rattle.words.specs.Answer.{gives, refuses}
use Rattle.words.specs.Why.{numbered}
use Rattle.words.specs.Says.{says_read, says_written}
use Rattle.words.specs.declared.NotCode.{NotCode}
use Rattle.words.specs.declared.TooLarge.{TooLarge}
use Rattle.group.specs.Says.{says_measured}
use Rattle.group.specs.declared.NoDistance.{NoDistance}
use Rattle.demands.specs.ByContract.{ReadShort, WriteShort, ReadLong, WriteLong, Distance}

-- "M(8,4) is, for 0 to 15"
abbrev pub M8 : List ℕ
M8 =
    0x00 ∷ 0x17 ∷ 0x2B ∷ 0x3C ∷ 0x4D ∷ 0x5A ∷ 0x66 ∷ 0x71 ∷ 0x8E ∷ 0x99 ∷ 0xA5 ∷ 0xB2 ∷ 0xC3 ∷ 0xD4 ∷ 0xE8 ∷ 0xFF ∷ []

-- A case: a figure and its short word, a short word that is none, a figure and its long word, a
-- long word that is none, a column and a figure with their distance, and a column and a figure that
-- have none.
pub data Case : Type 0 where
  short : ℕ → ℕ → Case
  not_short : ℕ → Case
  long : ℕ → ℕ → Case
  not_long : ℕ → Case
  far : ℕ → ℕ → ℕ → Case
  not_far : ℕ → ℕ → Case

-- What a case claims of every answer that the contracts allow: a figure and its word belong
-- together both ways, a word is refused with 1, a distance in decimetres or, for a column and a
-- figure without a 14, refused with 15. (With a 14 another figure is used: the cases of
-- specs/RowCases.antt.)
abbrev pub Holds : Case → Type 0
Holds (short x w) =
    ((a : Result ℕ TooLarge) → WriteShort x a → says_written a ≡ gives w) × ((r : Result ℕ NotCode) → ReadShort w r → says_read r ≡ gives x)
Holds (not_short w) = (r : Result ℕ NotCode) → ReadShort w r → numbered (says_read r) ≡ refuses 1
Holds (long x w) =
    ((a : Result ℕ TooLarge) → WriteLong x a → says_written a ≡ gives w) × ((r : Result ℕ NotCode) → ReadLong w r → says_read r ≡ gives x)
Holds (not_long w) = (r : Result ℕ NotCode) → ReadLong w r → numbered (says_read r) ≡ refuses 1
Holds (far by bz d) = (r : Result ℕ NoDistance) → Distance by bz r → says_measured r ≡ gives d
Holds (not_far by bz) = (r : Result ℕ NoDistance) → Distance by bz r → says_measured r ≡ refuses 15

-- The table.
abbrev pub cases : List Case
cases =
    short 0 0x00
    ∷ short 9 0x99
    ∷ short 14 0xE8
    ∷ not_short 0x18
    ∷ long 1152 0x8806
    ∷ long 1216 0x9900
    ∷ long 1612 0xD1C6
    ∷ not_long 0x8807
    ∷ far 0 1 125
    ∷ far 13 14 119000
    ∷ far 14 1 7000
    ∷ far 14 14 500
    ∷ not_far 0 0
    ∷ []

-- Every case of a list holds.
abbrev pub AllHold : List Case → Type 0
AllHold [] = Unit {0}
AllHold (c ∷ cs) = Holds c × AllHold cs
