-- Noise on the sync words too (document 02, M-112): "Demand 3 lets no noise touch the sync words,
-- and our cable isn't so polite. Show it for pairs whose one equal bit is the third, fourth, fifth
-- or sixth sent: over any of demand 3's stretches, if no forty bits in a row hold more than two
-- flips, sync words included, every telegram handed out is the one sent, at its true place, and
-- every one whose forty bits arrived unflipped is handed out. For other pairs nothing new is
-- claimed, since a flip or two at the right spots can make a false place; demand 3 as it stands is
-- kept for them." What is sent and what flips, the equal bit and the forty bits in a row:
-- balise_line/specs/Line.antt and balise_line/specs/Forty.antt. What follows is demand 3's own
-- conclusion: specs/Demand3.antt. That all of this holds: proofs/Beside/SyncNoise.antt.
-- Assumes nothing.
use Rattle.std.specs.Prelude.{ℕ, ◌-◌, ◌≤◌, ◌<◌, ◌≡◌, true, false, List, [], ◌∷◌, get_or, Result, Err}
use Rattle.words.specs.Plain.{among}
use Rattle.telegram.specs.declared.Telegram.{Telegram}
use Rattle.telegram.specs.declared.Found.{Found}
use Rattle.telegram.specs.declared.NotFound.{NotFound}
use Rattle.balise_line.specs.Line.{OneBalise, Proper, sent_at, places_of}
use Rattle.balise_line.specs.Forty.{EqualBit, AtMostInForty}
use Rattle.demands.specs.ByContract.{Find}
use Rattle.demands.specs.Calls.{HandedOut}
use Rattle.demands.specs.Demand3.{OnlyTheSent}

-- "The third, fourth, fifth or sixth sent".
abbrev pub middle : List ℕ
middle = 3 ∷ 4 ∷ 5 ∷ 6 ∷ []

-- Nothing is handed out: the stretch has no place, and `find` answers 6.
pub record NothingComes (o : OneBalise) : Type 0 where
  pub no_place : places_of o ≡ []
  pub answers_6 : (r : Result Found NotFound) → Find o.buffer o.start o.len o.s o.t r → r ≡ Err NotFound.NoPlace

-- A line with this equal bit, and at most so many flips in any forty bits in a row, of which a
-- telegram is handed out where none was sent.
pub record FalsePlace (k most : ℕ) (o : OneBalise) : Type 0 where
  pub proper : Proper o
  pub equal_bit : EqualBit o k
  pub flipped : AtMostInForty most o
  pub place : ℕ
  pub telegram : Telegram
  pub handed_out : HandedOut o.buffer o.s o.t o.start o.len place telegram
  pub not_sent : sent_at o place ≡ false

-- How many flips at the right spots make a false place, by the equal bit, from the first sent to
-- the eighth.
abbrev pub enough : List ℕ
enough = 1 ∷ 2 ∷ 3 ∷ 3 ∷ 3 ∷ 3 ∷ 2 ∷ 1 ∷ []

-- Noise on the sync words too. Of a telegram that has flips it says, as demand 3 does, that it is
-- handed out as it was sent or not at all.
pub record SyncNoise : Type 0 where
  -- every pair that is not refused with 4 has one equal bit, one of the eight
  pub one_equal : (o : OneBalise) → Proper o → (k : ℕ) × (1 ≤ k) × (k ≤ 8) × EqualBit o k
  -- "if no forty bits in a row hold more than two flips, sync words included, every telegram handed
  -- out is the one sent, at its true place, and every one whose forty bits arrived unflipped is
  -- handed out"
  pub stretch : (o : OneBalise) → Proper o → (k : ℕ) → among k middle ≡ true → EqualBit o k → AtMostInForty 2 o → OnlyTheSent o
  -- a stretch of fewer than forty bits meets the hypothesis whatever flips, and nothing comes of it
  pub under_forty : (o : OneBalise) → Proper o → o.len < 40 → AtMostInForty 0 o × NothingComes o
  -- "a flip or two at the right spots can make a false place", and three where the equal bit is in
  -- the middle
  pub false_places : (k : ℕ) → 1 ≤ k → k ≤ 8 → (o : OneBalise) × FalsePlace k (get_or enough (k - 1) 0) o
