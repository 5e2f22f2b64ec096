-- Document 01's table M8, and the words of its table of proved cases, computed by the definitions.
-- Assumes nothing.
use mathlib.Core.Path.{◌≡◌, refl}
use mathlib.Core.List.{List, [], ◌∷◌, map}
use Prim.Native.Nat.{ℕ, zero, suc}
use Rattle.words.specs.Answer.{gives, refuses}
use Rattle.words.specs.Bits.{word, ones_of}
use Rattle.words.specs.Why.{why, are, parity}
use Rattle.words.specs.declared.Parity.{Parity}
use Rattle.words.specs.Plain.{is_check, covers, count, even, is_code, onwards, figure, carriers, carried, made_even, plain_word}
use Rattle.words.proofs.Short.{M8}
use Rattle.words.specs.Code.{other, exchanged, sent, read_word, write_word, read_short, write_short, read_long, write_long}

-- The numbers from k on, n of them.
from : ℕ → ℕ → List ℕ
from k zero = []
from k (suc n) = k ∷ from (suc k) n

-- Each figure is written as the table has it, and 16 is refused with 2.
m8_written : map write_short (from 0 16) ≡ map gives M8
unfolding from write_word sent plain_word carried carriers made_even count covers is_check exchanged other word
m8_written = refl

sixteen : write_short 16 ≡ refuses 2
unfolding write_word
sixteen = refl

-- Each word of the table reads as its figure; 18 hex is refused with 1, and its two ones are even.
m8_read : map read_short M8 ≡ map gives (from 0 16)
unfolding from read_word is_code even count covers figure onwards is_check exchanged other word
m8_read = refl

eighteen : read_short 0x18 ≡ refuses (why 1 (are Parity.Even))
unfolding read_word parity ones_of is_code even count covers figure onwards is_check exchanged other word
eighteen = refl

-- 1152 is 88/06, 1216 is 99/00, 1612 is D1/C6; 88/07 is refused with 1, odd, and 2,048 with 2.
long_written : map write_long (1152 ∷ 1216 ∷ 1612 ∷ []) ≡ map gives (0x8806 ∷ 0x9900 ∷ 0xD1C6 ∷ [])
unfolding write_word sent plain_word carried carriers made_even count covers is_check exchanged other word
long_written = refl

long_read : map read_long (0x8806 ∷ 0x9900 ∷ 0xD1C6 ∷ 0x8807 ∷ []) ≡ gives 1152 ∷ gives 1216 ∷ gives 1612 ∷ refuses (why 1 (are Parity.Odd)) ∷ []
unfolding read_word parity ones_of is_code even count covers figure onwards is_check exchanged other word
long_read = refl

too_large : write_long 2048 ≡ refuses 2
unfolding write_word
too_large = refl
