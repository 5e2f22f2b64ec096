-- Why a received word is refused (document 01's table, and request M-106): "Knowing whether an odd
-- or an even number of bits flipped tells a loose screen from crosstalk. A word refused with 1 now
-- also says which."
-- Assumes nothing.
use Rattle.std.specs.Prelude.{ℕ, ◌%◌, eqb}
use Rattle.words.specs.Answer.{Answer, Outcome, gives, refuses, pick}
use Rattle.words.specs.Bits.{ones_of}
use Rattle.words.specs.declared.Parity.{Parity}

-- Whether the ones of the word w of n bits are odd or even in number.
unfoldable pub parity : ℕ → ℕ → Parity
parity n w = pick (eqb (ones_of w n % 2) 0) Parity.Even Parity.Odd

-- What a refusal says of the ones of its word: that they are odd or even in number, or nothing.
pub data Ones : Type 0 where
  are : Parity → Ones
  unsaid : Ones

-- Why a word is refused: the number, and what is said of its ones.
pub data Why : Type 0 where
  why : ℕ → Ones → Why

-- The refusal of a word of n bits that is not a code word: 1, with its parity.
abbrev pub not_code_word : ℕ → ℕ → Why
not_code_word n w = why 1 (are (parity n w))

-- An answer of which only the number of its refusal is told.
abbrev pub numbered : {A : Type 0} → Answer Why A → Outcome A
numbered (gives x) = gives x
numbered (refuses (why n ones)) = refuses n
