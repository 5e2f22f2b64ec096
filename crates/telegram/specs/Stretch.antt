-- A stretch of bits (document 01, "A telegram"): "a start and a length inside a lent byte buffer;
-- starts and places are counted in bits from the buffer's first, which is 0." Highest bit first.
-- Assumes nothing.
use Rattle.std.specs.Prelude.{ℕ, zero, suc, ◌+◌, ◌-◌, ◌*◌, ◌/◌, ◌%◌, ◌^◌, Bool, ◌&&◌, List, leb, ltb, length, get_or}
use Rattle.words.specs.Answer.{Outcome, gives, refuses, pick}

-- Bit i of the buffer b: 0 or 1.
abbrev pub bit_at : List ℕ → ℕ → ℕ
bit_at b i = get_or b (i / 8) 0 / 2 ^ (7 - i % 8) % 2

-- The n bits of the buffer from bit p on, as a number, highest bit first.
unfoldable pub bits_at : List ℕ → ℕ → ℕ → ℕ
bits_at b p zero = 0
bits_at b p (suc n) = bits_at b p n * 2 + bit_at b (p + n)

-- Whether the stretch is taken: it does not reach beyond the buffer, and has at most 16,777,216
-- bits. (A bit's number has 64 bits: a buffer that no machine has could hold more, and what lies
-- there is beyond it too.)
unfoldable pub inside : List ℕ → ℕ → ℕ → Bool
inside b start len = leb (start + len) (8 * length b) && ltb (start + len) (2 ^ 64) && leb len 16777216

-- What is said of a stretch that is taken: that it is.
pub data Taken : Type 0 where
  taken : Taken

-- The judgement of a stretch: taken, or refusal 5.
unfoldable pub stretch_of : List ℕ → ℕ → ℕ → Outcome Taken
stretch_of b start len = pick (inside b start len) (gives taken) (refuses 5)
