-- The antenna passes over one balise, and noise falls on the line: on the balise's bits, and on the
-- quiet line before and after them. "With no balise the line carries ones." (document 01, "Contacts
-- and readings")
-- Assumes nothing.
use Rattle.std.specs.Prelude.{ℕ, ◌+◌, ◌-◌, ◌≤◌, ◌≡◌, Bool, true, ◌&&◌, List, leb, ltb}
use Rattle.words.specs.Answer.{pick}
use Rattle.telegram.specs.Stretch.{bit_at, inside}
use Rattle.balise_line.specs.Line.{OneBalise, sent_bit, line_bit, unequal, sum}
use Rattle.contact_laws.specs.Pass.{Pass}

-- Whether bit i of the buffer is one of the n bits from bit `start` on.
unfoldable pub is_over : ℕ → ℕ → ℕ → Bool
is_over start n i = leb start i && ltb i (start + n)

-- The bit that the line carries at bit i of the buffer, before any noise: over the balise the bit
-- that it sends, elsewhere a one.
unfoldable pub line_at : OneBalise → ℕ → ℕ
line_at o i = pick (is_over o.start o.len i) (sent_bit o (line_bit o i)) 1

-- 1 if bit i of the buffer is not the bit that the line carried there, else 0.
unfoldable pub flipped : (ℕ → ℕ) → List ℕ → ℕ → ℕ
flipped line b i = unequal (bit_at b i) (line i)

-- How many of the n bits of the buffer from bit p on were flipped.
unfoldable pub flips_in : (ℕ → ℕ) → List ℕ → ℕ → ℕ → ℕ
flips_in line b p n = sum (λ i. flipped line b (p + i)) n

-- No forty bits in a row, from bit `from` up to bit `to`, hold more than so many flips.
abbrev pub InForty : ℕ → (ℕ → ℕ) → List ℕ → ℕ → ℕ → Type 0
InForty most line b from to = (p : ℕ) → from ≤ p → p + 40 ≤ to → flips_in line b p 40 ≤ most

-- Between bit `from` and bit `to` of the buffer: quiet line, any bits of one balise's line, quiet
-- line; and no forty bits of it in a row, quiet parts included, hold more than so many flips.
pub record NoisyPass (most : ℕ) (o : OneBalise) (from to : ℕ) : Type 0 where
  pub from_low : from ≤ o.start
  pub to_high : o.start + o.len ≤ to
  pub few : InForty most (line_at o) o.buffer from to
  pub taken : inside o.buffer from (to - from) ≡ true

-- A pass without noise is one of these, with no flip.
abbrev pub CleanToo : Type 0
CleanToo = (o : OneBalise) (from to : ℕ) → Pass o from to → NoisyPass 0 o from to
