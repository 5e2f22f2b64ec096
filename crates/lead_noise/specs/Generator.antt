-- The generator that decides which bits flip (docs/LEAD.md): "x begins as SEED ..; for each bit of
-- the line in order x becomes 48,271 x modulo 2,147,483,647, and the bit flips exactly if x modulo
-- 1,000,000 is below N."
-- Assumes nothing.
use Rattle.std.specs.Prelude.{ℕ, zero, suc, ◌*◌, ◌%◌, Bool, ltb}

-- What x becomes.
unfoldable pub next : ℕ → ℕ
next x = 48271 * x % 2147483647

-- x after so many bits of the line.
unfoldable pub drawn : ℕ → ℕ → ℕ
drawn x zero = x
drawn x (suc n) = next (drawn x n)

-- Whether bit j of the line flips, the first being bit 0, with a chance of so many in a million.
unfoldable pub flips : ℕ → ℕ → ℕ → Bool
flips x chance j = ltb (drawn x (suc j) % 1000000) chance
