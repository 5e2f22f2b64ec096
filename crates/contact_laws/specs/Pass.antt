-- The antenna passes over one balise.
-- "With no balise the line carries ones." (document 01, "Contacts and readings")
-- Assumes nothing.
use Rattle.std.specs.Prelude.{ℕ, ◌+◌, ◌-◌, ◌%◌, ◌≤◌, ◌<◌, ◌≡◌, true, List}
use Rattle.telegram.specs.Stretch.{bit_at, inside}
use Rattle.balise_line.specs.Line.{OneBalise, Clean}

-- The bits from i up to j are ones.
abbrev pub Ones : List ℕ → ℕ → ℕ → Type 0
Ones b i j = (k : ℕ) → i ≤ k → k < j → bit_at b k ≡ 1

-- How many ones after a balise, or between two, always suffice.
abbrev pub between : ℕ
between = 12

-- Between bit `from` and bit `to` of the buffer: ones, the balise's bits as they were sent, and
-- ones again, at least twelve.
pub record Pass (o : OneBalise) (from to : ℕ) : Type 0 where
  pub clean : Clean o
  pub from_low : from ≤ o.start
  pub to_high : o.start + o.len + between ≤ to
  pub ones_before : Ones o.buffer from o.start
  pub ones_after : Ones o.buffer (o.start + o.len) to
  pub taken : inside o.buffer from (to - from) ≡ true

-- How many bits of a cut telegram stand before the first that begins in the stretch: 0 to 31.
unfoldable pub cut_bits : OneBalise → ℕ
cut_bits o = (32 - o.phase % 32) % 32
