-- What the functions inside the crate say besides. No promise to a caller cites it.
-- Assumes nothing.
use Rattle.std.specs.Prelude.{ℕ, zero, suc}

-- How many values figure k of a version has: a place and a gap have 32 bits, a sync word has eight.
abbrev pub width_of : ℕ → ℕ
width_of zero = 4294967296
width_of (suc zero) = 4294967296
width_of (suc (suc k)) = 256
