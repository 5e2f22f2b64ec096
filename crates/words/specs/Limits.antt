-- A limit of the machine that several specifications name.
-- Assumes nothing.
use Rattle.std.specs.Prelude.{ℕ}

-- The largest number of 64 bits, 2^64 - 1: no count goes above it.
abbrev pub largest64 : ℕ
largest64 = 18446744073709551615
