-- A second hypothesis on the flips, beside demand 3's (`FewFlips` of specs/Line.antt): noise on the
-- sync words too (document 02, M-112). "Pairs whose one equal bit is the third, fourth, fifth or
-- sixth sent"; "no forty bits in a row hold more than two flips, sync words included". Which bit
-- and how many flips are left open here.
-- Assumes nothing.
use Rattle.std.specs.Prelude.{ℕ, ◌+◌, ◌-◌, ◌≤◌, ◌≡◌, List, [], ◌∷◌, eqb}
use Rattle.words.specs.Bits.{bit}
use Rattle.telegram.specs.Place.{from, those}
use Rattle.balise_line.specs.Line.{OneBalise, flips_at}

-- The bits in which two sync words are equal, by the order in which they are sent: the highest is
-- the first of eight, the lowest the eighth.
unfoldable pub equal_bits : ℕ → ℕ → List ℕ
equal_bits s t = those (λ k. eqb (bit s (8 - k)) (bit t (8 - k))) (from 1 8)

-- The one equal bit of the pair is sent as the k-th.
abbrev pub EqualBit : OneBalise → ℕ → Type 0
EqualBit o k = equal_bits o.s o.t ≡ k ∷ []

-- No forty bits in a row of the stretch hold more than so many flips, sync words included, at
-- whichever bit p of the stretch they begin. (`flips_at o p` counts the flips of the forty bits from
-- bit p on.) A stretch of fewer than forty bits has no forty in a row: of such a one it asks
-- nothing.
abbrev pub AtMostInForty : ℕ → OneBalise → Type 0
AtMostInForty most o = (p : ℕ) → o.start ≤ p → p + 40 ≤ o.start + o.len → flips_at o p ≤ most
