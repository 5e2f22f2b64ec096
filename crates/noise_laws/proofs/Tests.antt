-- Two places that overlap have the same words d bits apart, so a few of the bits give all of them.
-- What the sync words and X then can be, computed for every shift up to fourteen.
-- Assumes nothing.
use Prim.Native.Nat.{ℕ, zero, suc, ◌+◌, ◌-◌, ◌*◌, ◌%◌, ◌<◌}
use mathlib.Core.Bool.{Bool, true, not}
use mathlib.Core.List.{List}
use lib.Dec.{T, eqb, leb, ltb}
use lib.ListN.{get_or}
use Rattle.words.specs.Answer.{pick}
use Rattle.words.proofs.Ranges.{both, upto, below}
use Rattle.words.proofs.Short.{listed}
use Rattle.balise_line.specs.Line.{unequal, sum}
use Rattle.noise_laws.proofs.Every.{every}

-- The n bits of a line from bit a on, as a number.
unfoldable pub spelt : (ℕ → ℕ) → ℕ → ℕ → ℕ
spelt r a zero = 0
spelt r a (suc n) = spelt r a n * 2 + r (a + n)

-- Whether a byte is a short word, and not that of 15.
unfoldable pub is_short : ℕ → Bool
is_short x = both (listed x) (not (eqb x 255))

-- The line that repeats its first d bits, w.
abbrev pub round : (ℕ → ℕ) → ℕ → ℕ → ℕ
round w d i = w (i % d)

-- How many of the n bits from bit a on are zeroes.
unfoldable pub zs : (ℕ → ℕ) → ℕ → ℕ → ℕ
zs r a n = sum (λ i. 1 - r (a + i)) n

-- In how many bits the outer bytes of a place at bit 0 differ.
unfoldable pub outer : (ℕ → ℕ) → ℕ
outer r = sum (λ i. unequal (r i) (r (32 + i))) 8

-- Sync words in the same order, shift below eight, all bits repeating: X is no short word, or the
-- last d + 1 bits have three zeroes and the seventh bits of the sync words are equal.
unfoldable pub same_test : ℕ → (ℕ → ℕ) → Bool
same_test d w =
    pick (eqb (outer (round w d)) 7) (pick (is_short (spelt (round w d) 8 8)) (both (leb 3 (zs (round w d) 39 (d + 1))) (eqb (round w d 6) (round w d 38))) true) true

-- Sync words swapped, shift below eight: the bits from bit 8 on repeat; w has d of them and then
-- the last of the second sync word. It cannot be.
unfoldable pub second : ℕ → (ℕ → ℕ) → ℕ → ℕ
second d w i = pick (ltb i d) (round w d (24 + i)) (w i)

unfoldable pub swapped_test : ℕ → (ℕ → ℕ) → Bool
swapped_test d w =
    not (both (upto (λ i. eqb (w i) (second d w (8 - d + i))) d) (upto (λ i. eqb (unequal (second d w i) (second d w (i + d))) 1) (8 - d)))

-- Sync words swapped, shift eight or more: the bits from bit 8 on repeat, and the second sync word
-- is the one d bits after the first. All are zeroes, or there are too many zeroes at the end: four
-- at least, or three where the shift is eight.
unfoldable pub long_test : ℕ → (ℕ → ℕ) → Bool
long_test d w =
    pick (upto (λ i. eqb (round w d (d - 8 + i)) (round w d (24 + i))) 8)
    (pick (eqb (sum (round w d) d) 0) true (leb (pick (eqb d 8) 3 4 + zs (round w d) 24 8) (zs (round w d) 31 (d - 7) + 7))) true

-- The bits of a list, and those of two, the first of eight.
abbrev pub bits_of : List ℕ → ℕ → ℕ
bits_of l j = get_or l j 0

abbrev pub joined : List ℕ → List ℕ → ℕ → ℕ
joined x y j = pick (ltb j 8) (get_or x j 0) (get_or y (j - 8) 0)

pub same_tested : (d : ℕ) → d < 7 → T (every (suc d) (λ l. same_test (suc d) (bits_of l)))
unfolding same_test outer zs sum unequal is_short spelt
same_tested d l = below (λ d. every (suc d) (λ l. same_test (suc d) (bits_of l))) 7 tt d l

pub swapped_tested : (d : ℕ) → d < 7 → T (every 8 (λ l. swapped_test (suc d) (bits_of l)))
unfolding swapped_test second unequal
swapped_tested d l = below (λ d. every 8 (λ l. swapped_test (suc d) (bits_of l))) 7 tt d l

-- X first: there are fifteen.
abbrev pub long_all : ℕ → List ℕ → Bool
long_all n x = pick (is_short (spelt (bits_of x) 0 8)) (every n (λ y. long_test (8 + n) (joined x y))) true

pub long_tested : (n : ℕ) → n < 7 → T (every 8 (long_all n))
unfolding long_test zs sum is_short spelt
long_tested n l = below (λ n. every 8 (long_all n)) 7 tt n l
