-- The plain code H (document 01, "The two codes"), for words of n bits: 8 for the short code, 16
-- for the long one. "Bits 8, 4, 2, 1, 0 are checks, the rest carry the figure, highest first. Check
-- 2^k makes the count of ones even over the positions whose number has 2^k in it; check 0 makes the
-- whole word even." A word of 8 bits has no position 8; check 8 covers none of its positions, and
-- so asks nothing of it.
-- Assumes nothing.
use Rattle.std.specs.Prelude.{ℕ, zero, suc, ◌+◌, ◌*◌, ◌/◌, ◌%◌, ◌^◌, Bool, true, false, ◌&&◌, ◌||◌, List, [], ◌∷◌, eqb}
use Rattle.words.specs.Answer.{pick}
use Rattle.words.specs.Bits.{bit, word}

-- The checks, by their positions.
abbrev pub checks : List ℕ
checks = 8 ∷ 4 ∷ 2 ∷ 1 ∷ 0 ∷ []

-- Whether the position i is one of those listed.
abbrev pub among : ℕ → List ℕ → Bool
among i [] = false
among i (c ∷ cs) = eqb i c || among i cs

-- Whether the position i is a check.
unfoldable pub is_check : ℕ → Bool
is_check i = among i checks

-- 1 if check c looks at the position i, else 0: check 0 looks at every one, check 2^k at those
-- whose number has 2^k in it.
unfoldable pub covers : ℕ → ℕ → ℕ
covers c i = pick (eqb c 0) 1 (i / c % 2)

-- How many ones the word h has at the positions below n that p marks with 1.
unfoldable pub count : (ℕ → ℕ) → ℕ → ℕ → ℕ
count p h zero = 0
count p h (suc n) = p n * bit h n + count p h n

-- Whether check c finds an even count of ones in the word h of n bits.
unfoldable pub even : ℕ → ℕ → ℕ → Bool
even n h c = eqb (count (covers c) h n % 2) 0

-- Whether each of the checks listed is even.
abbrev pub all_even : ℕ → ℕ → List ℕ → Bool
all_even n h [] = true
all_even n h (c ∷ cs) = even n h c && all_even n h cs

-- A code word is one whose every check is even.
unfoldable pub is_code : ℕ → ℕ → Bool
is_code n h = all_even n h checks

-- The figure so far, a, continued by the positions below n, highest first; the checks are passed
-- over.
unfoldable pub onwards : ℕ → ℕ → ℕ → ℕ
onwards h zero a = a
onwards h (suc n) a = onwards h n (pick (is_check n) a (a * 2 + bit h n))

-- The figure that the word h of n bits carries.
unfoldable pub figure : ℕ → ℕ → ℕ
figure n h = onwards h n 0

-- How many positions below n carry a bit of the figure.
unfoldable pub carriers : ℕ → ℕ
carriers zero = 0
carriers (suc n) = pick (is_check n) (carriers n) (carriers n + 1)

-- The figure x in its positions, with 0 at each check: the lowest that carries has the figure's
-- lowest bit.
unfoldable pub carried : ℕ → ℕ → ℕ
carried n x = word (λ i. pick (is_check i) 0 (bit x (carriers i))) n

-- The word h, which has 0 at check c, with a one put there if the count is odd.
unfoldable pub made_even : ℕ → ℕ → ℕ → ℕ
made_even n h c = h + count (covers c) h n % 2 * 2 ^ c

-- The word h with the checks listed made even, one after the other.
abbrev pub all_made_even : ℕ → ℕ → List ℕ → ℕ
all_made_even n h [] = h
all_made_even n h (c ∷ cs) = all_made_even n (made_even n h c) cs

-- The code word of n bits that carries the figure x.
unfoldable pub plain_word : ℕ → ℕ → ℕ
plain_word n x = all_made_even n (carried n x) checks
