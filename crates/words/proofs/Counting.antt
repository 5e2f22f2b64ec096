-- Laws of the checks' counts: each is a sum over the positions, and the exchange only says where a
-- position's bit stands.
-- Assumes nothing.
use mathlib.Core.Path.{◌≡◌, sym, ap, ◌∙◌}
use mathlib.Core.Bool.{Bool, true, false}
use Prim.Native.Nat.{ℕ, zero, suc, ◌+◌, ◌*◌, ◌/◌, ◌%◌, ◌≤◌, ◌<◌}
use native.Mathlib.Nat.{add_comm, le_refl, mod-lt, zero-lt-suc}
use native.Mathlib.Numerals.{add-one}
use native.Mathlib.Omega.{arith}
use lib.Dec.{eqb, lit<}
use Rattle.words.specs.Answer.{pick}
use Rattle.words.specs.Bits.{bit}
use Rattle.words.specs.Plain.{covers, count}
use Rattle.words.specs.Code.{other, exchanged}
use Rattle.words.proofs.Digits.{bit_lt, bit_mul, bit_word}

-- What either arm of a choice is below, the choice is below.
pub pick_lt : (b : Bool) (x y m : ℕ) → x < m → y < m → pick b x y < m
pick_lt true x y m hx hy = hx
pick_lt false x y m hx hy = hy

-- The exchange stays within sixteen positions.
pub other_lt : (i : ℕ) → i < 16 → other i < 16
unfolding other
other_lt i h =
    pick_lt (eqb i 3) 4 _ 16 (lit< tt) (pick_lt (eqb i 4) 3 _ 16 (lit< tt)
    (pick_lt (eqb i 11) 12 _ 16 (lit< tt) (pick_lt (eqb i 12) 11 _ 16 (lit< tt) h)))

-- Position i of the plain word has the sent word's bit at the position exchanged with i.
pub bit_exchanged : (n w i : ℕ) → i < n → bit (exchanged n w) i ≡ bit w (other i)
unfolding exchanged
bit_exchanged n w i h = bit_word (λ j. bit w (other j)) (λ j. bit_lt w (other j)) n i h

-- A check looks at a position once or not at all.
pub covers_lt : (c i : ℕ) → covers c i < 2
unfolding covers
covers_lt c i = pick_lt (eqb c 0) 1 (i / c % 2) 2 (lit< tt) (mod-lt (i / c) (zero-lt-suc 1))

-- No count is above the number of positions.
pub count_le : (c h n : ℕ) → count (covers c) h n ≤ n
unfolding count
count_le c h zero = le_refl 0
count_le c h (suc n) =
    let one : covers c n * bit h n < 2 = bit_mul (covers c n) (bit h n) (covers_lt c n) (bit_lt h n) in
    let rest : count (covers c) h n ≤ n = count_le c h n in
    omega arith

-- One position more.
pub count_more : (p : ℕ → ℕ) (h i : ℕ) → count p h i + p i * bit h i ≡ count p h (i + 1)
unfolding count
count_more p h i = add_comm (count p h i) (p i * bit h i) ∙ ap (count p h) (sym (add-one i))
