-- The codes are linear: counts, figures and the exchange of an exclusive or are those of its two
-- parts together.
-- Assumes nothing.
use mathlib.Core.Path.{◌≡◌, refl, sym, ap, ap₂, ◌∙◌}
use mathlib.Core.Bool.{Bool, true, false, ◌&&◌}
use mathlib.Core.List.{List, [], ◌∷◌}
use Prim.Native.Nat.{ℕ, zero, suc, ◌+◌, ◌*◌, ◌%◌, ◌^◌, ◌<◌}
use native.Mathlib.Omega.{arith}
use lib.Dec.{eqb}
use lib.Bits.{bit_xor, differ, xor_block, xor_lt}
use borrow.Author.Tests.{eqb-true}
use Rattle.words.specs.Answer.{pick}
use Rattle.words.specs.Bits.{bit}
use Rattle.words.specs.Plain.{covers, count, even, checks, all_even, is_code, is_check, onwards, figure}
use Rattle.words.specs.Code.{other, exchanged}
use Rattle.words.proofs.Digits.{bit_lt, two_bits, xor_bit, bit_xor_law, word_lt, bits_ext}
use Rattle.words.proofs.Counting.{bit_exchanged}

mixed : (p x y : ℕ) → x < 2 → y < 2 → p * differ x y % 2 ≡ (p * x + p * y) % 2
mixed p = two_bits (λ x y. p * differ x y % 2 ≡ (p * x + p * y) % 2) (omega arith) (omega arith) (omega arith) (omega arith)

-- A count of ones of an exclusive or is odd where the two counts together are.
pub count_xor : (p : ℕ → ℕ) (a b n : ℕ) → count p (bit_xor a b) n % 2 ≡ (count p a n + count p b n) % 2
unfolding count
count_xor p a b zero = refl
count_xor p a b (suc n) =
    let here : p n * bit (bit_xor a b) n % 2 ≡ (p n * bit a n + p n * bit b n) % 2 =
    ap (λ (k : ℕ). p n * k % 2) (bit_xor_law a b n) ∙ mixed (p n) (bit a n) (bit b n) (bit_lt a n) (bit_lt b n) in
    let rest : count p (bit_xor a b) n % 2 ≡ (count p a n + count p b n) % 2 = count_xor p a b n in
    sums (p n * bit (bit_xor a b) n) (p n * bit a n) (p n * bit b n) (count p (bit_xor a b) n) (count p a n) (count p b n) here rest
  where
    sums : (x y z u v w : ℕ) → x % 2 ≡ (y + z) % 2 → u % 2 ≡ (v + w) % 2 → (x + u) % 2 ≡ ((y + v) + (z + w)) % 2
    sums x y z u v w e f = omega arith

even_xor : (n a b c : ℕ) → even n a c ≡ true → even n (bit_xor a b) c ≡ even n b c
unfolding even
even_xor n a b c e =
    let zero_is : count (covers c) a n % 2 ≡ 0 = eqb-true (count (covers c) a n % 2) 0 e in
    ap (λ (k : ℕ). eqb k 0) (count_xor (covers c) a b n ∙ drops (count (covers c) a n) (count (covers c) b n) zero_is)
  where
    drops : (x y : ℕ) → x % 2 ≡ 0 → (x + y) % 2 ≡ y % 2
    drops x y h = omega arith

-- The parts of a conjunction that holds.
pub and_parts : (a b : Bool) → (a && b) ≡ true → (a ≡ true) × (b ≡ true)
and_parts true b e = (refl, e)
and_parts false true e = (e, refl)
and_parts false false e = (e, e)

all_xor : (n a b : ℕ) (cs : List ℕ) → all_even n a cs ≡ true → all_even n (bit_xor a b) cs ≡ all_even n b cs
all_xor n a b [] e = refl
all_xor n a b (c ∷ cs) e =
    let parts = and_parts (even n a c) (all_even n a cs) e in
    ap₂ ◌&&◌ (even_xor n a b c parts.0) (all_xor n a b cs parts.1)

-- Added to a code word, b makes a code word exactly if it is one.
pub is_code_xor : (n a b : ℕ) → is_code n a ≡ true → is_code n (bit_xor a b) ≡ is_code n b
unfolding is_code
is_code_xor n a b e = all_xor n a b checks e

onwards_xor : (a b n x y : ℕ) → onwards (bit_xor a b) n (bit_xor x y) ≡ bit_xor (onwards a n x) (onwards b n y)
unfolding onwards
onwards_xor a b zero x y = refl
onwards_xor a b (suc n) x y = go (is_check n) (λ u v. onwards_xor a b n u v)
  where
    go : (t : Bool) → ((u v : ℕ) → onwards (bit_xor a b) n (bit_xor u v) ≡ bit_xor (onwards a n u) (onwards b n v))
        → onwards (bit_xor a b) n (pick t (bit_xor x y) (bit_xor x y * 2 + bit (bit_xor a b) n))
        ≡ bit_xor (onwards a n (pick t x (x * 2 + bit a n))) (onwards b n (pick t y (y * 2 + bit b n)))
    go true ih = ih x y
    go false ih =
        ap (onwards (bit_xor a b) n) (ap (λ (k : ℕ). bit_xor x y * 2 + k) (bit_xor_law a b n ∙ sym (xor_bit (bit a n) (bit b n) (bit_lt a n) (bit_lt b n)))
        ∙ sym (xor_block 1 x y (bit a n) (bit b n) (bit_lt a n) (bit_lt b n))) ∙ ih (x * 2 + bit a n) (y * 2 + bit b n)

-- Figures add bit by bit without carry.
pub figure_xor : (n a b : ℕ) → figure n (bit_xor a b) ≡ bit_xor (figure n a) (figure n b)
unfolding figure
figure_xor n a b = onwards_xor a b n 0 0

-- A word of n bits with its bits exchanged has n bits.
pub exchanged_lt : (n w : ℕ) → exchanged n w < 2 ^ n
unfolding exchanged
exchanged_lt n w = word_lt (λ i. bit w (other i)) (λ i. bit_lt w (other i)) n

-- The exchange of an exclusive or.
pub exchanged_xor : (n a b : ℕ) → exchanged n (bit_xor a b) ≡ bit_xor (exchanged n a) (exchanged n b)
exchanged_xor n a b =
    bits_ext (exchanged n (bit_xor a b)) (bit_xor (exchanged n a) (exchanged n b)) n (exchanged_lt n (bit_xor a b))
    (xor_lt n (exchanged n a) (exchanged n b) (exchanged_lt n a) (exchanged_lt n b))
    (λ i h. bit_exchanged n (bit_xor a b) i h ∙ bit_xor_law a b (other i)
    ∙ ap₂ differ (sym (bit_exchanged n a i h)) (sym (bit_exchanged n b i h)) ∙ sym (bit_xor_law (exchanged n a) (exchanged n b) i))
