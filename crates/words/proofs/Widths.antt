-- The two widths, 8 and 16 bits: the exchange stays within each, undoes itself, and keeps the
-- number of ones.
-- Assumes nothing.
use mathlib.Core.Path.{◌≡◌, refl, sym, ap, ap₂, ◌∙◌}
use mathlib.Core.Bool.{Bool}
use Prim.Native.Nat.{ℕ, zero, suc, ◌+◌, ◌^◌, ◌≤◌, ◌<◌}
use native.Mathlib.Nat.{lt-suc_self, lt_of_lt_of_le}
use native.Mathlib.Omega.{arith}
use lib.Dec.{eqb, ltb, eqb→eq, ltb→lt, lit<, lit≤}
use Rattle.words.specs.Bits.{bit}
use Rattle.words.specs.Code.{other, exchanged}
use Rattle.words.proofs.Digits.{bits_ext}
use Rattle.words.proofs.Counting.{bit_exchanged}
use Rattle.words.proofs.Ranges.{below}
use Rattle.words.proofs.Linear.{exchanged_lt}
use Rattle.words.proofs.HowMany.{ones_of}

-- The number of bits of a short word, or of a long one.
pub data Width : ℕ → Type 0 where
  short : Width 8
  long : Width 16

pub width_le : {n : ℕ} → Width n → n ≤ 16
width_le short = lit≤ tt
width_le long = lit≤ tt

pub width_pos : {n : ℕ} → Width n → 0 < n
width_pos short = lit< tt
width_pos long = lit< tt

-- the exchange keeps position i within n, and undoes itself there
stays : ℕ → ℕ → Bool
stays n i = ltb (other i) n

back : ℕ → Bool
back i = eqb (other (other i)) i

other_within : {n : ℕ} → Width n → (i : ℕ) → i < n → other i < n
unfolding stays other
other_within short i l = ltb→lt (other i) 8 (below (stays 8) 8 tt i l)
other_within long i l = ltb→lt (other i) 16 (below (stays 16) 16 tt i l)

-- The exchange undoes itself.
pub other_other : (i : ℕ) → i < 16 → other (other i) ≡ i
unfolding back other
other_other i l = eqb→eq (other (other i)) i (below back 16 tt i l)

-- Exchanged twice, a word is itself.
pub exchanged_twice : {n : ℕ} → Width n → (w : ℕ) → w < 2 ^ n → exchanged n (exchanged n w) ≡ w
exchanged_twice {n} wide w small =
    bits_ext (exchanged n (exchanged n w)) w n (exchanged_lt n (exchanged n w)) small
    (λ i l. bit_exchanged n (exchanged n w) i l ∙ bit_exchanged n w (other i) (other_within wide i l)
    ∙ ap (bit w) (other_other i (lt_of_lt_of_le l (width_le wide))))

-- a sum over the positions below n
abbrev pub sum : (ℕ → ℕ) → ℕ → ℕ
sum f zero = 0
sum f (suc n) = f n + sum f n

-- in another order
pub sum_other : {n : ℕ} → Width n → (f : ℕ → ℕ) → sum (λ i. f (other i)) n ≡ sum f n
unfolding other
sum_other short f = omega arith
sum_other long f = omega arith

ones_sum : (w n : ℕ) → ones_of w n ≡ sum (bit w) n
unfolding ones_of
ones_sum w zero = refl
ones_sum w (suc n) = ap (λ (k : ℕ). bit w n + k) (ones_sum w n)

pub sum_ext : (f g : ℕ → ℕ) (n : ℕ) → ((i : ℕ) → i < n → f i ≡ g i) → sum f n ≡ sum g n
sum_ext f g zero same = refl
sum_ext f g (suc n) same = ap₂ ◌+◌ (same n (lt-suc_self n)) (sum_ext f g n (λ i l. same i (lt_of_lt_of_le l (omega arith))))

-- The exchange moves ones and makes none.
pub ones_exchanged : {n : ℕ} → Width n → (w : ℕ) → ones_of (exchanged n w) n ≡ ones_of w n
ones_exchanged {n} wide w =
    ones_sum (exchanged n w) n ∙ sum_ext (bit (exchanged n w)) (λ i. bit w (other i)) n (bit_exchanged n w)
    ∙ sum_other wide (bit w) ∙ sym (ones_sum w n)
