-- The ones of S xor S* are the bits in which the two differ; and what the answer about a pair shows
-- of it.
-- Assumes nothing.
use mathlib.Core.Path.{◌≡◌, refl, ap₂, ◌∙◌}
use Prim.Native.Nat.{ℕ, zero, suc, ◌+◌, ◌^◌, ◌<◌}
use mathlib.Core.Bool.{Bool, true, false}
use lib.Dec.{eqb}
use lib.Bits.{bit_xor, differ, xor_lt}
use lib.Count.{ones}
use Rattle.words.specs.Answer.{Outcome, gives, refuses, pick}
use Rattle.words.specs.Bits.{bit}
use Rattle.words.proofs.Digits.{bit_lt, two_bits, bit_xor_law}
use Rattle.words.proofs.Ones.{ones_is}
use Rattle.telegram.specs.Sync.{differing, is_good, Good, good, good_pair}
use Rattle.words.proofs.HowMany.{ones_of}

-- two bits differ, or they do not
differ_pick : (x y : ℕ) → x < 2 → y < 2 → differ x y ≡ pick (eqb x y) 0 1
differ_pick = two_bits (λ x y. differ x y ≡ pick (eqb x y) 0 1) refl refl refl refl

ones_differing : (s t n : ℕ) → ones_of (bit_xor s t) n ≡ differing s t n
unfolding ones_of differing
ones_differing s t zero = refl
ones_differing s t (suc n) =
    ap₂ ◌+◌ (bit_xor_law s t n ∙ differ_pick (bit s n) (bit t n) (bit_lt s n) (bit_lt t n)) (ones_differing s t n)

pub differing_is : (s t : ℕ) → s < 2 ^ 8 → t < 2 ^ 8 → ones (bit_xor s t) ≡ differing s t 8
differing_is s t hs ht = ones_is (bit_xor s t) 8 (xor_lt 8 s t hs ht) ∙ ones_differing s t 8

module _ (s t : ℕ) where
  -- A pair that is called good is good,
  pub is_good_law : gives good ≡ good_pair s t → is_good s t ≡ true
  unfolding good_pair
  is_good_law e = go (is_good s t) e
    where
      go : (b : Bool) → ◌≡◌ {A = Outcome Good} (gives good) (pick b (gives good) (refuses 4)) → b ≡ true
      go true e = refl
      go false e = cc

  -- and one that is refused is not.
  pub not_good : refuses 4 ≡ good_pair s t → is_good s t ≡ false
  unfolding good_pair
  not_good e = go (is_good s t) e
    where
      go : (b : Bool) → ◌≡◌ {A = Outcome Good} (refuses 4) (pick b (gives good) (refuses 4)) → b ≡ false
      go false e = refl
      go true e = cc
