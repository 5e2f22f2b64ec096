-- The short code has sixteen words: a byte is one of them exactly if it is the word of its high
-- four bits, which are its figure. One computed test over the 256 bytes.
-- Assumes nothing.
use mathlib.Core.Path.{◌≡◌, refl}
use mathlib.Core.Bool.{Bool, true, false, not}
use mathlib.Core.List.{List, [], ◌∷◌}
use Prim.Native.Nat.{ℕ, ◌/◌, ◌<◌}
use lib.Dec.{T, eqb, eqb→eq}
use lib.ListN.{get_or}
use Rattle.words.specs.Bits.{word}
use Rattle.words.specs.Plain.{is_check, covers, count, even, is_code, onwards, figure}
use Rattle.words.specs.Code.{other, exchanged}
use Rattle.words.proofs.Ranges.{both, both_left, both_right, below}

-- M(8,4) for 0 to 15, as document 01 prints it.
abbrev pub M8 : List ℕ
M8 =
    0x00 ∷ 0x17 ∷ 0x2B ∷ 0x3C ∷ 0x4D ∷ 0x5A ∷ 0x66 ∷ 0x71 ∷ 0x8E ∷ 0x99 ∷ 0xA5 ∷ 0xB2 ∷ 0xC3 ∷ 0xD4 ∷ 0xE8 ∷ 0xFF ∷ []

-- Whether a byte is the word of its high four bits.
abbrev pub listed : ℕ → Bool
listed w = eqb (get_or M8 (w / 16) 0) w

alike : Bool → Bool → Bool
alike true b = b
alike false b = not b

alike_is : (a b : Bool) → T (alike a b) → a ≡ b
unfolding alike
alike_is true true t = refl
alike_is true false t = absurd t
alike_is false true t = absurd t
alike_is false false t = refl

test : ℕ → Bool
test w = both (alike (listed w) (is_code 8 (exchanged 8 w))) (eqb (w / 16) (figure 8 (exchanged 8 w)))

tested : (w : ℕ) → w < 256 → T (test w)
unfolding test alike is_code even count covers exchanged word other figure onwards is_check
tested w small = below test 256 tt w small

pub listed_is : (w : ℕ) → w < 256 → listed w ≡ is_code 8 (exchanged 8 w)
unfolding test
listed_is w small =
    alike_is (listed w) (is_code 8 (exchanged 8 w))
    (both_left (alike (listed w) (is_code 8 (exchanged 8 w))) (eqb (w / 16) (figure 8 (exchanged 8 w))) (tested w small))

pub high_four : (w : ℕ) → w < 256 → w / 16 ≡ figure 8 (exchanged 8 w)
unfolding test
high_four w small =
    eqb→eq (w / 16) (figure 8 (exchanged 8 w))
    (both_right (alike (listed w) (is_code 8 (exchanged 8 w))) (eqb (w / 16) (figure 8 (exchanged 8 w))) (tested w small))
