-- What is promised of noise on a lead holds.
-- Assumes nothing.
use Prim.Native.Nat.{ℕ, suc, ◌+◌, ◌-◌, ◌*◌, ◌/◌, ◌%◌, ◌≤◌, ◌<◌}
use mathlib.Core.Path.{◌≡◌, refl, sym, ap, ap₂, ◌∙◌}
use mathlib.Core.Bool.{Bool, true, false, ◌&&◌}
use mathlib.Core.List.{List, ◌++◌}
use native.Mathlib.Omega.{arith}
use lib.Dec.{leb, ltb}
use lib.ListN.{length, get_or, length-append, get_or-append}
use lib.Seq.{get_or-append-add}
use borrow.Author.Tests.{lt-ltb, le-ltb, ltb-true, ltb-false}
use Rattle.words.specs.Answer.{pick}
use Rattle.words.specs.Bits.{bit}
use Rattle.words.proofs.Digits.{word_bits, word_ext}
use Rattle.lead_noise.specs.Generator.{drawn, flips}
use Rattle.lead_noise.specs.Noise.{noisy_bit, noisy_byte, frames_of, bits_before, is_line, noisy_at, listed, with_noise}
use Rattle.lead_noise.specs.Laws.{AnyPieces, NoneAtZero}
use Rattle.lead_noise.proofs.Bytes.{drawn_on, later_byte}
use Rattle.lead_noise.proofs.SoFar.{listed_length, listed_at, is_listed}

-- Two tests that are equivalent are equal.
same_test : (a b c d : ℕ) → (a < b → c < d) → (b ≤ a → d ≤ c) → ltb a b ≡ ltb c d
same_test a b c d below above = go (ltb a b) refl
  where
    go : (t : Bool) → ltb a b ≡ t → t ≡ ltb c d
    go true is = sym (lt-ltb c d (below (ltb-true a b is)))
    go false is = sym (le-ltb c d (above (ltb-false a b is)))

module _ (x chance m : ℕ) (a b : List ℕ) (frames : length a ≡ 16 * m) where
  -- In the first piece,
  first_part : (i : ℕ) → i < length a → noisy_at x chance (a ++ b) i ≡ noisy_at x chance a i
  unfolding noisy_at is_line
  first_part i less =
      ap₂ (λ (t : Bool) (v : ℕ). pick (t && leb 4 (i % 16)) (noisy_byte x chance (bits_before i) v) v)
      (same_test (i / 16) (length (a ++ b) / 16) (i / 16) (length a / 16) (λ l. omega arith) (λ l. omega (arith, length-append a b)))
      (get_or-append a b 0 i less)

  -- and in the second.
  second_part : (k : ℕ) → noisy_at x chance (a ++ b) (length a + k) ≡ noisy_at (drawn x (96 * frames_of a)) chance b k
  unfolding noisy_at is_line
  second_part k =
      let bits : bits_before (length a + k) ≡ 96 * frames_of a + bits_before k = omega arith in
      let low : (length a + k) % 16 ≡ k % 16 = omega arith in
      let test = same_test ((length a + k) / 16) (length (a ++ b) / 16) (k / 16) (length b / 16) (λ l. omega (arith, length-append a b)) (λ l. omega (arith, length-append a b)) in
      let byte = get_or-append-add a b k 0 in
      let noise = ap (λ (j : ℕ). noisy_byte x chance j (get_or b k 0)) bits ∙ later_byte x chance (96 * frames_of a) (bits_before k) (get_or b k 0) in
      ap₂ (λ (t : Bool) (v : ℕ). pick (t && leb 4 ((length a + k) % 16)) (noisy_byte x chance (bits_before (length a + k)) v) v) test byte
      ∙ ap₂ (λ (l v : ℕ). pick (ltb (k / 16) (length b / 16) && leb 4 l) v (get_or b k 0)) low noise

pub any_pieces : AnyPieces
unfolding with_noise
any_pieces x chance m a b frames =
    ap₂ (λ (l : List ℕ) (y : ℕ). record { lead = l; x = y }) (sym (is_listed (noisy_at x chance (a ++ b)) (length (a ++ b)) (one ++ two) long each)) numbers
  where
    there : ℕ
    there = drawn x (96 * frames_of a)

    one : List ℕ
    one = listed (noisy_at x chance a) (length a)

    two : List ℕ
    two = listed (noisy_at there chance b) (length b)

    one_long : length one ≡ length a
    one_long = listed_length (noisy_at x chance a) (length a)

    long : length (one ++ two) ≡ length (a ++ b)
    long = length-append one two ∙ ap₂ ◌+◌ one_long (listed_length (noisy_at there chance b) (length b)) ∙ sym (length-append a b)

    numbers : drawn x (96 * frames_of (a ++ b)) ≡ drawn there (96 * frames_of b)
    numbers =
        let e : 96 * frames_of (a ++ b) ≡ 96 * frames_of a + 96 * frames_of b = omega (arith, length-append a b) in
        ap (drawn x) e ∙ drawn_on x (96 * frames_of a) (96 * frames_of b)

    side : (i : ℕ) → i < length (a ++ b) → (t : Bool) → ltb i (length a) ≡ t → get_or (one ++ two) i 0 ≡ noisy_at x chance (a ++ b) i
    side i less true is =
        let l : i < length a = ltb-true i (length a) is in
        get_or-append one two 0 i (omega (arith, one_long)) ∙ listed_at (noisy_at x chance a) (length a) i l ∙ sym (first_part x chance m a b frames i l)
    side i less false is =
        let h : length a ≤ i = ltb-false i (length a) is in
        let k : ℕ = i - length a in
        let e : i ≡ length one + k = omega (arith, one_long) in
        let f : length a + k ≡ i = omega arith in
        ap (λ (j : ℕ). get_or (one ++ two) j 0) e ∙ get_or-append-add one two k 0 ∙ listed_at (noisy_at there chance b) (length b) k (omega (arith, length-append a b))
        ∙ sym (second_part x chance m a b frames k) ∙ ap (noisy_at x chance (a ++ b)) f

    each : (i : ℕ) → i < length (a ++ b) → get_or (one ++ two) i 0 ≡ noisy_at x chance (a ++ b) i
    each i less = side i less (ltb i (length a)) refl

clean : (x j b : ℕ) → b < 256 → b ≡ noisy_byte x 0 j b
unfolding noisy_byte flips
clean x j b low =
    sym (word_bits b 8 low)
    ∙ word_ext (bit b) (λ i. noisy_bit (flips x 0 (j + (7 - i))) (bit b i)) 8
    (λ i l. ap (λ (t : Bool). noisy_bit t (bit b i)) (sym (le-ltb (drawn x (suc (j + (7 - i))) % 1000000) 0 (omega arith))))

pub none_at_zero : NoneAtZero
unfolding with_noise noisy_at
none_at_zero x lead bytes = sym (is_listed (noisy_at x 0 lead) (length lead) lead refl (λ i l. go i (is_line lead i)))
  where
    go : (i : ℕ) (t : Bool) → get_or lead i 0 ≡ pick t (noisy_byte x 0 (bits_before i) (get_or lead i 0)) (get_or lead i 0)
    go i true = clean x (bits_before i) (get_or lead i 0) (bytes i)
    go i false = refl
