-- Ten bytes hold every sixteen bits in a row of a balise's line: what it repeats, and its first
-- sixteen bits once more.
-- Assumes nothing.
use Prim.Native.Nat.{ℕ, zero, suc, ◌+◌, ◌-◌, ◌/◌, ◌%◌, ◌^◌, ◌≤◌, ◌<◌}
use mathlib.Core.Path.{◌≡◌, refl, ap, ap₂, ◌∙◌}
use mathlib.Core.Bool.{Bool, ◌||◌}
use mathlib.Core.List.{List, [], ◌∷◌}
use native.Mathlib.Omega.{arith}
use lib.Dec.{ltb}
use lib.ListN.{get_or}
use Rattle.telegram.specs.Stretch.{bit_at}
use Rattle.balise_line.specs.Line.{OneBalise, repeated, sent_bit}
use Rattle.contact_laws.specs.Zeroes.{zeroes_in, zeroes_sent, fewest}
use Rattle.telegram.specs.Spelling.{Words}
use Rattle.audibility.specs.Sound.{some, is_broken, sending}

-- Tests that agree below n find one alike.
pub some_alike : (f g : ℕ → Bool) (n : ℕ) → ((i : ℕ) → i < n → f i ≡ g i) → some f n ≡ some g n
unfolding some
some_alike f g zero same = refl
some_alike f g (suc n) same = ap₂ ◌||◌ (same n (omega arith)) (some_alike f g n (λ i l. same i (omega arith)))

module _ (s t : ℕ) (w : Words) where
  abbrev pub ten : List ℕ
  ten = s ∷ w.x ∷ w.y ∷ w.z ∷ t ∷ w.x ∷ w.y ∷ w.z ∷ s ∷ w.x ∷ []

  abbrev o : OneBalise
  o = sending s t w

  byte : (k : ℕ) → k < 10 → get_or ten k 0 ≡ get_or (repeated o) (k % 8) 0
  byte zero l = refl
  byte (suc zero) l = refl
  byte (suc (suc zero)) l = refl
  byte (suc (suc (suc zero))) l = refl
  byte (suc (suc (suc (suc zero)))) l = refl
  byte (suc (suc (suc (suc (suc zero))))) l = refl
  byte (suc (suc (suc (suc (suc (suc zero)))))) l = refl
  byte (suc (suc (suc (suc (suc (suc (suc zero))))))) l = refl
  byte (suc (suc (suc (suc (suc (suc (suc (suc zero)))))))) l = refl
  byte (suc (suc (suc (suc (suc (suc (suc (suc (suc zero))))))))) l = refl
  byte (suc (suc (suc (suc (suc (suc (suc (suc (suc (suc k)))))))))) l = absurd (omega arith)

  bit_sent : (i : ℕ) → i < 80 → bit_at ten i ≡ sent_bit o i
  unfolding sent_bit
  bit_sent i l =
      let low : i / 8 < 10 = omega arith in
      let there : i / 8 % 8 ≡ i % 64 / 8 = omega arith in
      let place : i % 8 ≡ i % 64 % 8 = omega arith in
      ap (λ (v : ℕ). v / 2 ^ (7 - i % 8) % 2) (byte (i / 8) low)
      ∙ ap₂ (λ (u v : ℕ). get_or (repeated o) u 0 / 2 ^ (7 - v) % 2) there place

  zeroes_sent_law : (j n : ℕ) → j + n ≤ 80 → zeroes_in ten j n ≡ zeroes_sent o j n
  unfolding zeroes_in zeroes_sent
  zeroes_sent_law j zero l = refl
  zeroes_sent_law j (suc n) l = ap₂ (λ (u v : ℕ). u + (1 - v)) (zeroes_sent_law j n (omega arith)) (bit_sent (j + n) (omega arith))

  pub ten_broken : some (λ j. ltb (zeroes_in ten j 16) fewest) 64 ≡ is_broken o
  unfolding is_broken
  ten_broken =
      some_alike (λ j. ltb (zeroes_in ten j 16) fewest) (λ j. ltb (zeroes_sent o j 16) fewest) 64
      (λ j l. ap (λ (v : ℕ). ltb v fewest) (zeroes_sent_law j 16 (omega arith)))
