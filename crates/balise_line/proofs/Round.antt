-- The line: it sends the same data bits every 32 bits, and the two sync words in turn.
-- Assumes nothing.
use mathlib.Core.Path.{◌≡◌, refl, sym, ap, ap₂, ◌∙◌}
use mathlib.Core.Bool.{Bool, true, false}
use Prim.Native.Nat.{ℕ, zero, suc, ◌+◌, ◌-◌, ◌*◌, ◌/◌, ◌%◌, ◌^◌, ◌≤◌, ◌<◌}
use native.Mathlib.Omega.{arith}
use lib.Dec.{ltb}
use lib.ListN.{get_or}
use borrow.Author.Tests.{ltb-true, ltb-false, eqb-true}
use Rattle.telegram.specs.Stretch.{bit_at, bits_at}
use Rattle.telegram.specs.Sync.{differing, is_good}
use Rattle.telegram.proofs.Window.{cut}
use Rattle.balise_line.specs.Line.{OneBalise, Proper, repeated, sent_bit, sum, unequal}
use Rattle.balise_line.proofs.Sums.{unequal_sym}
use Rattle.balise_line.proofs.Bits.{byte_spelt, differing_bits}

module _ (o : OneBalise) where
  -- the words after the second sync word are those after the first
  again : (n : ℕ) → 1 ≤ n → n < 4 → get_or (repeated o) (n + 4) 0 ≡ get_or (repeated o) n 0
  again zero l h = absurd (omega arith)
  again (suc zero) l h = refl
  again (suc (suc zero)) l h = refl
  again (suc (suc (suc zero))) l h = refl
  again (suc (suc (suc (suc n)))) l h = absurd (omega arith)

  data_again : (i : ℕ) → 8 ≤ i → i < 32 → bit_at (repeated o) (i + 32) ≡ bit_at (repeated o) i
  data_again i l h =
      let byte : (i + 32) / 8 ≡ i / 8 + 4 = omega arith in
      let place : (i + 32) % 8 ≡ i % 8 = omega arith in
      let low : 1 ≤ i / 8 = omega arith in
      let high : i / 8 < 4 = omega arith in
      ap₂ (λ (u v : ℕ). get_or (repeated o) u 0 / 2 ^ (7 - v) % 2) byte place
      ∙ ap (λ (w : ℕ). w / 2 ^ (7 - i % 8) % 2) (again (i / 8) low high)

  -- Data bits 32 apart are sent alike.
  pub data_alike : (j : ℕ) → 8 ≤ j % 32 → sent_bit o (j + 32) ≡ sent_bit o j
  unfolding sent_bit
  data_alike j l = go (ltb (j % 64) 32) refl
    where
      go : (t : Bool) → ltb (j % 64) 32 ≡ t → bit_at (repeated o) ((j + 32) % 64) ≡ bit_at (repeated o) (j % 64)
      go true is =
          let h : j % 64 < 32 = ltb-true (j % 64) 32 is in
          let later : (j + 32) % 64 ≡ j % 64 + 32 = omega arith in
          let low : 8 ≤ j % 64 = omega arith in
          ap (bit_at (repeated o)) later ∙ data_again (j % 64) low h
      go false is =
          let h : 32 ≤ j % 64 = ltb-false (j % 64) 32 is in
          let earlier : j % 64 ≡ (j + 32) % 64 + 32 = omega arith in
          let low : 8 ≤ (j + 32) % 64 = omega arith in
          let high : (j + 32) % 64 < 32 = omega arith in
          sym (ap (bit_at (repeated o)) earlier ∙ data_again ((j + 32) % 64) low high)

  -- 1 if bit i of the sync words, counted as sent, differs
  unfoldable pub pattern : ℕ → ℕ
  pattern i = unequal (bit_at (repeated o) (0 + i)) (bit_at (repeated o) (32 + i))

  -- Sync bits 32 apart are the same bit of the two sync words.
  pub sync_pattern : (j : ℕ) → j % 32 < 8 → unequal (sent_bit o j) (sent_bit o (j + 32)) ≡ pattern (j % 32)
  unfolding sent_bit pattern
  sync_pattern j l = go (ltb (j % 64) 32) refl
    where
      go : (t : Bool) → ltb (j % 64) 32 ≡ t
          → unequal (bit_at (repeated o) (j % 64)) (bit_at (repeated o) ((j + 32) % 64)) ≡ unequal (bit_at (repeated o) (0 + j % 32)) (bit_at (repeated o) (32 + j % 32))
      go true is =
          let h : j % 64 < 32 = ltb-true (j % 64) 32 is in
          let now : j % 64 ≡ 0 + j % 32 = omega arith in
          let later : (j + 32) % 64 ≡ 32 + j % 32 = omega arith in
          ap₂ (λ (u v : ℕ). unequal (bit_at (repeated o) u) (bit_at (repeated o) v)) now later
      go false is =
          let h : 32 ≤ j % 64 = ltb-false (j % 64) 32 is in
          let now : j % 64 ≡ 32 + j % 32 = omega arith in
          let later : (j + 32) % 64 ≡ 0 + j % 32 = omega arith in
          ap₂ (λ (u v : ℕ). unequal (bit_at (repeated o) u) (bit_at (repeated o) v)) now later
          ∙ unequal_sym (bit_at (repeated o) (32 + j % 32)) (bit_at (repeated o) (0 + j % 32))

  -- A telegram's data bits are those after the first sync word.
  pub data_sent : (k i : ℕ) → 8 ≤ i → i < 32 → sent_bit o (32 * k + i) ≡ bit_at (repeated o) i
  unfolding sent_bit
  data_sent k i l h = go (ltb ((32 * k + i) % 64) 32) refl
    where
      go : (t : Bool) → ltb ((32 * k + i) % 64) 32 ≡ t → bit_at (repeated o) ((32 * k + i) % 64) ≡ bit_at (repeated o) i
      go true is =
          let m : (32 * k + i) % 64 < 32 = ltb-true ((32 * k + i) % 64) 32 is in
          let same : (32 * k + i) % 64 ≡ i = omega arith in
          ap (bit_at (repeated o)) same
      go false is =
          let m : 32 ≤ (32 * k + i) % 64 = ltb-false ((32 * k + i) % 64) 32 is in
          let same : (32 * k + i) % 64 ≡ i + 32 = omega arith in
          ap (bit_at (repeated o)) same ∙ data_again i l h

  -- The bytes of the line, spelt by their bits.
  module _ (proper : Proper o) where
    pub first_sync : bits_at (repeated o) 0 8 ≡ o.s
    first_sync = byte_spelt (repeated o) 0 proper.bytes.0

    pub second_sync : bits_at (repeated o) 32 8 ≡ o.t
    second_sync = byte_spelt (repeated o) 4 proper.bytes.1

    pub word_x : bits_at (repeated o) 8 8 ≡ o.x
    word_x = byte_spelt (repeated o) 1 proper.bytes.2

    pub word_y : bits_at (repeated o) 16 8 ≡ o.y
    word_y = byte_spelt (repeated o) 2 proper.bytes.3

    pub word_z : bits_at (repeated o) 24 8 ≡ o.z
    word_z = byte_spelt (repeated o) 3 proper.bytes.4

    pub word_yz : bits_at (repeated o) 16 16 ≡ o.y * 256 + o.z
    word_yz = cut (repeated o) 16 8 8 ∙ ap₂ (λ (u v : ℕ). u * 256 + v) word_y word_z

    -- The sync words differ in seven bits.
    pub seven : sum pattern 8 ≡ 7
    unfolding pattern is_good
    seven =
        sym (differing_bits (repeated o) (repeated o) 0 32 8)
        ∙ ap₂ (λ (u v : ℕ). differing u v 8) first_sync second_sync ∙ eqb-true (differing o.s o.t 8) 7 proper.pair
