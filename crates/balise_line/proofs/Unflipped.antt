-- A telegram that lies with both its sync words in the stretch, unflipped, is at a place.
-- Assumes nothing.
use mathlib.Core.Path.{◌≡◌, refl, sym, ap, ◌∙◌}
use mathlib.Core.Bool.{Bool, true, false, ◌&&◌, ◌||◌}
use Prim.Native.Nat.{ℕ, ◌+◌, ◌*◌, ◌/◌, ◌%◌, ◌≤◌, ◌<◌}
use native.Mathlib.Omega.{arith}
use lib.Dec.{eqb}
use borrow.Author.Tests.{eqb-true, eqb-false, eq-eqb}
use Rattle.words.specs.Answer.{gives}
use Rattle.words.specs.Plain.{among}
use Rattle.telegram.specs.Stretch.{bit_at, bits_at}
use Rattle.telegram.specs.Place.{are_syncs, words_at, accepted, is_place, places}
use Rattle.balise_line.specs.Line.{OneBalise, Proper, repeated, sent_bit, flip, line_bit, sent_at, flips_at, places_of}
use Rattle.balise_line.proofs.Bits.{spelt_alike}
use Rattle.balise_line.proofs.Round.{data_sent, first_sync, second_sync, word_x, word_y, word_z}
use Rattle.balise_line.proofs.Window.{unflipped_bit, no_flip}
use Rattle.balise_line.proofs.Places.{and_true, or_left, or_right, parts_place, lists}
use Rattle.balise_line.proofs.Sent.{same_words_law, sent_parts}

module _ (o : OneBalise) (proper : Proper o) (p : ℕ) (after-start : o.start ≤ p) (before_end : p + 40 ≤ o.start + o.len)
    (aligned : line_bit o p % 32 ≡ 0) (quiet : (i : ℕ) → i < 40 → flip o (line_bit o p + i) ≡ 0) where
  abbrev q : ℕ
  q = line_bit o p

  received : (i : ℕ) → i < 40 → bit_at o.buffer (p + i) ≡ sent_bit o (q + i)
  received i l = unflipped_bit o p after-start before_end i l (quiet i l)

  -- the byte d bits after the beginning is the one at bit m of what is repeated
  byte_is : (d m : ℕ) → d ≤ 32 → ((i : ℕ) → i < 8 → (q + (d + i)) % 64 ≡ m + i) → bits_at o.buffer (p + d) 8 ≡ bits_at (repeated o) m 8
  unfolding sent_bit
  byte_is d m l at =
      spelt_alike o.buffer (repeated o) (p + d) m 8
      (λ i k. let here : p + d + i ≡ p + (d + i) = omega arith in
      ap (bit_at o.buffer) here ∙ received (d + i) (omega arith) ∙ ap (bit_at (repeated o)) (at i k))

  -- so are the words
  word_is : (d : ℕ) → 8 ≤ d → d ≤ 24 → bits_at o.buffer (p + d) 8 ≡ bits_at (repeated o) d 8
  word_is d l h =
      spelt_alike o.buffer (repeated o) (p + d) d 8
      (λ i k. let here : p + d + i ≡ p + (d + i) = omega arith in
      let line : q + (d + i) ≡ 32 * (q / 32) + (d + i) = omega arith in
      ap (bit_at o.buffer) here ∙ received (d + i) (omega arith) ∙ ap (sent_bit o) line ∙ data_sent o (q / 32) (d + i) (omega arith) (omega arith))

  words_are : words_at o.buffer p ≡ gives o.telegram
  words_are =
      same_words_law o p (word_is 8 (omega arith) (omega arith) ∙ word_x o proper) (word_is 16 (omega arith) (omega arith) ∙ word_y o proper)
      (word_is 24 (omega arith) (omega arith) ∙ word_z o proper) ∙ proper.valid

  syncs_are : are_syncs o.s o.t (bits_at o.buffer p 8) (bits_at o.buffer (p + 32) 8) ≡ true
  unfolding are_syncs
  syncs_are = go (eqb (q % 64) 0) refl
    where
      a : ℕ
      a = bits_at o.buffer p 8

      z : ℕ
      z = bits_at o.buffer (p + 32) 8

      none : p + 0 ≡ p
      none = omega arith

      first : (m w : ℕ) → ((i : ℕ) → i < 8 → (q + (0 + i)) % 64 ≡ m + i) → bits_at (repeated o) m 8 ≡ w → eqb a w ≡ true
      first m w at is = eq-eqb a w (ap (λ (k : ℕ). bits_at o.buffer k 8) (sym none) ∙ byte_is 0 m (omega arith) at ∙ is)

      second : (m w : ℕ) → ((i : ℕ) → i < 8 → (q + (32 + i)) % 64 ≡ m + i) → bits_at (repeated o) m 8 ≡ w → eqb z w ≡ true
      second m w at is = eq-eqb z w (byte_is 32 m (omega arith) at ∙ is)

      go : (t : Bool) → eqb (q % 64) 0 ≡ t → (eqb a o.s && eqb z o.t) || (eqb a o.t && eqb z o.s) ≡ true
      go true is =
          let even : q % 64 ≡ 0 = eqb-true (q % 64) 0 is in
          or_left (eqb a o.t && eqb z o.s)
          (and_true (first 0 o.s (λ i l. omega arith) (first_sync o proper)) (second 32 o.t (λ i l. omega arith) (second_sync o proper)))
      go false is =
          let not_even : q % 64 ≡ 0 → ⊥ = eqb-false (q % 64) 0 is in
          let odd : q % 64 ≡ 32 = omega arith in
          or_right (eqb a o.s && eqb z o.t)
          (and_true (first 32 o.t (λ i l. omega arith) (second_sync o proper)) (second 0 o.s (λ i l. omega arith) (first_sync o proper)))

  is_a_place : is_place o.buffer o.start o.len o.s o.t p ≡ true
  is_a_place = parts_place o.buffer o.start o.len o.s o.t p before_end syncs_are (ap accepted words_are)

pub unflipped_place : (o : OneBalise) → Proper o → (p : ℕ) → sent_at o p ≡ true → flips_at o p ≡ 0 → is_place o.buffer o.start o.len o.s o.t p ≡ true
unfolding flips_at
unflipped_place o proper p sent none =
    let h = sent_parts o p sent in
    is_a_place o proper p h.0 h.1 h.2 (no_flip o (line_bit o p) 40 none)

-- There the telegram sent is read.
pub unflipped_words : (o : OneBalise) → Proper o → (p : ℕ) → sent_at o p ≡ true → flips_at o p ≡ 0 → words_at o.buffer p ≡ gives o.telegram
unfolding flips_at
unflipped_words o proper p sent none =
    let h = sent_parts o p sent in
    words_are o proper p h.0 h.1 h.2 (no_flip o (line_bit o p) 40 none)

-- And so it is among the places.
pub unflipped_among : (o : OneBalise) → Proper o → (p : ℕ) → sent_at o p ≡ true → flips_at o p ≡ 0 → among p (places_of o) ≡ true
unfolding places
unflipped_among o proper p sent none =
    let h = sent_parts o p sent in
    let low : o.start ≤ p = h.0 in
    let high : p + 40 ≤ o.start + o.len = h.1 in
    lists (is_place o.buffer o.start o.len o.s o.t) p o.start o.len low (omega arith) (unflipped_place o proper p sent none)
