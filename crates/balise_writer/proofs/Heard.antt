-- What is written is one balise's line, received clean; so its places are 0, 32, .., one for each
-- telegram.
-- Assumes nothing.
use mathlib.Core.Path.{◌≡◌, refl, sym, ap, ap₂, ◌∙◌}
use mathlib.Core.Bool.{Bool, true, false}
use mathlib.Core.List.{List, [], ◌∷◌, ◌++◌, map}
use Prim.Native.Nat.{ℕ, zero, suc, ◌+◌, ◌-◌, ◌*◌, ◌/◌, ◌%◌, ◌^◌, ◌≤◌, ◌<◌}
use native.Mathlib.Omega.{arith}
use lib.ListN.{length, get_or, get_or-append}
use Rattle.words.specs.Answer.{pick}
use Rattle.telegram.specs.Stretch.{bit_at}
use Rattle.telegram.specs.Place.{from, those}
use Rattle.telegram.specs.declared.Telegram.{Telegram}
use Rattle.balise_line.specs.Line.{OneBalise, Proper, Clean, sent_bit, line_bit, sent_at, places_of}
use Rattle.balise_line.proofs.Computed.{unflipped_at}
use Rattle.balise_line.proofs.Sent.{sent_parts, parts_sent}
use Rattle.balise_line.proofs.Clean.{true_places}
use Rattle.telegram.specs.Spelling.{words_of}
use Rattle.balise_writer.specs.Write.{telegrams}
use Rattle.balise_writer.specs.Sender.{sender, WritesTheLine}
use Rattle.balise_writer.proofs.Bytes.{telegrams_length, telegrams_byte}

module _ (m : Telegram) (s t n : ℕ) (rest : List ℕ) where
  abbrev bytes : List ℕ
  bytes = telegrams s t (words_of m) n

  abbrev o : OneBalise
  o = sender m s t n (bytes ++ rest)

  -- Bit j of what is written is the bit that the balise sends as line bit j.
  bits_sent : (j : ℕ) → j < 8 * (4 * n + 1) → bit_at (bytes ++ rest) j ≡ sent_bit o j
  unfolding sent_bit
  bits_sent j l =
      let in_bytes : j / 8 < 4 * n + 1 = omega arith in
      let size : length bytes ≡ 4 * n + 1 = telegrams_length s t (words_of m) n in
      let byte : j / 8 % 8 ≡ j % 64 / 8 = omega arith in
      let place : j % 8 ≡ j % 64 % 8 = omega arith in
      ap (λ (v : ℕ). v / 2 ^ (7 - j % 8) % 2)
      (get_or-append bytes rest 0 (j / 8) (omega arith) ∙ telegrams_byte s t (words_of m) n (j / 8) in_bytes)
      ∙ ap₂ (λ (u v : ℕ). get_or (s ∷ (words_of m).x ∷ (words_of m).y ∷ (words_of m).z ∷ t ∷ (words_of m).x ∷ (words_of m).y ∷ (words_of m).z ∷ []) u 0 / 2 ^ (7 - v) % 2) byte place

  -- So nothing is flipped.
  pub is_clean : Clean o
  is_clean j =
      unflipped_at o j
      (λ low high. let here : 0 + (j - 0) ≡ j = omega arith in ap (bit_at (bytes ++ rest)) here ∙ bits_sent j (omega arith))

-- The writer writes the line.
pub writes_the_line : WritesTheLine
writes_the_line = bits_sent

-- Numbers that fail a test are passed over.
passed_over : (test : ℕ → Bool) (p k n : ℕ) → ((i : ℕ) → i < k → test (p + i) ≡ false) → those test (from p (k + n)) ≡ those test (from (p + k) n)
unfolding those from
passed_over test p zero n none =
    let here : p ≡ p + 0 = omega arith in
    let all : 0 + n ≡ n = omega arith in
    ap₂ (λ (u v : ℕ). those test (from u v)) here all
passed_over test p (suc k) n none =
    let more : suc k + n ≡ suc (k + n) = omega arith in
    let here : p + 0 ≡ p = omega arith in
    let further : p + 1 + k ≡ p + suc k = omega arith in
    ap (λ (v : ℕ). those test (from p v)) more
    ∙ ap (λ (b : Bool). pick b (p ∷ those test (from (p + 1) (k + n))) (those test (from (p + 1) (k + n)))) (sym (ap test here) ∙ none 0 (omega arith))
    ∙ passed_over test (p + 1) k n (λ i l. let next : p + 1 + i ≡ p + suc i = omega arith in ap test next ∙ none (suc i) (omega arith))
    ∙ ap (λ (v : ℕ). those test (from v n)) further

-- A telegram was sent at every 32nd bit of the line, while there is room for all of it.
module _ (m : Telegram) (s t n : ℕ) (buffer : List ℕ) where
  abbrev p : OneBalise
  p = sender m s t n buffer

  at_sent : (q : ℕ) → 32 * q + 40 ≤ 8 * (4 * n + 1) → sent_at p (32 * q) ≡ true
  unfolding line_bit
  at_sent q room = parts_sent p (32 * q) (omega arith) (omega arith) (omega arith)

  not_sent : (j : ℕ) → (j + 40 ≤ 8 * (4 * n + 1) → j % 32 ≡ 0 → ⊥) → sent_at p j ≡ false
  unfolding line_bit
  not_sent j never = go (sent_at p j) refl
    where
      go : (b : Bool) → sent_at p j ≡ b → sent_at p j ≡ false
      go false is = is
      go true is =
          let h = sent_parts p j is in
          let room : j + 40 ≤ 0 + 8 * (4 * n + 1) = h.1 in
          let straight : (0 + (j - 0)) % 32 ≡ 0 = h.2 in
          absurd (never (omega arith) (omega arith))

  true_ones : (q k : ℕ) → 32 * q + (32 * k + 8) ≡ 8 * (4 * n + 1) → those (sent_at p) (from (32 * q) (32 * k + 8)) ≡ map (λ j. 32 * j) (from q k)
  unfolding those from
  true_ones q zero e =
      passed_over (sent_at p) (32 * q) 8 0 (λ i l. not_sent (32 * q + i) (λ room straight. omega arith))
  true_ones q (suc k) e =
      let rest : ℕ = 31 + (32 * k + 8) in
      let one_more : 32 * suc k + 8 ≡ suc rest = omega arith in
      let next : 32 * q + 1 + 31 ≡ 32 * (q + 1) = omega arith in
      ap (λ (v : ℕ). those (sent_at p) (from (32 * q) v)) one_more
      ∙ ap (λ (b : Bool). pick b (32 * q ∷ those (sent_at p) (from (32 * q + 1) rest)) (those (sent_at p) (from (32 * q + 1) rest))) (at_sent q (omega arith))
      ∙ ap (λ (l : List ℕ). 32 * q ∷ l)
      (passed_over (sent_at p) (32 * q + 1) 31 (32 * k + 8) (λ i l. not_sent (32 * q + 1 + i) (λ room straight. omega arith))
      ∙ ap (λ (v : ℕ). those (sent_at p) (from v (32 * k + 8))) next
      ∙ true_ones (q + 1) k (omega arith))

-- The places of what is written: 0, 32, .., 32 (n - 1).
pub places_are : (m : Telegram) (s t n : ℕ) (rest : List ℕ) → Proper (sender m s t n (telegrams s t (words_of m) n ++ rest))
    → places_of (sender m s t n (telegrams s t (words_of m) n ++ rest)) ≡ map (λ j. 32 * j) (from 0 n)
places_are m s t n rest proper =
    let buffer : List ℕ = telegrams s t (words_of m) n ++ rest in
    let all : 8 * (4 * n + 1) ≡ 32 * n + 8 = omega arith in
    true_places (sender m s t n buffer) (is_clean m s t n rest) proper
    ∙ ap (λ (v : ℕ). those (sent_at (sender m s t n buffer)) (from 0 v)) all
    ∙ true_ones m s t n buffer 0 n (omega arith)
