-- Noise is on the line alone.
-- Assumes nothing.
use Prim.Native.Nat.{ℕ, ◌+◌, ◌-◌, ◌*◌, ◌/◌, ◌%◌, ◌^◌, ◌≤◌, ◌<◌}
use mathlib.Core.Path.{◌≡◌, refl, sym, ap, ap₂, ◌∙◌}
use mathlib.Core.Bool.{Bool, true, false, ◌&&◌}
use mathlib.Core.List.{List}
use native.Mathlib.Omega.{arith}
use lib.Dec.{leb, ltb}
use lib.ListN.{length, drop, get_or, get_or-eq_default}
use lib.Seq.{get_or-take, get_or-drop}
use borrow.Author.Tests.{lt-ltb, le-ltb, le-leb, lt-leb, ltb-true, ltb-false}
use Rattle.words.specs.Answer.{pick}
use Rattle.words.specs.Bits.{bit}
use Rattle.words.proofs.Digits.{bit_lt, bit_word}
use Rattle.recording.specs.Frame.{line_of, odometer_of}
use Rattle.recording.specs.Recording.{frames_of}
use Rattle.lead_noise.specs.Generator.{flips}
use Rattle.lead_noise.specs.Noise.{noisy_bit, noisy_byte, bits_before, is_line, noisy_at, with_noise}
use Rattle.lead_noise.proofs.Bytes.{noisy_low}
use Rattle.lead_noise.proofs.SoFar.{listed_length, listed_at}
use Rattle.track_laws.specs.Noise.{OnlyTheLine}

module _ (x chance : ℕ) (lead : List ℕ) where
  -- A byte that lies in the lead.
  byte_at : (i : ℕ) → i < length lead → get_or (with_noise x chance lead).lead i 0 ≡ noisy_at x chance lead i
  unfolding with_noise
  byte_at i low = listed_at (noisy_at x chance lead) (length lead) i low

  long : length (with_noise x chance lead).lead ≡ length lead
  unfolding with_noise
  long = listed_length (noisy_at x chance lead) (length lead)

  -- One of an odometer, or after the last whole frame, stays.
  stays : (i : ℕ) (t : Bool) → is_line lead i ≡ t → t ≡ false → noisy_at x chance lead i ≡ get_or lead i 0
  unfolding noisy_at
  stays i t is none = ap (λ (c : Bool). pick c (noisy_byte x chance (bits_before i) (get_or lead i 0)) (get_or lead i 0)) (is ∙ none)

  of_odometer : (i : ℕ) → i % 16 < 4 → is_line lead i ≡ false
  unfolding is_line
  of_odometer i low = ap (λ (c : Bool). ltb (i / 16) (length lead / 16) && c) (lt-leb 4 (i % 16) low) ∙ never (ltb (i / 16) (length lead / 16))
    where
      never : (c : Bool) → (c && false) ≡ false
      never true = refl
      never false = refl

  odometer_byte : (k j : ℕ) → k < frames_of lead → j < 4 → get_or (with_noise x chance lead).lead (16 * k + j) 0 ≡ get_or lead (16 * k + j) 0
  odometer_byte k j within low = byte_at (16 * k + j) (omega arith) ∙ stays (16 * k + j) false (of_odometer (16 * k + j) (omega arith)) refl

  -- One of the line: each of its bits.
  line_byte : (i r : ℕ) → i / 16 < length lead / 16 → 4 ≤ i % 16 → r < 8
      → get_or (with_noise x chance lead).lead i 0 / 2 ^ (7 - r) % 2 ≡ noisy_bit (flips x chance (bits_before i + r)) (get_or lead i 0 / 2 ^ (7 - r) % 2)
  unfolding noisy_at is_line noisy_byte
  line_byte i r within high low =
      let is : noisy_at x chance lead i ≡ noisy_byte x chance (bits_before i) (get_or lead i 0) = simp (lt-ltb (i / 16) (length lead / 16) within, le-leb 4 (i % 16) high) in
      let back : 7 - (7 - r) ≡ r = omega arith in
      ap (λ (v : ℕ). v / 2 ^ (7 - r) % 2) (byte_at i (omega arith) ∙ is)
      ∙ bit_word (λ k. noisy_bit (flips x chance (bits_before i + (7 - k))) (bit (get_or lead i 0) k)) (λ k. noisy_low (flips x chance (bits_before i + (7 - k))) (bit (get_or lead i 0) k) (bit_lt (get_or lead i 0) k)) 8 (7 - r) (omega arith)
      ∙ ap (λ (k : ℕ). noisy_bit (flips x chance (bits_before i + k)) (get_or lead i 0 / 2 ^ (7 - r) % 2)) back

-- Byte r of frame k's line.
line_of_law : (l : List ℕ) (k c : ℕ) → c < 12 → get_or (line_of l k) c 0 ≡ get_or l (16 * k + 4 + c) 0
unfolding line_of
line_of_law l k c low = get_or-take 12 (drop (16 * k + 4) l) c 0 low ∙ get_or-drop (16 * k + 4) l c 0

-- After the last whole frame.
beyond_line : (lead : List ℕ) (i : ℕ) → 16 * frames_of lead ≤ i → is_line lead i ≡ false
unfolding is_line
beyond_line lead i late = ap (λ (c : Bool). c && leb 4 (i % 16)) (le-ltb (i / 16) (length lead / 16) (omega arith))

beyond : (x chance : ℕ) (lead : List ℕ) (i : ℕ) → 16 * frames_of lead ≤ i → (t : Bool) → ltb i (length lead) ≡ t → get_or (with_noise x chance lead).lead i 0 ≡ get_or lead i 0
beyond x chance lead i late true is = byte_at x chance lead i (ltb-true i (length lead) is) ∙ stays x chance lead i false (beyond_line lead i late) refl
beyond x chance lead i late false is =
    let over = ltb-false i (length lead) is in
    let new_over : length (with_noise x chance lead).lead ≤ i = omega (arith, long x chance lead) in
    get_or-eq_default (with_noise x chance lead).lead 0 new_over ∙ sym (get_or-eq_default lead 0 over)

pub only_the_line : OnlyTheLine
unfolding odometer_of
only_the_line =
    record {
      each_bit = λ x chance lead j low.
          let k = j / 96 in
          let c = j % 96 / 8 in
          let r = j % 96 % 8 in
          let i = 16 * k + 4 + c in
          let new = (with_noise x chance lead).lead in
          let e : bits_before i + r ≡ j = omega arith in
          ap (λ (v : ℕ). v / 2 ^ (7 - r) % 2) (line_of_law new k c (omega arith))
          ∙ line_byte x chance lead i r (omega arith) (omega arith) (omega arith)
          ∙ ap₂ (λ (n v : ℕ). noisy_bit (flips x chance n) (v / 2 ^ (7 - r) % 2)) e (sym (line_of_law lead k c (omega arith)));
      odometers = λ x chance lead k low.
          let new = (with_noise x chance lead).lead in
          let e : 16 * k + 0 ≡ 16 * k = omega arith in
          let zeroth : get_or new (16 * k) 0 ≡ get_or lead (16 * k) 0 = ap (λ (i : ℕ). get_or new i 0) (sym e) ∙ odometer_byte x chance lead k 0 low (omega arith) ∙ ap (λ (i : ℕ). get_or lead i 0) e in
          ap₂ (λ (a b : ℕ). ((a * 256 + b) * 256 + get_or new (16 * k + 2) 0) * 256 + get_or new (16 * k + 3) 0) zeroth (odometer_byte x chance lead k 1 low (omega arith))
          ∙ ap₂ (λ (a b : ℕ). ((get_or lead (16 * k) 0 * 256 + get_or lead (16 * k + 1) 0) * 256 + a) * 256 + b) (odometer_byte x chance lead k 2 low (omega arith)) (odometer_byte x chance lead k 3 low (omega arith));
      as_long = λ x chance lead. long x chance lead;
      after_it = λ x chance lead i late. beyond x chance lead i late (ltb i (length lead)) refl;
    }
