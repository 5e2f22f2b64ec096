-- The bits that a thing sends, one after the other, and ones after them.
-- Assumes nothing.
use Prim.Native.Nat.{ℕ, zero, suc, ◌+◌, ◌-◌, ◌*◌, ◌/◌, ◌%◌, ◌^◌, ◌≤◌, ◌<◌}
use mathlib.Core.Path.{◌≡◌, refl, ap, ap₂, ◌∙◌}
use mathlib.Core.List.{List, [], ◌∷◌, ◌++◌}
use native.Mathlib.Omega.{arith}
use lib.ListN.{length, take, drop, get_or, get_or-replicate, get_or-eq_default}
use lib.Seq.{get_or-drop, get_or-take}
use Rattle.telegram.specs.Stretch.{bit_at}
use Rattle.balise_line.specs.Line.{OneBalise, sent_bit}
use Rattle.telegram.specs.Spelling.{Words}
use Rattle.balise_writer.specs.Write.{telegrams}
use Rattle.balise_writer.proofs.Bytes.{telegrams_byte, telegrams_length}
use Rattle.track_lead.specs.declared.Thing.{Thing}
use Rattle.track_lead.specs.Sent.{twelve, sends, line_in}

-- Bit i of a list of bytes, ones after them.
abbrev pub bit_or : List ℕ → ℕ → ℕ
bit_or l i = get_or l (i / 8) 255 / 2 ^ (7 - i % 8) % 2

-- What holds of eight numbers holds of any below eight.
eight : (P : ℕ → Type 0) → P 0 → P 1 → P 2 → P 3 → P 4 → P 5 → P 6 → P 7 → (r : ℕ) → r < 8 → P r
eight P a b c d e f g h zero l = a
eight P a b c d e f g h (suc zero) l = b
eight P a b c d e f g h (suc (suc zero)) l = c
eight P a b c d e f g h (suc (suc (suc zero))) l = d
eight P a b c d e f g h (suc (suc (suc (suc zero)))) l = e
eight P a b c d e f g h (suc (suc (suc (suc (suc zero))))) l = f
eight P a b c d e f g h (suc (suc (suc (suc (suc (suc zero)))))) l = g
eight P a b c d e f g h (suc (suc (suc (suc (suc (suc (suc zero))))))) l = h
eight P a b c d e f g h (suc (suc (suc (suc (suc (suc (suc (suc r)))))))) l = absurd (omega arith)

-- A list in twelve bytes, filled up with ones.
filled : (m : ℕ) (l : List ℕ) (c : ℕ) → m ≤ 12 → c < m → get_or (take m (l ++ twelve 255)) c 0 ≡ get_or l c 255
filled m [] c few low = get_or-take m (twelve 255) c 0 low ∙ get_or-replicate 12 c 255 0 (omega arith)
filled zero (x ∷ l) c few low = absurd (omega arith)
filled (suc m) (x ∷ l) zero few low = refl
filled (suc m) (x ∷ l) (suc c) few low = filled m l c (omega arith) (omega arith)

-- Bit r of frame j's line is bit 96 j + r of what is sent.
pub in_frame : (s t : ℕ) (thing : Thing) (j r : ℕ) → r < 96 → bit_at (line_in s t thing j) r ≡ bit_or (sends s t thing) (96 * j + r)
unfolding line_in
in_frame s t thing j r low =
    let byte : get_or (take 12 (drop (12 * j) (sends s t thing) ++ twelve 255)) (r / 8) 0 ≡ get_or (sends s t thing) (12 * j + r / 8) 255 =
    filled 12 (drop (12 * j) (sends s t thing)) (r / 8) (omega arith) (omega arith) ∙ get_or-drop (12 * j) (sends s t thing) (r / 8) 255 in
    let at : 12 * j + r / 8 ≡ (96 * j + r) / 8 = omega arith in
    let within : r % 8 ≡ (96 * j + r) % 8 = omega arith in
    ap₂ (λ (v i : ℕ). v / 2 ^ (7 - i) % 2) (byte ∙ ap (λ (i : ℕ). get_or (sends s t thing) i 255) at) within

-- ---- of each thing

all_ones : (r : ℕ) → r < 8 → 255 / 2 ^ (7 - r) % 2 ≡ 1
all_ones = eight (λ r. 255 / 2 ^ (7 - r) % 2 ≡ 1) refl refl refl refl refl refl refl refl

in_turn : (r : ℕ) → r < 8 → 85 / 2 ^ (7 - r) % 2 ≡ r % 2
in_turn = eight (λ r. 85 / 2 ^ (7 - r) % 2 ≡ r % 2) refl refl refl refl refl refl refl refl

no_one : (r : ℕ) → r < 8 → 0 / 2 ^ (7 - r) % 2 ≡ 0
no_one = eight (λ r. 0 / 2 ^ (7 - r) % 2 ≡ 0) refl refl refl refl refl refl refl refl

-- After all bytes there are ones.
pub ones_after : (l : List ℕ) (i : ℕ) → 8 * length l ≤ i → bit_or l i ≡ 1
ones_after l i late =
    let over : length l ≤ i / 8 = omega arith in
    ap (λ (v : ℕ). v / 2 ^ (7 - i % 8) % 2) (get_or-eq_default l 255 over) ∙ all_ones (i % 8) (omega arith)

alike_bytes : (byte i : ℕ) → i < 96 → bit_or (twelve byte) i ≡ byte / 2 ^ (7 - i % 8) % 2
alike_bytes byte i low = ap (λ (v : ℕ). v / 2 ^ (7 - i % 8) % 2) (get_or-replicate 12 (i / 8) byte 255 (omega arith))

pub zeroes_in_it : (i : ℕ) → i < 96 → bit_or (twelve 0) i ≡ 0
zeroes_in_it i low = alike_bytes 0 i low ∙ no_one (i % 8) (omega arith)

pub turns_in_it : (i : ℕ) → i < 96 → bit_or (twelve 85) i ≡ i % 2
turns_in_it i low = alike_bytes 85 i low ∙ in_turn (i % 8) (omega arith) ∙ omega arith

-- A balise's are those of its line.
pub telegram_bits : (o : OneBalise) (i : ℕ) → i < 288
    → bit_or (take 36 (telegrams o.s o.t (record { x = o.x; y = o.y; z = o.z }) 9)) i ≡ sent_bit o i
unfolding sent_bit
telegram_bits o i low =
    let w : Words = record { x = o.x; y = o.y; z = o.z } in
    let all = telegrams o.s o.t w 9 in
    let byte : i / 8 % 8 ≡ i % 64 / 8 = omega arith in
    let place : i % 8 ≡ i % 64 % 8 = omega arith in
    let long = telegrams_length o.s o.t w 9 in
    let there : get_or (take 36 all) (i / 8) 255 ≡ get_or all (i / 8) 0 = get_or-take 36 all (i / 8) 255 (omega arith) ∙ any_default all (i / 8) (omega (arith, long)) in
    ap (λ (v : ℕ). v / 2 ^ (7 - i % 8) % 2) (there ∙ telegrams_byte o.s o.t w 9 (i / 8) (omega arith))
    ∙ ap₂ (λ (u v : ℕ). get_or (o.s ∷ o.x ∷ o.y ∷ o.z ∷ o.t ∷ o.x ∷ o.y ∷ o.z ∷ []) u 0 / 2 ^ (7 - v) % 2) byte place
  where
    any_default : (l : List ℕ) (i : ℕ) → i < length l → get_or l i 255 ≡ get_or l i 0
    any_default [] i low = absurd (omega arith)
    any_default (x ∷ l) zero low = refl
    any_default (x ∷ l) (suc i) low = any_default l i (omega arith)
