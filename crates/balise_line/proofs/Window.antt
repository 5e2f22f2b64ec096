-- Forty bits of the stretch, from bit p of the buffer on: what is received there is what was sent,
-- but for the flips.
-- Assumes nothing.
use mathlib.Core.Path.{◌≡◌, sym, ap, ap₂, ◌∙◌}
use mathlib.Core.Bool.{Bool, true, ◌&&◌}
use Prim.Native.Nat.{ℕ, ◌+◌, ◌-◌, ◌*◌, ◌/◌, ◌%◌, ◌≤◌, ◌<◌}
use native.Mathlib.Omega.{arith}
use borrow.Author.Tests.{le-leb, lt-ltb}
use Rattle.words.specs.Answer.{pick}
use Rattle.telegram.specs.Stretch.{bit_at}
use Rattle.balise_line.specs.Line.{OneBalise, FewFlips, sent_bit, received_bit, in_stretch, unequal, flip, sum, flips, sync_flips, data_flips, line_bit}
use Rattle.balise_line.proofs.Sums.{sum_split, sum_part, sum_ext, sum_none, unequal_none}

module _ (o : OneBalise) (p : ℕ) (after-start : o.start ≤ p) (before_end : p + 40 ≤ o.start + o.len) where
  received : (i : ℕ) → received_bit o (line_bit o p + i) ≡ bit_at o.buffer (p + i)
  unfolding received_bit line_bit
  received i =
      let same : o.start + (o.phase + (p - o.start) + i - o.phase) ≡ p + i = omega arith in
      ap (bit_at o.buffer) same

  lies : (i : ℕ) → i < 40 → in_stretch o (line_bit o p + i) ≡ true
  unfolding in_stretch line_bit
  lies i l =
      ap₂ ◌&&◌ (le-leb o.phase (o.phase + (p - o.start) + i) (omega arith))
      (lt-ltb (o.phase + (p - o.start) + i) (o.phase + o.len) (omega arith))

  -- a flip is a difference between what is received and what was sent
  pub flip_is : (i : ℕ) → i < 40 → flip o (line_bit o p + i) ≡ unequal (bit_at o.buffer (p + i)) (sent_bit o (line_bit o p + i))
  unfolding flip
  flip_is i l =
      ap (λ (t : Bool). pick t (unequal (received_bit o (line_bit o p + i)) (sent_bit o (line_bit o p + i))) 0) (lies i l)
      ∙ ap (λ (v : ℕ). unequal v (sent_bit o (line_bit o p + i))) (received i)

  -- what is not flipped is received as sent
  pub unflipped_bit : (i : ℕ) → i < 40 → flip o (line_bit o p + i) ≡ 0 → bit_at o.buffer (p + i) ≡ sent_bit o (line_bit o p + i)
  unflipped_bit i l none = unequal_none (bit_at o.buffer (p + i)) (sent_bit o (line_bit o p + i)) (sym (flip_is i l) ∙ none)

-- The flips from line bit j on, split after m bits, and those of a part.
module _ (o : OneBalise) where
  pub flips_split : (j m n : ℕ) → flips o j (m + n) ≡ flips o j m + flips o (j + m) n
  unfolding flips
  flips_split j m n =
      sum_split (λ i. flip o (j + i)) m n
      ∙ ap (λ (v : ℕ). sum (λ i. flip o (j + i)) m + v)
      (sum_ext (λ i. flip o (j + (m + i))) (λ i. flip o (j + m + i)) n (λ i l. let same : j + (m + i) ≡ j + m + i = omega arith in ap (flip o) same))

  pub flips_part : (j c m n : ℕ) → j ≤ c → c + n ≤ j + m → flips o c n ≤ flips o j m
  unfolding flips
  flips_part j c m n l h = sum_part (flip o) j c m n l h

  pub no_flip : (j n : ℕ) → flips o j n ≡ 0 → (i : ℕ) → i < n → flip o (j + i) ≡ 0
  unfolding flips
  no_flip j n none i l = sum_none (λ i. flip o (j + i)) n none i l

  module _ (quiet : FewFlips o) where
    -- no sync bit flips
    pub sync_quiet : (j : ℕ) → j % 32 < 8 → flip o j ≡ 0
    unfolding sync_flips
    sync_quiet j l =
        let where_is : 32 * (j / 32) + j % 32 ≡ j = omega arith in
        ap (flip o) (sym where_is) ∙ no_flip (32 * (j / 32)) 8 (quiet.syncs (j / 32)) (j % 32) l

    -- a telegram with both its sync words has no more flips than its data bits have
    pub with_syncs : (k : ℕ) → flips o (32 * k) 40 ≡ data_flips o k
    unfolding data_flips sync_flips
    with_syncs k =
        let next : 32 * k + 32 ≡ 32 * (k + 1) = omega arith in
        let a : flips o (32 * k) 40 ≡ flips o (32 * k) 32 + flips o (32 * k + 32) 8 = flips_split (32 * k) 32 8 in
        let c : flips o (32 * k) 32 ≡ flips o (32 * k) 8 + flips o (32 * k + 8) 24 = flips_split (32 * k) 8 24 in
        let d : flips o (32 * k) 8 ≡ 0 = quiet.syncs k in
        let e : flips o (32 * k + 32) 8 ≡ 0 = ap (λ (j : ℕ). flips o j 8) next ∙ quiet.syncs (k + 1) in
        omega arith
