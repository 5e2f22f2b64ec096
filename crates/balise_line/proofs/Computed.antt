-- The hypotheses on the flips can be computed: beyond the stretch nothing flips, so each is a test
-- up to its end.
-- Assumes nothing.
use mathlib.Core.Path.{◌≡◌, refl}
use mathlib.Core.Bool.{Bool, true, false, ◌&&◌}
use Prim.Native.Nat.{ℕ, suc, ◌+◌, ◌-◌, ◌*◌, ◌≤◌, ◌<◌}
use native.Mathlib.Omega.{arith}
use lib.Dec.{T, eqb, leb, ltb, eqb→eq, leb→le}
use lib.ListN.{get_or}
use borrow.Author.Tests.{leb-true, ltb-true, ltb-false}
use Rattle.words.specs.Answer.{gives, pick}
use Rattle.words.proofs.Linear.{and_parts}
use Rattle.words.proofs.Ranges.{both, both_left, both_right, upto, below}
use Rattle.telegram.specs.Stretch.{bit_at, inside}
use Rattle.telegram.specs.Sync.{is_good}
use Rattle.telegram.specs.Telegram.{telegram}
use Rattle.balise_line.specs.Line.{OneBalise, Proper, FewFlips, Clean, repeated, sent_bit, received_bit, in_stretch, unequal, flip, flips, sync_flips, data_flips}
use Rattle.balise_line.proofs.Sums.{none_sum, unequal_same}

-- what is asked of telegram k
unfoldable pub quiet_at : OneBalise → ℕ → Bool
quiet_at o k = both (eqb (sync_flips o k) 0) (leb (data_flips o k + data_flips o (k + 1)) 3)

module _ (o : OneBalise) where
  -- A bit that is received as it is sent, where it lies in the stretch, is not flipped;
  pub unflipped_at : (j : ℕ) → (o.phase ≤ j → j < o.phase + o.len → bit_at o.buffer (o.start + (j - o.phase)) ≡ sent_bit o j) → flip o j ≡ 0
  unfolding flip in_stretch received_bit
  unflipped_at j same = go (leb o.phase j && ltb j (o.phase + o.len)) refl
    where
      go : (t : Bool) → leb o.phase j && ltb j (o.phase + o.len) ≡ t → pick t (unequal (bit_at o.buffer (o.start + (j - o.phase))) (sent_bit o j)) 0 ≡ 0
      go false e = refl
      go true e =
          let h = and_parts (leb o.phase j) (ltb j (o.phase + o.len)) e in
          unequal_same (bit_at o.buffer (o.start + (j - o.phase))) (sent_bit o j) (same (leb-true o.phase j h.0) (ltb-true j (o.phase + o.len) h.1))

  -- nor is one beyond it.
  beyond : (j : ℕ) → o.phase + o.len ≤ j → flip o j ≡ 0
  beyond j l = unflipped_at j (λ low high. absurd (omega arith))

  none_beyond : (j n : ℕ) → o.phase + o.len ≤ j → flips o j n ≡ 0
  unfolding flips
  none_beyond j n l = none_sum (λ i. flip o (j + i)) n (λ i h. beyond (j + i) (omega arith))

  pub few_flips : (n : ℕ) → o.phase + o.len ≤ 32 * n → T (upto (quiet_at o) n) → FewFlips o
  unfolding sync_flips data_flips quiet_at
  few_flips n l ok = record { syncs = λ k. syncs k (ltb k n) refl; few = λ k. few k (ltb k n) refl }
    where
      tested : (k : ℕ) → ltb k n ≡ true → T (both (eqb (sync_flips o k) 0) (leb (data_flips o k + data_flips o (k + 1)) 3))
      tested k is = below (quiet_at o) n ok k (ltb-true k n is)

      syncs : (k : ℕ) (t : Bool) → ltb k n ≡ t → sync_flips o k ≡ 0
      syncs k true is = eqb→eq (sync_flips o k) 0 (both_left (eqb (sync_flips o k) 0) (leb (data_flips o k + data_flips o (k + 1)) 3) (tested k is))
      syncs k false is = let h : n ≤ k = ltb-false k n is in none_beyond (32 * k) 8 (omega arith)

      few : (k : ℕ) (t : Bool) → ltb k n ≡ t → data_flips o k + data_flips o (k + 1) ≤ 3
      few k true is =
          leb→le (data_flips o k + data_flips o (k + 1)) 3 (both_right (eqb (sync_flips o k) 0) (leb (data_flips o k + data_flips o (k + 1)) 3) (tested k is))
      few k false is =
          let h : n ≤ k = ltb-false k n is in
          let a : data_flips o k ≡ 0 = none_beyond (32 * k + 8) 24 (omega arith) in
          let c : data_flips o (k + 1) ≡ 0 = none_beyond (32 * (k + 1) + 8) 24 (omega arith) in
          omega arith

  -- Whether bit j is not flipped.
  unfoldable pub unflipped : ℕ → Bool
  unflipped j = eqb (flip o j) 0

  pub clean : (n : ℕ) → o.phase + o.len ≤ n → T (upto unflipped n) → Clean o
  unfolding unflipped
  clean n l ok j = go (ltb j n) refl
    where
      go : (t : Bool) → ltb j n ≡ t → flip o j ≡ 0
      go true is = eqb→eq (flip o j) 0 (below unflipped n ok j (ltb-true j n is))
      go false is = let h : n ≤ j = ltb-false j n is in beyond j (omega arith)

-- ---- what is asked of a balise

-- Its words are bytes.
abbrev pub small : OneBalise → Bool
small o = upto (λ i. ltb (get_or (repeated o) i 0) 256) 8

pub proper_computed : (o : OneBalise) → T (small o) → is_good o.s o.t ≡ true → telegram o.x o.y o.z ≡ gives o.telegram
    → inside o.buffer o.start o.len ≡ true → Proper o
proper_computed o bytes pair valid taken =
    record { bytes = (byte 0 (omega arith), byte 4 (omega arith), byte 1 (omega arith), byte 2 (omega arith), byte 3 (omega arith)); pair = pair; valid = valid; taken = taken }
  where
    byte : (i : ℕ) → i < 8 → get_or (repeated o) i 0 < 256
    byte i l = leb→le (suc (get_or (repeated o) i 0)) 256 (below (λ j. ltb (get_or (repeated o) j 0) 256) 8 bytes i l)
