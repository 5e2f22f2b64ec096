-- Over a stretch with too few flips for a false place every place has the words sent, at their true
-- place: the sync words of a place lie at a telegram's beginning, and there each word is accepted
-- only if it is the word sent.
-- Assumes nothing.
use mathlib.Core.Path.{◌≡◌, sym, ap, ap₂, ◌∙◌, subst}
use mathlib.Core.Bool.{true}
use Prim.Native.Nat.{ℕ, ◌+◌, ◌*◌, ◌/◌, ◌%◌, ◌≤◌, ◌<◌}
use native.Mathlib.Omega.{arith}
use Rattle.telegram.specs.Stretch.{bit_at, bits_at}
use Rattle.telegram.specs.Sync.{differing}
use Rattle.telegram.specs.Telegram.{telegram}
use Rattle.telegram.specs.Place.{words_at, accepted, is_place, places}
use Rattle.telegram.proofs.Window.{bits_lt, cut}
use Rattle.balise_line.specs.Line.{OneBalise, Proper, repeated, sent_bit, unequal, flip, flips, line_bit}
use Rattle.balise_line.proofs.Sums.{sum_ext}
use Rattle.balise_line.proofs.Bits.{differing_bits}
use Rattle.balise_line.proofs.Telegrams.{taken, telegram_still}
use Rattle.balise_line.proofs.Round.{data_sent, word_x, word_y, word_z, word_yz}
use Rattle.balise_line.proofs.Window.{flip_is, flips_part}
use Rattle.balise_line.proofs.Places.{place_parts, listed}
use Rattle.balise_line.proofs.Sent.{parts_sent, Sent, AllSent}
use Rattle.balise_line.proofs.TooFew.{TooFew}
use Rattle.balise_line.proofs.Wrong.{aligned}

module _ (o : OneBalise) (proper : Proper o) (p : ℕ) (after-start : o.start ≤ p) (before_end : p + 40 ≤ o.start + o.len) where
  -- line bit of bit p
  abbrev q : ℕ
  q = line_bit o p

  -- At a telegram's beginning, with at most three flips among its data bits:
  module _ (straight : q % 32 ≡ 0) (data-few : flips o (q + 8) 24 ≤ 3) where
    -- the n bits from the d-th on differ from those sent in at most three,
    near : (d n : ℕ) → 8 ≤ d → d + n ≤ 32 → differing (bits_at o.buffer (p + d) n) (bits_at (repeated o) d n) n ≤ 3
    unfolding flips
    near d n l h =
        let k : ℕ = q / 32 in
        let is : q ≡ 32 * k = omega arith in
        let part : flips o (32 * k + d) n ≤ flips o (q + 8) 24 = flips_part o (q + 8) (32 * k + d) 24 n (omega arith) (omega arith) in
        let count : differing (bits_at o.buffer (p + d) n) (bits_at (repeated o) d n) n ≡ flips o (32 * k + d) n =
        differing_bits o.buffer (repeated o) (p + d) d n
        ∙ sum_ext (λ i. unequal (bit_at o.buffer (p + d + i)) (bit_at (repeated o) (d + i))) (λ i. flip o (32 * k + d + i)) n (λ i m. one k is i m) in
        omega arith
      where
        one : (k : ℕ) → q ≡ 32 * k → (i : ℕ) → i < n → unequal (bit_at o.buffer (p + d + i)) (bit_at (repeated o) (d + i)) ≡ flip o (32 * k + d + i)
        one k is i m =
            let here : p + (d + i) ≡ p + d + i = omega arith in
            let line : q + (d + i) ≡ 32 * k + d + i = omega arith in
            let same : q + (d + i) ≡ 32 * k + (d + i) = omega arith in
            sym (ap (flip o) (sym line) ∙ flip_is o p after-start before_end (d + i) (omega arith)
            ∙ ap₂ (λ (u v : ℕ). unequal (bit_at o.buffer u) v) here (ap (sent_bit o) same ∙ data_sent o k (d + i) (omega arith) (omega arith)))

    -- and words that are accepted are the words sent.
    pub as_sent : accepted (words_at o.buffer p) ≡ true → Sent o p
    unfolding words_at
    as_sent e =
        let u : ℕ = bits_at o.buffer (p + 8) 8 in
        let v : ℕ = bits_at o.buffer (p + 16) 8 in
        let w : ℕ = bits_at o.buffer (p + 24) 8 in
        let r = taken (telegram u v w) e in
        let further : p + 16 + 8 ≡ p + 24 = omega arith in
        let joined : bits_at o.buffer (p + 16) 16 ≡ v * 256 + w =
        cut o.buffer (p + 16) 8 8 ∙ ap (λ (k : ℕ). v * 256 + bits_at o.buffer k 8) further in
        let near_x : differing u o.x 8 ≤ 3 = subst (λ (k : ℕ). differing u k 8 ≤ 3) (word_x o proper) (near 8 8 (omega arith) (omega arith)) in
        let near_y : differing v o.y 8 ≤ 3 = subst (λ (k : ℕ). differing v k 8 ≤ 3) (word_y o proper) (near 16 8 (omega arith) (omega arith)) in
        let near_z : differing w o.z 8 ≤ 3 = subst (λ (k : ℕ). differing w k 8 ≤ 3) (word_z o proper) (near 24 8 (omega arith) (omega arith)) in
        let near_yz : differing (v * 256 + w) (o.y * 256 + o.z) 16 ≤ 3 =
        subst (λ (k : ℕ). differing k (o.y * 256 + o.z) 16 ≤ 3) joined
        (subst (λ (k : ℕ). differing (bits_at o.buffer (p + 16) 16) k 16 ≤ 3) (word_yz o proper) (near 16 16 (omega arith) (omega arith))) in
        let same = telegram_still o.x o.y o.z u v w proper.bytes.2 proper.bytes.3 proper.bytes.4
        (bits_lt o.buffer (p + 8) 8) (bits_lt o.buffer (p + 16) 8) (bits_lt o.buffer (p + 24) 8)
        near_x near_y near_z near_yz o.telegram r.0 proper.valid r.1 in
        record {
          at_true = parts_sent o p after-start before_end straight;
          x_is = same.0;
          y_is = same.1;
          z_is = same.2;
        }

pub place_sent : (o : OneBalise) → Proper o → TooFew o → (p : ℕ) → o.start ≤ p → p + 40 ≤ o.start + o.len
    → is_place o.buffer o.start o.len o.s o.t p ≡ true → Sent o p
place_sent o proper few p after-start before_end e =
    let h = place_parts o.buffer o.start o.len o.s o.t p e in
    let straight = aligned o proper p after-start before_end few h.1 in
    as_sent o proper p after-start before_end straight (few.inner p after-start before_end straight) h.2

-- So every place has the words sent.
pub all_sent_law : (o : OneBalise) → Proper o → TooFew o → AllSent o
unfolding places
all_sent_law o proper few p e =
    let h = listed (is_place o.buffer o.start o.len o.s o.t) p o.start o.len e in
    place_sent o proper few p h.0 (place_parts o.buffer o.start o.len o.s o.t p h.2).0 h.2
