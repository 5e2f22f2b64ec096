-- No place lies at a wrong offset, where there are too few flips for it: what the two sync words of
-- a place want and was not sent costs a flip for each bit.
-- Assumes nothing.
use mathlib.Core.Path.{◌≡◌, refl, sym, ap, ap₂, ◌∙◌, subst}
use mathlib.Core.Logic.{◌⊎◌, inl, inr}
use mathlib.Core.Bool.{Bool, true, false, ◌&&◌}
use Prim.Native.Nat.{ℕ, zero, suc, ◌+◌, ◌*◌, ◌%◌, ◌≤◌, ◌<◌}
use native.Mathlib.Nat.{mul-le-mul_left}
use native.Mathlib.Omega.{arith}
use lib.Dec.{eqb, leb}
use borrow.Author.Tests.{leb-true, leb-false, eqb-true}
use Rattle.words.specs.Answer.{pick}
use Rattle.telegram.specs.Stretch.{bit_at, bits_at}
use Rattle.telegram.specs.Place.{are_syncs}
use Rattle.balise_line.specs.Line.{OneBalise, Proper, repeated, sent_bit, unequal, flip, sum, line_bit}
use Rattle.balise_line.proofs.Sums.{sum_le, unequal_same, unequal_sym, unequal_across, unequal_lt, not_at, Missing, one_missing}
use Rattle.balise_line.proofs.Bits.{same_bits}
use Rattle.balise_line.proofs.Round.{data_alike, pattern, sync_pattern, first_sync, second_sync, seven}
use Rattle.balise_line.proofs.Offsets.{weigh, apart, cost, at_least}
use Rattle.balise_line.proofs.TooFew.{TooFew, paid}
use Rattle.balise_line.proofs.Window.{flip_is}
use Rattle.balise_line.proofs.Places.{and_parts, or_parts}

module _ (o : OneBalise) (proper : Proper o) (p : ℕ) where
  -- The bits of outer bytes that are the sync words, in the one order or the other.
  abbrev pub Bytes : ℕ → ℕ → Type 0
  Bytes m n = (i : ℕ) → i < 8 → (bit_at o.buffer (p + i) ≡ bit_at (repeated o) (m + i)) × (bit_at o.buffer (p + 32 + i) ≡ bit_at (repeated o) (n + i))

  pub outer_bits : are_syncs o.s o.t (bits_at o.buffer p 8) (bits_at o.buffer (p + 32) 8) ≡ true → Bytes 0 32 ⊎ Bytes 32 0
  unfolding are_syncs
  outer_bits e = go (or_parts (eqb a o.s && eqb z o.t) (eqb a o.t && eqb z o.s) e)
    where
      a : ℕ
      a = bits_at o.buffer p 8

      z : ℕ
      z = bits_at o.buffer (p + 32) 8

      at : (q m : ℕ) (w : ℕ) → bits_at o.buffer q 8 ≡ w → bits_at (repeated o) m 8 ≡ w → (i : ℕ) → i < 8 → bit_at o.buffer (q + i) ≡ bit_at (repeated o) (m + i)
      at q m w received sent i l = same_bits o.buffer (repeated o) q m 8 (received ∙ sym sent) i l

      go : ((eqb a o.s && eqb z o.t) ≡ true) ⊎ ((eqb a o.t && eqb z o.s) ≡ true) → Bytes 0 32 ⊎ Bytes 32 0
      go (inl e) =
          let h = and_parts (eqb a o.s) (eqb z o.t) e in
          inl (λ i l. (at p 0 o.s (eqb-true a o.s h.0) (first_sync o proper) i l, at (p + 32) 32 o.t (eqb-true z o.t h.1) (second_sync o proper) i l))
      go (inr e) =
          let h = and_parts (eqb a o.t) (eqb z o.s) e in
          inr (λ i l. (at p 32 o.t (eqb-true a o.t h.0) (second_sync o proper) i l, at (p + 32) 0 o.s (eqb-true z o.s h.1) (first_sync o proper) i l))

  -- the difference between the bits i of the two outer bytes, as received
  abbrev pub between : ℕ → ℕ
  between i = unequal (bit_at o.buffer (p + i)) (bit_at o.buffer (p + 32 + i))

  -- Outer bytes that are the sync words differ as these do.
  pub as_syncs : are_syncs o.s o.t (bits_at o.buffer p 8) (bits_at o.buffer (p + 32) 8) ≡ true → (i : ℕ) → i < 8 → between i ≡ pattern o i
  unfolding pattern
  as_syncs e i l = go (outer_bits e)
    where
      go : Bytes 0 32 ⊎ Bytes 32 0
          → unequal (bit_at o.buffer (p + i)) (bit_at o.buffer (p + 32 + i)) ≡ unequal (bit_at (repeated o) (0 + i)) (bit_at (repeated o) (32 + i))
      go (inl is) = ap₂ unequal (is i l).0 (is i l).1
      go (inr is) = ap₂ unequal (is i l).0 (is i l).1 ∙ unequal_sym (bit_at (repeated o) (32 + i)) (bit_at (repeated o) (0 + i))

-- What is sent 32 bits apart, where the sync words differ in every bit but e.
pub sent_apart : (o : OneBalise) (e : ℕ) → ((i : ℕ) → i < 8 → pattern o i ≡ not_at e i) → (j : ℕ) → unequal (sent_bit o j) (sent_bit o (j + 32)) ≡ apart e (j % 32)
unfolding apart
sent_apart o e but-one j = go (leb 8 (j % 32)) refl
  where
    go : (t : Bool) → leb 8 (j % 32) ≡ t → unequal (sent_bit o j) (sent_bit o (j + 32)) ≡ pick t 0 (not_at e (j % 32))
    go true is = unequal_same (sent_bit o j) (sent_bit o (j + 32)) (sym (data_alike o j (leb-true 8 (j % 32) is)))
    go false is = let low : j % 32 < 8 = leb-false 8 (j % 32) is in sync_pattern o j low ∙ but-one (j % 32) low

module _ (o : OneBalise) (proper : Proper o) (p : ℕ) (after-start : o.start ≤ p) (before_end : p + 40 ≤ o.start + o.len) where
  -- line bit of bit p
  abbrev q : ℕ
  q = line_bit o p

  -- The flips at the bits i of the two outer bytes pay what bit i costs.
  module _ (syncs : (i : ℕ) → i < 8 → between o proper p i ≡ pattern o i) (e : ℕ) (but-one : (i : ℕ) → i < 8 → pattern o i ≡ not_at e i) where
    later_flip : (i : ℕ) → i < 8 → flip o (q + 32 + i) ≡ unequal (bit_at o.buffer (p + 32 + i)) (sent_bit o (q + i + 32))
    later_flip i l =
        let here : q + 32 + i ≡ q + (32 + i) = omega arith in
        let there : p + (32 + i) ≡ p + 32 + i = omega arith in
        let on : q + (32 + i) ≡ q + i + 32 = omega arith in
        ap (flip o) here ∙ flip_is o p after-start before_end (32 + i) (omega arith)
        ∙ ap₂ (λ (u v : ℕ). unequal (bit_at o.buffer u) (sent_bit o v)) there on

    -- what is wanted and not sent costs a flip
    flipped : (i : ℕ) → i < 8 → unequal (not_at e i) (apart e ((q + i) % 32)) ≤ flip o (q + i) + flip o (q + 32 + i)
    flipped i l =
        subst (λ (v : ℕ). unequal (not_at e i) (apart e ((q + i) % 32)) ≤ v)
        (sym (ap₂ ◌+◌ (flip_is o p after-start before_end i (omega arith)) (later_flip i l)))
        (subst (λ (v : ℕ). v ≤ unequal (bit_at o.buffer (p + i)) (sent_bit o (q + i)) + unequal (bit_at o.buffer (p + 32 + i)) (sent_bit o (q + i + 32)))
        (ap₂ unequal (syncs i l ∙ but-one i l) (sent_apart o e but-one (q + i)))
        (unequal_across (bit_at o.buffer (p + i)) (bit_at o.buffer (p + 32 + i)) (sent_bit o (q + i)) (sent_bit o (q + i + 32))))

    pub pays : (w i : ℕ) → i < 8 → cost w e (q % 32) i ≤ paid o w q i
    unfolding cost paid
    pays w i l =
        let same : (q % 32 + i) % 32 ≡ (q + i) % 32 = omega arith in
        subst (λ (m : ℕ). weigh w m * unequal (not_at e i) (apart e m) ≤ weigh w ((q + i) % 32) * (flip o (q + i) + flip o (q + 32 + i))) (sym same)
        (mul-le-mul_left (weigh w ((q + i) % 32)) (flipped i l))

  module _ (few : TooFew o) where
    -- So no place lies at a wrong offset.
    no_wrong : ((i : ℕ) → i < 8 → between o proper p i ≡ pattern o i) → 0 < q % 32 → ⊥
    unfolding pattern
    no_wrong syncs pos =
        let m : Missing (pattern o) 8 = one_missing (pattern o) (λ i. unequal_lt (bit_at (repeated o) (0 + i)) (bit_at (repeated o) (32 + i))) 7 (seven o proper) in
        let below : q % 32 < 32 = omega arith in
        let w : ℕ = few.weight in
        let wants : few.least ≤ sum (cost w m.at (q % 32)) 8 = at_least w few.least m.at (few.false_costs m.at m.within m.is) (q % 32) pos below in
        let paying : sum (cost w m.at (q % 32)) 8 ≤ sum (paid o w q) 8 = sum_le (cost w m.at (q % 32)) (paid o w q) 8 (pays syncs m.at m.is w) in
        let less : sum (paid o w q) 8 < few.least = few.outer p after-start before_end in
        omega arith

    -- So the sync words of a place are at a telegram's beginning.
    pub aligned : are_syncs o.s o.t (bits_at o.buffer p 8) (bits_at o.buffer (p + 32) 8) ≡ true → line_bit o p % 32 ≡ 0
    aligned syncs = only (q % 32) refl
      where
        only : (r : ℕ) → q % 32 ≡ r → q % 32 ≡ 0
        only zero is = is
        only (suc r) is = absurd (no_wrong (as_syncs o proper p syncs) (omega arith))
