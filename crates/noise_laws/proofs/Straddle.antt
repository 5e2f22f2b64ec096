-- Two places alike that end in the quiet line after the balise: they overlap, and the zeroes at
-- their end are flips.
-- Assumes nothing.
use Prim.Native.Nat.{ℕ, ◌+◌, ◌-◌, ◌≤◌, ◌<◌}
use mathlib.Core.Path.{◌≡◌, sym, ap, ◌∙◌}
use mathlib.Core.Logic.{◌⊎◌, inl, inr}
use mathlib.Core.Bool.{true}
use mathlib.Core.List.{List}
use native.Mathlib.Omega.{arith}
use Rattle.telegram.specs.Stretch.{bit_at, bits_at}
use Rattle.telegram.specs.Place.{are_syncs, words_at}
use Rattle.telegram.specs.declared.Telegram.{Telegram}
use Rattle.telegram.proofs.Window.{bit_lt, bits_lt}
use Rattle.balise_line.specs.Line.{OneBalise, Proper, repeated, unequal}
use Rattle.balise_line.proofs.Sums.{sum_ext, unequal_lt, not_at, Missing, one_missing}
use Rattle.balise_line.proofs.Round.{pattern, seven}
use Rattle.balise_line.proofs.Places.{place_parts}
use Rattle.balise_line.proofs.Wrong.{Bytes, outer_bits, as_syncs}
use Rattle.noise_laws.specs.Pass.{line_at, NoisyPass}
use Rattle.noise_laws.proofs.Flips.{zeroes_flips, any_few}
use Rattle.noise_laws.proofs.Inside.{one_after}
use Rattle.noise_laws.proofs.Tests.{spelt, is_short, zs, outer}
use Rattle.noise_laws.proofs.Overlap.{Comes, same_order}
use Rattle.noise_laws.proofs.Swapped.{swapped}
use Rattle.noise_laws.proofs.Words.{x_short, spelt_bits}
use Rattle.noise_laws.proofs.Zero.{zeroes_sum}
use Rattle.noise_laws.proofs.Two.{Two}
use Rattle.noise_laws.proofs.Apart as between

module _ (o : OneBalise) (proper : Proper o) (c l : ℕ) (m : Telegram) (two : Two o.buffer c l o.s o.t m) where
  abbrev b : List ℕ
  b = o.buffer

  abbrev p : ℕ
  p = two.p

  abbrev pub d : ℕ
  d = between.d b c l o.s o.t m two

  abbrev pub r : ℕ → ℕ
  r = between.r b c l o.s o.t m two

  pub words_again : (i : ℕ) → i < 24 → r (8 + (i + d)) ≡ r (8 + i)
  words_again = between.words_again b c l o.s o.t m two

  q_is : (i : ℕ) → bit_at b (two.q + i) ≡ r (i + d)
  q_is = between.q_is b c l o.s o.t m two

  pub syncs_p : are_syncs o.s o.t (bits_at b p 8) (bits_at b (p + 32) 8) ≡ true
  syncs_p = (place_parts b c l o.s o.t p two.p_place).1

  syncs_q : are_syncs o.s o.t (bits_at b two.q 8) (bits_at b (two.q + 32) 8) ≡ true
  syncs_q = (place_parts b c l o.s o.t two.q two.q_place).1

  -- The outer bytes differ in every bit but one.
  pub missing : Missing (pattern o) 8
  unfolding pattern
  missing = one_missing (pattern o) (λ i. unequal_lt (bit_at (repeated o) (0 + i)) (bit_at (repeated o) (32 + i))) 7 (seven o proper)

  as_pattern : (i : ℕ) → i < 8 → unequal (r i) (r (32 + i)) ≡ pattern o i
  as_pattern i less = let e : p + (32 + i) ≡ p + 32 + i = omega arith in ap (λ (k : ℕ). unequal (r i) (bit_at b k)) e ∙ as_syncs o proper p syncs_p i less

  pub differ : (i : ℕ) → i < 8 → unequal (r i) (r (32 + i)) ≡ not_at missing.at i
  differ i less = as_pattern i less ∙ missing.is i less

  seven_differ : outer r ≡ 7
  unfolding outer
  seven_differ = sum_ext (λ i. unequal (r i) (r (32 + i))) (pattern o) 8 as_pattern ∙ seven o proper

  pub short_x : is_short (spelt r 8 8) ≡ true
  unfolding words_at
  short_x =
      ap is_short (spelt_bits b p 8 8)
      ∙ x_short (bits_at b (p + 8) 8) (bits_at b (p + 16) 8) (bits_at b (p + 24) 8) m (bits_lt b (p + 8) 8) two.reads

  positive : 0 < d
  positive = omega (arith, two.order)

  bits_r : (i : ℕ) → r i < 2
  bits_r i = bit_lt b (p + i)

  -- Where the outer bytes of both are the sync words in the same order, all bits repeat;
  in_order : (u v : ℕ) → Bytes o proper p u v → Bytes o proper two.q u v → Comes r d
  in_order u v here there = same_order r bits_r d positive short_x missing.at missing.within differ seven_differ (between.all_again b c l o.s o.t m two first last)
    where
      first : (i : ℕ) → i < 8 → r (i + d) ≡ r i
      first i less = sym (q_is i) ∙ (there i less).0 ∙ sym (here i less).0

      last : (i : ℕ) → i < 8 → r (32 + i + d) ≡ r (32 + i)
      last i less =
          let e : two.q + 32 + i ≡ two.q + (32 + i) = omega arith in
          let f : p + 32 + i ≡ p + (32 + i) = omega arith in
          sym (ap (bit_at b) e ∙ q_is (32 + i)) ∙ (there i less).1 ∙ sym (here i less).1 ∙ ap (bit_at b) f

  -- else they are swapped.
  crossed : (u v : ℕ) → Bytes o proper p u v → Bytes o proper two.q v u → d ≤ 14 → Comes r d
  crossed u v here there top = swapped r bits_r d positive short_x missing.at missing.within differ seven_differ words_again next last top
    where
      next : (i : ℕ) → i < 8 → r (d + i) ≡ r (32 + i)
      next i less =
          let e : i + d ≡ d + i = omega arith in
          let f : p + 32 + i ≡ p + (32 + i) = omega arith in
          sym (q_is i ∙ ap r e) ∙ (there i less).0 ∙ sym (here i less).1 ∙ ap (bit_at b) f

      last : (i : ℕ) → i < 8 → r (32 + d + i) ≡ r i
      last i less =
          let e : two.q + 32 + i ≡ two.q + (32 + i) = omega arith in
          let f : 32 + i + d ≡ 32 + d + i = omega arith in
          sym (ap (bit_at b) e ∙ q_is (32 + i) ∙ ap r f) ∙ (there i less).1 ∙ sym (here i less).0

  pub comes : d ≤ 14 → Comes r d
  comes top = go (outer_bits o proper p syncs_p) (outer_bits o proper two.q syncs_q)
    where
      go : Bytes o proper p 0 32 ⊎ Bytes o proper p 32 0 → Bytes o proper two.q 0 32 ⊎ Bytes o proper two.q 32 0 → Comes r d
      go (inl here) (inl there) = in_order 0 32 here there
      go (inr here) (inr there) = in_order 32 0 here there
      go (inl here) (inr there) = crossed 0 32 here there top
      go (inr here) (inl there) = crossed 32 0 here there top

  -- The last d + 1 bits of the second place lie in the quiet line.
  module _ (most from to : ℕ) (pass : NoisyPass most o from to) (long : from + 40 ≤ to) (low : o.start ≤ p) (past : o.start + o.len < p + 40) (room : two.q + 40 ≤ to) (near : d ≤ 14) where
    pub tail_few : zs r 39 (d + 1) ≤ most
    unfolding zs
    tail_few =
        let ahead = two.order in
        let begin = pass.from_low in
        let same = sum_ext (λ i. 1 - r (39 + i)) (λ i. 1 - bit_at b (p + 39 + i)) (d + 1) (λ i l. let e : p + (39 + i) ≡ p + 39 + i = omega arith in ap (λ (k : ℕ). 1 - bit_at b k) e) in
        let cost = zeroes_flips (line_at o) b (p + 39) (d + 1) (λ i l. one_after o (p + 39 + i) (omega arith)) in
        let few = any_few (line_at o) b most from to pass.few long (p + 39) (d + 1) (omega arith) (omega arith) (omega arith) in
        omega (arith, same, zeroes_sum b (p + 39) (d + 1), cost, few)
