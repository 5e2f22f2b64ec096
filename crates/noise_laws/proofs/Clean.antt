-- A pass without noise has no flip: over the balise its bits are received as sent, before and after
-- it ones.
-- Assumes nothing.
use Prim.Native.Nat.{ℕ, ◌+◌, ◌-◌, ◌≤◌, ◌<◌}
use mathlib.Core.Path.{◌≡◌, refl, sym, ap, ◌∙◌}
use mathlib.Core.Bool.{Bool, true, false}
use mathlib.Core.List.{List}
use native.Mathlib.Omega.{arith}
use lib.Dec.{ltb}
use borrow.Author.Tests.{ltb-true, ltb-false}
use Rattle.telegram.specs.Stretch.{bit_at}
use Rattle.balise_line.specs.Line.{OneBalise, sent_bit, line_bit}
use Rattle.balise_line.proofs.Sums.{none_sum, unequal_same}
use Rattle.contact_laws.specs.Pass.{Pass}
use Rattle.contact_laws.proofs.Sound.{received}
use Rattle.noise_laws.specs.Pass.{line_at, flipped, flips_in, CleanToo}
use Rattle.noise_laws.proofs.Inside.{one_before, one_after, sent_there}

module _ (o : OneBalise) (from to : ℕ) (pass : Pass o from to) where
  abbrev b : List ℕ
  b = o.buffer

  as_carried : (i : ℕ) → from ≤ i → i < to → bit_at b i ≡ line_at o i
  unfolding line_bit
  as_carried i low high = go (ltb i o.start) (ltb i (o.start + o.len)) refl refl
    where
      go : (t u : Bool) → ltb i o.start ≡ t → ltb i (o.start + o.len) ≡ u → bit_at b i ≡ line_at o i
      go true u p q = let less = ltb-true i o.start p in pass.ones_before i low less ∙ sym (one_before o i less)
      go false true p q =
          let k = i - o.start in
          let up = ltb-false i o.start p in
          let down = ltb-true i (o.start + o.len) q in
          let e : i ≡ o.start + k = omega arith in
          let f : o.phase + k ≡ o.phase + (o.start - o.start) + k = omega arith in
          ap (bit_at b) e ∙ received o pass.clean k (omega arith) ∙ ap (sent_bit o) f ∙ sym (sent_there o o.start k (omega arith) (omega arith)) ∙ ap (line_at o) (sym e)
      go false false p q = let more = ltb-false i (o.start + o.len) q in pass.ones_after i more high ∙ sym (one_after o i more)

  none : (p : ℕ) → from ≤ p → p + 40 ≤ to → flips_in (line_at o) b p 40 ≡ 0
  unfolding flips_in flipped
  none p low high = none_sum (λ i. flipped (line_at o) b (p + i)) 40 (λ i l. unequal_same (bit_at b (p + i)) (line_at o (p + i)) (as_carried (p + i) (omega arith) (omega arith)))

pub clean_too : CleanToo
clean_too o from to pass =
    record {
      from_low = pass.from_low;
      to_high = omega (arith, pass.to_high);
      few = λ p low high. omega (arith, none o from to pass p low high);
      taken = pass.taken;
    }
