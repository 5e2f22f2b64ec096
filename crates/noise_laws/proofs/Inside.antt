-- A pass and the stretch that the balise's own bits are: the line carries what the balise sends
-- there, and the flips are the stretch's.
-- Assumes nothing.
use Prim.Native.Nat.{ℕ, ◌+◌, ◌-◌, ◌≤◌, ◌<◌}
use mathlib.Core.Path.{◌≡◌, refl, sym, ap, ap₂, ◌∙◌}
use mathlib.Core.Bool.{Bool, true, false, ◌&&◌}
use native.Mathlib.Omega.{arith}
use lib.Dec.{leb, ltb}
use borrow.Author.Tests.{le-leb, lt-leb, lt-ltb, le-ltb}
use Rattle.words.specs.Answer.{pick}
use Rattle.telegram.specs.Stretch.{bit_at}
use Rattle.balise_line.specs.Line.{OneBalise, sent_bit, line_bit, unequal, flip, flips, flips_at}
use Rattle.balise_line.specs.Forty.{AtMostInForty}
use Rattle.balise_line.proofs.Sums.{sum_ext}
use Rattle.balise_line.proofs.Window.{flip_is}
use Rattle.noise_laws.specs.Pass.{is_over, line_at, flipped, flips_in, NoisyPass}

module _ (o : OneBalise) where
  -- Before the balise the line carries ones, and after it.
  pub one_before : (i : ℕ) → i < o.start → line_at o i ≡ 1
  unfolding line_at is_over
  one_before i less =
      ap (λ (t : Bool). pick (t && ltb i (o.start + o.len)) (sent_bit o (line_bit o i)) 1) (lt-leb o.start i less)

  pub one_after : (i : ℕ) → o.start + o.len ≤ i → line_at o i ≡ 1
  unfolding line_at is_over
  one_after i more = ap (λ (t : Bool). pick (leb o.start i && t) (sent_bit o (line_bit o i)) 1) (le-ltb i (o.start + o.len) more) ∙ go (leb o.start i)
    where
      go : (t : Bool) → pick (t && false) (sent_bit o (line_bit o i)) 1 ≡ 1
      go true = refl
      go false = refl

  -- Over it, what it sends.
  pub sent_there : (p i : ℕ) → o.start ≤ p → p + i < o.start + o.len → line_at o (p + i) ≡ sent_bit o (line_bit o p + i)
  unfolding line_at is_over line_bit
  sent_there p i low high =
      let same : o.phase + (p + i - o.start) ≡ o.phase + (p - o.start) + i = omega arith in
      ap₂ (λ (t u : Bool). pick (t && u) (sent_bit o (o.phase + (p + i - o.start))) 1) (le-leb o.start (p + i) (omega arith)) (lt-ltb (p + i) (o.start + o.len) high)
      ∙ ap (sent_bit o) same

  -- So the flips of forty bits of the stretch are those of the pass.
  pub same_flips : (p : ℕ) → o.start ≤ p → p + 40 ≤ o.start + o.len → flips_at o p ≡ flips_in (line_at o) o.buffer p 40
  unfolding flips_at flips flips_in flipped
  same_flips p low high =
      sum_ext (λ i. flip o (line_bit o p + i)) (λ i. unequal (bit_at o.buffer (p + i)) (line_at o (p + i))) 40
      (λ i l. flip_is o p low high i l ∙ ap (unequal (bit_at o.buffer (p + i))) (sym (sent_there p i low (omega arith))))

  pub in_stretch : (most from to : ℕ) → NoisyPass most o from to → AtMostInForty most o
  in_stretch most from to pass p low high =
      omega (arith, same_flips p low high, pass.few p (omega (arith, pass.from_low)) (omega (arith, pass.to_high)))
