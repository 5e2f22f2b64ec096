-- Two numbers of three digits added, digit by digit; eight or more is what goes up, or was there.
-- Assumes nothing.
use Prim.Native.Nat.{ℕ, ◌+◌, ◌/◌}
use mathlib.Core.Path.{ap, ◌∙◌}
use Rattle.words.specs.Bits.{bit}
use Rattle.contact.proofs.Adders.{shifted, summed}
use Rattle.contact.proofs.count.doubled.Goals as goal

pub returns : goal.returns
returns c =
    let arg = c.args in
    let n = arg.n in
    let m = arg.m in
    let a = c.sum-a in
    let x = c.carry-x in
    let b = c.sum-b in
    let y = c.carry-y in
    let p = c.sum-c in
    let z = c.carry-z in
    let is = summed a.result b.result p.result x.result y.result z.result n.a n.b n.c m a.ensures x.ensures b.ensures y.ensures p.ensures z.ensures in record {
      by_index = λ k. (is k).0;
      by_index_2 = λ k. c.any-d.ensures k
          ∙ ap (λ (d : ℕ). (bit n.d k + d + bit z.result k + 2) / 3) (shifted n.d m k)
          ∙ ap (λ (u : ℕ). (bit n.d k + bit n.d (m + k) + u + 2) / 3) (is k).1;
    }
