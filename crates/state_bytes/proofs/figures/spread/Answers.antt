-- Byte after byte is the rule's; the bytes before it stay.
-- Assumes nothing.
use Prim.Native.Nat.{ℕ, ◌+◌, ◌-◌, ◌%◌, ◌<◌, ◌≤◌}
use mathlib.Core.Path.{◌≡◌, refl, sym, ap, subst, ◌∙◌}
use mathlib.Core.List.{List}
use native.Mathlib.Omega.{arith}
use lib.ListN.{length, get_or, set, length-set}
use Rattle.state_bytes.specs.Figures.{byte_of, byte_among, spread, figure_at_meant}
use Rattle.state_bytes.proofs.Bytes.{is_each, more, reads_back}
use Rattle.state_bytes.proofs.figures.spread.Goals as goal

pub loop-j-init : goal.loop-j-init
loop-j-init c = (refl, λ i h. absurd (omega arith))

pub loop-j-preserved : goal.loop-j-preserved
loop-j-preserved c =
    let l = c.loop-j in
    let figures = c.args.figures.now in
    let rule : ℕ → ℕ = byte_among figures in
    let inside : l.j < length l.bytes = omega arith in
    let wrote : rule l.j ≡ c.byte_of.result = ap (λ (f : ℕ). byte_of f (l.j % 8)) (sym c.nth-figure.ensures.0) ∙ sym c.byte_of.ensures in (
      length-set l.bytes l.j c.byte_of.result ∙ l.invariant.0,
      subst (λ (b : ℕ). (i : ℕ) → i < l.j + 1 → get_or (set l.bytes l.j b) i 0 ≡ rule i) wrote (more rule 0 l.bytes l.j inside l.invariant.1),
    )

pub returns : goal.returns
unfolding spread
returns c =
    let l = c.loop-j in
    let figures = c.args.figures.now in
    let n = length c.args.bytes.now in
    let all : l.j ≡ n = omega arith in
    let on : (i : ℕ) → i < n → get_or l.bytes i 0 ≡ byte_among figures i = λ i h. l.invariant.1 i (subst (λ (m : ℕ). i < m) (sym all) h) in
    let is : l.bytes ≡ spread n figures = is_each (byte_among figures) n 0 l.bytes l.invariant.0 on in
    record { bytes_after = is; by_index = λ i h. ap (λ (b : List ℕ). figure_at_meant b i) is ∙ reads_back figures n i h (omega (arith, c.type_inv.figures i)) }

pub shape_of-bytes : goal.shape_of-bytes
shape_of-bytes c = c.loop-j.invariant.0
