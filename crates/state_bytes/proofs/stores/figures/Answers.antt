-- Figure after figure is the rule's, and the count comes last.
-- Assumes nothing.
use Prim.Native.Nat.{ℕ, ◌+◌, ◌%◌, ◌<◌}
use mathlib.Core.Path.{◌≡◌, refl, sym, subst, ◌∙◌}
use native.Mathlib.Omega.{arith}
use lib.ListN.{length, get_or, set, length-set}
use Rattle.state_bytes.specs.Inside.{width_of}
use Rattle.state_bytes.specs.Stores.{version_figure, figures_of}
use Rattle.state_bytes.proofs.Bytes.{then_last, more, and_then}
use Rattle.state_bytes.proofs.stores.figures.Invariants.{rule}
use Rattle.state_bytes.proofs.stores.figures.Goals as goal

pub loop-j-init : goal.loop-j-init
loop-j-init c = (refl, (λ i h. absurd (omega arith)), λ i h. absurd (omega arith))

pub loop-j-preserved : goal.loop-j-preserved
loop-j-preserved c =
    let l = c.loop-j in
    let versions = c.args.versions in
    let wrote = c.version_figure.ensures in
    let inside : l.j < length l.figures = subst (λ (n : ℕ). l.j < n) (sym l.invariant.0) (omega arith) in
    let v = c.version_figure.result in (
      length-set l.figures l.j v ∙ l.invariant.0,
      subst (λ (b : ℕ). (i : ℕ) → i < l.j + 1 → get_or (set l.figures l.j b) i 0 ≡ rule versions i) (sym wrote.0) (more (rule versions) 0 l.figures l.j inside l.invariant.1),
      and_then (λ (i : ℕ). rule versions i < width_of (i % 4)) l.j l.invariant.2 (subst (λ (n : ℕ). n < width_of (l.j % 4)) wrote.0 wrote.1),
    )

pub returns : goal.returns
unfolding figures_of
returns c =
    let l = c.loop-j in
    let all : l.j ≡ 128 = omega arith in
    let on : (i : ℕ) → i < 128 → get_or l.figures i 0 ≡ rule c.args.versions i = λ i h. l.invariant.1 i (subst (λ (n : ℕ). i < n) (sym all) h) in
    let small : (i : ℕ) → i < 128 → rule c.args.versions i < width_of (i % 4) = λ i h. l.invariant.2 i (subst (λ (n : ℕ). i < n) (sym all) h) in
    record { value = then_last (rule c.args.versions) 0 l.figures c.args.count 128 l.invariant.0 on; by_index = small; versions_len = c.well_formed.0.1.0.1 }
