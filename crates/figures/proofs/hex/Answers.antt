-- `hex` reads the two digits, and refuses what is no digit.
use mathlib.Core.Path.{ap₂, ◌∙◌, subst}
use Prim.Native.Nat.{ℕ, ◌+◌, ◌*◌, ◌≤◌, ◌<◌}
use borrow.Author.Tests.{ne_eqb}
use Rattle.figures.specs.Figures.{hex}
use Rattle.std.specs.Prelude.{Some}
use Rattle.figures.proofs.Characters.{no_high, no_low, two_digits}
use Rattle.figures.proofs.hex.Goals as goal

pub returns-then-text-ne2 : goal.returns-then-text-ne2
unfolding hex
returns-then-text-ne2 c = simp (ne_eqb _ _ c.if-text-ne2.true)

pub returns-then-high-ge16 : goal.returns-then-high-ge16
returns-then-high-ge16 c =
    let t = c.args.text.now in
    no_high t c.if-text-ne2.false (subst (λ (k : ℕ). 16 ≤ k) c.hex_digit-high.ensures c.if-high-ge16.true)

pub returns-then-low-ge16 : goal.returns-then-low-ge16
returns-then-low-ge16 c =
    let t = c.args.text.now in
    no_low t c.if-text-ne2.false (subst (λ (k : ℕ). k < 16) c.hex_digit-high.ensures c.if-high-ge16.false)
    (subst (λ (k : ℕ). 16 ≤ k) c.hex_digit-low.ensures c.if-low-ge16.true)

pub returns : goal.returns
returns c =
    let t = c.args.text.now in
    ap₂ (λ (h l : ℕ). Some (h * 16 + l)) c.hex_digit-high.ensures c.hex_digit-low.ensures
    ∙ two_digits t c.if-text-ne2.false (subst (λ (k : ℕ). k < 16) c.hex_digit-high.ensures c.if-high-ge16.false)
    (subst (λ (k : ℕ). k < 16) c.hex_digit-low.ensures c.if-low-ge16.false)
