-- `first_around` takes the smaller of the two.
use mathlib.Core.Path.{sym, ap, ◌∙◌}
use mathlib.Core.Bool.{Bool}
use Prim.Native.Nat.{ℕ, ◌-◌}
use lib.Dec.{leb}
use borrow.Author.Tests.{le-leb, lt-leb}
use Rattle.words.specs.Answer.{pick}
use Rattle.viewer_text.specs.Screen.{around}
use Rattle.viewer_text.proofs.screen.first_around.Goals as goal

pub returns-then-before-last : goal.returns-then-before-last
unfolding around
returns-then-before-last c =
    let n = c.args.number in
    let k = c.args.count in
    c.less-before.ensures
    ∙ ap (λ (t : Bool). pick t (n - 3) (k - 6)) (sym (ap (λ (x : ℕ). leb x (k - 6)) (sym c.less-before.ensures) ∙ ap (leb c.less-before.result) (sym c.less-last.ensures) ∙ le-leb _ _ c.if-before-last.true))

pub returns : goal.returns
unfolding around
returns c =
    let n = c.args.number in
    let k = c.args.count in
    c.less-last.ensures
    ∙ ap (λ (t : Bool). pick t (n - 3) (k - 6)) (sym (ap (λ (x : ℕ). leb x (k - 6)) (sym c.less-before.ensures) ∙ ap (leb c.less-before.result) (sym c.less-last.ensures) ∙ lt-leb _ _ c.if-before-last.false))
