-- `all_digits` looks at one character a turn: the whole is digits exactly if what is left is.
use mathlib.Core.Path.{sym, ◌∙◌}
use native.Mathlib.Omega.{arith}
use Rattle.figures.proofs.Characters.{not_below, not_beyond, a_digit, digits_end}
use Rattle.figures.proofs.digits.all_digits.Goals as goal

pub returns-then-c-lt48 : goal.returns-then-c-lt48
returns-then-c-lt48 c =
    let t = c.args.text.now in
    sym (c.loop-c.invariant ∙ not_below t c.loop-c.c-index (omega arith) c.if-c-lt48.true)

pub returns-then-c-gt57 : goal.returns-then-c-gt57
returns-then-c-gt57 c =
    let t = c.args.text.now in
    sym (c.loop-c.invariant ∙ not_beyond t c.loop-c.c-index (omega arith) c.if-c-lt48.false c.if-c-gt57.true)

pub loop-c-preserved : goal.loop-c-preserved
loop-c-preserved c =
    let t = c.args.text.now in
    c.loop-c.invariant ∙ a_digit t c.loop-c.c-index (omega arith) c.if-c-lt48.false c.if-c-gt57.false

pub returns : goal.returns
returns c =
    let t = c.args.text.now in
    sym (c.loop-c.invariant ∙ digits_end t c.loop-c.c-index (omega arith))
