-- `parity` is right because the machine's count of ones is the count over the word's bits.
use mathlib.Core.Path.{sym, ap, ◌∙◌}
use mathlib.Core.Bool.{Bool}
use Rattle.words.specs.Answer.{pick}
use Rattle.words.specs.declared.Parity.{Parity}
use Rattle.words.proofs.Parities.{counted}
use borrow.Author.Tests.{eq-eqb, ne_eqb}
use Rattle.words_list.proofs.parity.Goals as goal

pub returns-then-word-eq0 : goal.returns-then-word-eq0
returns-then-word-eq0 c =
    ap (λ (b : Bool). pick b Parity.Even Parity.Odd) (sym (eq-eqb _ 0 c.if-word-eq0.true)) ∙ counted 16 c.args.word c.ranges.word.fits

pub returns-else-word-eq0 : goal.returns-else-word-eq0
returns-else-word-eq0 c =
    ap (λ (b : Bool). pick b Parity.Even Parity.Odd) (sym (ne_eqb _ 0 c.if-word-eq0.false)) ∙ counted 16 c.args.word c.ranges.word.fits
