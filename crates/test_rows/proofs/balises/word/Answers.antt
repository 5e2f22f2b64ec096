-- By how it is written.
-- Assumes nothing.
use mathlib.Core.Path.{sym, ap, ◌∙◌}
use mathlib.Core.Bool.{Bool}
use Rattle.test_rows.specs.Balises.{word_as}
use Rattle.test_rows.proofs.balises.word.Goals as goal

pub returns-then-in_hex : goal.returns-then-in_hex
returns-then-in_hex c = c.received.ensures ∙ ap (λ (b : Bool). word_as b c.args.text.now) (sym c.if-in_hex.true)

pub returns : goal.returns
returns c = c.sent.ensures ∙ ap (λ (b : Bool). word_as b c.args.text.now) (sym c.if-in_hex.false)
