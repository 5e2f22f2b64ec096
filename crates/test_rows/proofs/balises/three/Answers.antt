-- Field after field.
-- Assumes nothing.
use mathlib.Core.Path.{ap, ◌∙◌}
use Rattle.test_rows.proofs.Choosing.{bytes_of}
use Rattle.test_rows.specs.Balises.{word_as, three_as}
use Rattle.test_rows.proofs.balises.three.Goals as goal

pub returns : goal.returns
unfolding three_as
returns c =
    let in-hex = c.args.in_hex in
    let first = c.word-x.ensures ∙ ap (word_as in-hex) (bytes_of c.field.ensures) in
    let second = c.word-y.ensures ∙ ap (word_as in-hex) (bytes_of c.field-2.ensures) in
    let third = c.word.ensures ∙ ap (word_as in-hex) (bytes_of c.field-3.ensures) in
    let all = c.words_of.ensures in
    cc
