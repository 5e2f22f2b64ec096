-- `four` takes the first four words.
use mathlib.Core.Path.{ap₂, ◌∙◌}
use native.Mathlib.Omega.{arith}
use lib.ListN.{get_or}
use Rattle.std.specs.Prelude.{ℕ, Option}
use Rattle.lines.specs.declared.Word.{Word}
use Rattle.lines.proofs.Places.{beyond, word_there}
use Rattle.settings_text.specs.Line.{word_at, figure_of, version}
use Rattle.settings_text.proofs.line.four.Goals as goal

pub returns : goal.returns
returns c =
    let line = c.args.line in
    let one = word_there line 0 (omega arith) in
    let two = word_there line 1 (omega arith) in
    let three = word_there line 2 (omega arith) in
    let four = word_there line 3 (omega arith) in
    c.version_of.ensures
    ∙ ap₂ (λ (p g : Option ℕ). version p g (get_or line.words 2 beyond).byte (get_or line.words 3 beyond).byte) c.figure_of.ensures c.figure_of-2.ensures
    ∙ ap₂ (λ (v w : Word). version (figure_of v.number) (figure_of w.number) (get_or line.words 2 beyond).byte (get_or line.words 3 beyond).byte) one two
    ∙ ap₂ (λ (v w : Word). version (figure_of (word_at line 0).number) (figure_of (word_at line 1).number) v.byte w.byte) three four
