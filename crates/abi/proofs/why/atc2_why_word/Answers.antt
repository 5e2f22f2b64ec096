-- `atc2_why_word` returns the number of what `read_short` or `read_long` answers.
-- Assumes nothing.
use Prim.Native.Nat.{◌%◌}
use mathlib.Core.Path.{sym, ap, ◌∙◌}
use mathlib.Core.Bool.{Bool}
use lib.IntN.{pos}
use borrow.Author.Tests.{eq-eqb, ne_eqb}
use Rattle.words.specs.Answer.{pick}
use Rattle.words.specs.Code.{read_short, read_long}
use Rattle.abi.specs.Face.{word_number}
use Rattle.abi.proofs.Carried.{as_i32}
use borrow.Author.Rules.{rules}
use Rattle.abi.proofs.why.atc2_why_word.Goals as goal

pub returns-then-wide-eq0 : goal.returns-then-wide-eq0
returns-then-wide-eq0 c =
    let word = c.args.word in
    as_i32 (search rules)
    ∙ ap pos (c.of_short.ensures.0 ∙ ap word_number c.read_short.ensures)
    ∙ ap (λ (b : Bool). pos (word_number (pick b (read_short (word % 256)) (read_long word)))) (sym (eq-eqb c.args.wide 0 c.if-wide-eq0.true))

pub returns : goal.returns
returns c =
    let word = c.args.word in
    as_i32 (search rules)
    ∙ ap pos (c.of_long.ensures.0 ∙ ap word_number c.read_long.ensures)
    ∙ ap (λ (b : Bool). pos (word_number (pick b (read_short (word % 256)) (read_long word)))) (sym (ne_eqb c.args.wide 0 c.if-wide-eq0.false))
