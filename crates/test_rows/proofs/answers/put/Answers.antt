-- By what came of the group.
-- Assumes nothing.
use Prim.Native.Nat.{ℕ}
use mathlib.Core.Path.{ap, ◌∙◌}
use mathlib.Core.List.{List}
use Rattle.std.specs.Prelude.{Result}
use Rattle.group.specs.declared.Message.{Message}
use Rattle.group.specs.declared.GroupRefused.{GroupRefused}
use Rattle.group.specs.Says.{says_group_judged}
use Rattle.words.specs.Answer.{refuses}
use Rattle.text.specs.Pieces.{puts}
use Rattle.test_rows.specs.Answers.{answer_pieces}
use Rattle.test_rows.proofs.Choosing.{by_case}
use Rattle.test_rows.proofs.answers.put.Goals as goal

abbrev pieces : Result Message GroupRefused → List (List ℕ)
pieces j = answer_pieces (says_group_judged j)

pub returns-in-Ok : goal.returns-in-Ok
returns-in-Ok c = by_case pieces _ _ c.in-Ok.is c.message.ensures

pub returns-in-Err : goal.returns-in-Err
returns-in-Err c =
    by_case pieces _ _ c.in-Err.is
    (c.refused.ensures ∙ ap (λ (n : ℕ). puts (answer_pieces (refuses n)) c.args.out.now 0) c.from.ensures)
