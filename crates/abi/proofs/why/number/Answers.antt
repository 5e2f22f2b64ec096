-- By what the three words read.
-- Assumes nothing.
use mathlib.Core.Path.{sym, ap, ◌∙◌}
use Rattle.std.specs.Prelude.{Result}
use Rattle.telegram.specs.Says.{says_telegram_read}
use Rattle.telegram.specs.declared.BadWord.{BadWord}
use Rattle.telegram.specs.declared.Telegram.{Telegram}
use Rattle.abi.specs.Face.{why_number}
use Rattle.abi.proofs.why.number.Goals as goal

pub returns-in-Err : goal.returns-in-Err
returns-in-Err c =
    let said = ap (λ (r : Result Telegram BadWord). why_number (says_telegram_read r)) (sym c.in-Err.is) in
    (c.of_bad.ensures.0 ∙ said, c.of_bad.ensures.1)
