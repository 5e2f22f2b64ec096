-- `judged` rides under the store of a text that is fine, which is good.
use Rattle.std.proofs.Common.{sym, refl, ◌∙◌}
use Rattle.console.proofs.Riding.{good}
use Rattle.console.proofs.before.judged.Goals as goal

pub returns-then-is_fine : goal.returns-then-is_fine
returns-then-is_fine g c =
    let t = c.args.text.now in
    (refl, good t c.read-sheet.result c.read-sheet.ensures (sym c.is_fine.ensures ∙ c.if-is_fine.true))
