-- `atc2_settings_line` returns the line that `read` names.
-- Assumes nothing.
use mathlib.Core.Path.{ap, ◌∙◌}
use lib.IntN.{pos}
use Rattle.settings_text.specs.declared.Sheet.{Sheet}
use Rattle.abi.proofs.Carried.{as_i64}
use borrow.Author.Rules.{rules}
use Rattle.abi.proofs.stores.atc2_settings_line.Goals as goal

pub returns : goal.returns
returns c = as_i64 (search rules) ∙ ap (λ (x : Sheet). pos x.line) c.read-read.ensures
