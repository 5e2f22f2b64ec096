-- `figure_of` goes by what the number is.
use mathlib.Core.Path.{sym, ap, ◌∙◌}
use Rattle.std.specs.Prelude.{Err}
use Rattle.settings_text.specs.Line.{figure_of}
use Rattle.settings_text.proofs.line.figure_of.Goals as goal

pub returns-in-Ok : goal.returns-in-Ok
returns-in-Ok c = ap figure_of (sym c.in-Ok.is)

pub returns-in-Err-Above : goal.returns-in-Err-Above
returns-in-Err-Above c = ap figure_of (sym (c.in-Err-Above.is ∙ ap Err (rw c.in-Err-Above.is at c.in-Err-Above.field-0-is)))

pub returns-in-Err-Odd : goal.returns-in-Err-Odd
returns-in-Err-Odd c = ap figure_of (sym (c.in-Err-Odd.is ∙ ap Err (rw c.in-Err-Odd.is at c.in-Err-Odd.field-0-is)))
