-- By what the search answers.
-- Assumes nothing.
use mathlib.Core.Path.{sym, ap, ◌∙◌}
use Rattle.std.specs.Prelude.{Result, Err}
use Rattle.telegram.specs.declared.Found.{Found}
use Rattle.telegram.specs.declared.NotFound.{NotFound}
use Rattle.telegram.specs.Says.{says_found}
use Rattle.contact_drawing.specs.Strips.{is_found}
use Rattle.contact_drawing.proofs.boxes.is_telegram.Goals as goal

pub returns-in-Ok : goal.returns-in-Ok
returns-in-Ok c = ap (λ (f : Result Found NotFound). is_found (says_found f)) (sym c.in-Ok.is) ∙ ap is_found c.find.ensures

pub returns-in-Err-NotSeven : goal.returns-in-Err-NotSeven
returns-in-Err-NotSeven c = ap (λ (f : Result Found NotFound). is_found (says_found f)) (sym (c.in-Err-NotSeven.is ∙ ap Err c.in-Err-NotSeven.field-0-is)) ∙ ap is_found c.find.ensures

pub returns-in-Err-Beyond : goal.returns-in-Err-Beyond
returns-in-Err-Beyond c = ap (λ (f : Result Found NotFound). is_found (says_found f)) (sym (c.in-Err-Beyond.is ∙ ap Err c.in-Err-Beyond.field-0-is)) ∙ ap is_found c.find.ensures

pub returns-in-Err-NoPlace : goal.returns-in-Err-NoPlace
returns-in-Err-NoPlace c = ap (λ (f : Result Found NotFound). is_found (says_found f)) (sym (c.in-Err-NoPlace.is ∙ ap Err c.in-Err-NoPlace.field-0-is)) ∙ ap is_found c.find.ensures
