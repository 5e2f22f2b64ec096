-- By what was heard, and by what the words read.
-- Assumes nothing.
use mathlib.Core.Path.{sym, ap, ◌∙◌}
use Rattle.std.specs.Prelude.{Err}
use Rattle.telegram.specs.Says.{says_telegram_read}
use Rattle.group_reason.proofs.reading.part_heard.Goals as goal

pub returns-in-Ok : goal.returns-in-Ok
returns-in-Ok c =
    let e = sym c.read.ensures ∙ ap says_telegram_read c.in-Ok.is in
    rw (c.in-Words.is, e, c.part_of.ensures)

pub returns-in-Err-NotCode : goal.returns-in-Err-NotCode
returns-in-Err-NotCode c =
    let e = sym c.read.ensures ∙ ap says_telegram_read (c.in-Err-NotCode.is ∙ ap Err c.in-Err-NotCode.field-0-is) in
    rw (c.in-Words.is, e)

pub returns-in-Err-Fifteen : goal.returns-in-Err-Fifteen
returns-in-Err-Fifteen c =
    let e = sym c.read.ensures ∙ ap says_telegram_read (c.in-Err-Fifteen.is ∙ ap Err c.in-Err-Fifteen.field-0-is) in
    rw (c.in-Words.is, e)

pub returns-in-Marker : goal.returns-in-Marker
returns-in-Marker c = rw c.in-Marker.is

pub returns-in-Unreadable : goal.returns-in-Unreadable
returns-in-Unreadable c = rw c.in-Unreadable.is
