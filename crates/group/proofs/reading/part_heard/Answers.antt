-- By what was heard, and by what the words read.
-- Assumes nothing.
use mathlib.Core.Path.{sym, ap, ◌∙◌}
use Rattle.telegram.specs.Says.{says_telegram_read}
use Rattle.group.proofs.reading.part_heard.Goals as goal

pub returns-in-Ok : goal.returns-in-Ok
returns-in-Ok c =
    let e = sym c.read.ensures ∙ ap says_telegram_read c.in-Ok.is in
    rw (c.in-Words.is, e, c.part_of.ensures)

pub returns-in-Err : goal.returns-in-Err
returns-in-Err c =
    let e = sym c.read.ensures ∙ ap says_telegram_read c.in-Err.is in
    rw (c.in-Words.is, e)

pub returns-in-Marker : goal.returns-in-Marker
returns-in-Marker c = rw c.in-Marker.is
