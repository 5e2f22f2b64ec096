-- By the line, and by whether it is extra.
-- Assumes nothing.
use mathlib.Core.Path.{sym, ap, ◌∙◌}
use Rattle.ride.specs.declared.Line.{Line}
use Rattle.ride_drawing.proofs.Entries.{extra_drawn, extra_none}
use Rattle.text.proofs.Putting.{all_as, none_as}
use Rattle.ride_drawing.specs.Element.{pieces}
use Rattle.ride_drawing.specs.Drawing.{extra_mark}
use Rattle.ride_drawing.proofs.rows.put_extra.Goals as goal

pub returns-then-is_extra : goal.returns-then-is_extra
returns-then-is_extra c =
    let a = c.args in
    all_as _ _
    (extra_drawn a.plan c.in-Group.seen a.edge (sym c.is_extra.ensures ∙ c.if-is_extra.true) ∙ ap (λ (l : Line). pieces (extra_mark a.plan l a.edge)) (sym c.in-Group.is))
    c.put_extra_sign.ensures

pub returns-else-is_extra : goal.returns-else-is_extra
returns-else-is_extra c =
    let a = c.args in
    none_as _ _
    (extra_none a.plan c.in-Group.seen a.edge (sym c.is_extra.ensures ∙ c.if-is_extra.false) ∙ ap (λ (l : Line). pieces (extra_mark a.plan l a.edge)) (sym c.in-Group.is))

pub returns-in-Fault : goal.returns-in-Fault
returns-in-Fault c =
    let a = c.args in
    none_as _ _ (ap (λ (l : Line). pieces (extra_mark a.plan l a.edge)) (sym c.in-Fault.is))

pub returns-in-Missed : goal.returns-in-Missed
returns-in-Missed c =
    let a = c.args in
    none_as _ _ (ap (λ (l : Line). pieces (extra_mark a.plan l a.edge)) (sym c.in-Missed.is))

pub returns-in-Record : goal.returns-in-Record
returns-in-Record c =
    let a = c.args in
    none_as _ _ (ap (λ (l : Line). pieces (extra_mark a.plan l a.edge)) (sym c.in-Record.is))

pub returns-in-Trace : goal.returns-in-Trace
returns-in-Trace c =
    let a = c.args in
    none_as _ _ (ap (λ (l : Line). pieces (extra_mark a.plan l a.edge)) (sym c.in-Trace.is))
