-- By the line.
-- Assumes nothing.
use mathlib.Core.Path.{sym, ap}
use Rattle.ride.specs.declared.Line.{Line}
use Rattle.text.proofs.Putting.{all_as, none_as}
use Rattle.ride_drawing.specs.Sign.{label}
use Rattle.ride_drawing.proofs.signs.put_label.Goals as goal

pub returns-in-Group : goal.returns-in-Group
unfolding label
returns-in-Group c =
    let a = c.args in
    all_as _ _ (ap (λ (l : Line). label l a.edge a.x) (sym c.in-Group.is)) c.put_beside.ensures

pub returns-in-Fault : goal.returns-in-Fault
returns-in-Fault c =
    let a = c.args in
    all_as _ _ (ap (λ (l : Line). label l a.edge a.x) (sym c.in-Fault.is)) c.put_fault.ensures

pub returns-in-Missed : goal.returns-in-Missed
unfolding label
returns-in-Missed c =
    let a = c.args in
    none_as _ _ (ap (λ (l : Line). label l a.edge a.x) (sym c.in-Missed.is))

pub returns-in-Record : goal.returns-in-Record
unfolding label
returns-in-Record c =
    let a = c.args in
    none_as _ _ (ap (λ (l : Line). label l a.edge a.x) (sym c.in-Record.is))

pub returns-in-Trace : goal.returns-in-Trace
unfolding label
returns-in-Trace c =
    let a = c.args in
    none_as _ _ (ap (λ (l : Line). label l a.edge a.x) (sym c.in-Trace.is))
