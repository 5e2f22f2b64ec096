-- `line_in` goes by what the thing is.
use mathlib.Core.Path.{sym, ap, ◌∙◌}
use native.Mathlib.Omega.{arith}
use Rattle.track_lead.specs.declared.Thing.{Thing}
use Rattle.track_lead.specs.Sent.{line_in}
use Rattle.track_lead.proofs.Ones.{ones_there}
use Rattle.track_lead.proofs.sending.line_in.Goals as goal

pub returns-in-Balise : goal.returns-in-Balise
unfolding line_in
returns-in-Balise c =
    let a = c.args in
    c.balise.ensures ∙ ap (λ (x : Thing). line_in a.s a.t x a.j) (sym c.in-Balise.is)

pub returns-in-Marker : goal.returns-in-Marker
unfolding line_in
returns-in-Marker c =
    let a = c.args in
    c.once.ensures ∙ ap (λ (x : Thing). line_in a.s a.t x a.j) (sym c.in-Marker.is)

pub returns-in-Unreadable : goal.returns-in-Unreadable
unfolding line_in
returns-in-Unreadable c =
    let a = c.args in
    c.once-in-Unreadable.ensures ∙ ap (λ (x : Thing). line_in a.s a.t x a.j) (sym c.in-Unreadable.is)

pub returns-in-Nothing : goal.returns-in-Nothing
unfolding line_in
returns-in-Nothing c =
    let a = c.args in
    sym (ones_there a.s a.t Thing.Nothing a.j (omega arith)) ∙ ap (λ (x : Thing). line_in a.s a.t x a.j) (sym c.in-Nothing.is)
