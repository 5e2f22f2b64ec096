-- `after` keeps the place of what is sent.
use mathlib.Core.Path.{sym, ap₂, ◌∙◌}
use mathlib.Core.Bool.{Bool}
use Rattle.words.specs.Answer.{pick}
use Rattle.track_lead.specs.declared.Place.{Place}
use Rattle.track_lead.specs.Way.{after}
use Rattle.track_lead.proofs.going.after.Goals as goal

pub returns-then-is_sent : goal.returns-then-is_sent
unfolding after
returns-then-is_sent c =
    let a = c.args in
    ap₂ (λ (f : Place) (t : Bool). record { first = f; last = a.place; thing = pick t (Place.At a.place) a.way.thing }) c.first_of-first.ensures
    (sym c.if-is_sent.true ∙ c.is_sent.ensures)

pub returns : goal.returns
unfolding after
returns c =
    let a = c.args in
    ap₂ (λ (f : Place) (t : Bool). record { first = f; last = a.place; thing = pick t (Place.At a.place) a.way.thing }) c.first_of-first.ensures
    (sym c.if-is_sent.false ∙ c.is_sent.ensures)
