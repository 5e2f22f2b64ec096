-- `until` is one after the way's last decimetre.
use mathlib.Core.Path.{sym, ap, ◌∙◌}
use Prim.Native.Nat.{ℕ, ◌+◌}
use Rattle.track_lead.specs.declared.Place.{Place}
use Rattle.track_lead.specs.Way.{until_of, until}
use Rattle.track_lead.proofs.going.until.Goals as goal

pub returns-in-Never : goal.returns-in-Never
unfolding until
returns-in-Never c = ap (λ (m : Place). until_of m c.args.way.last) (sym c.in-Never.is)

pub returns-in-At : goal.returns-in-At
unfolding until
returns-in-At c =
    let a = c.args in
    ap (λ (k : ℕ). k + 1) c.last_of.ensures ∙ ap (λ (m : Place). until_of m a.way.last) (sym c.in-At.is)
