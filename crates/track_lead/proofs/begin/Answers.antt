-- `begin` begins at the way's first decimetre.
use Prim.Native.Nat.{ℕ}
use mathlib.Core.Path.{ap}
use Rattle.track_lead.specs.declared.Thing.{Thing}
use Rattle.track_lead.specs.Feed.{begin}
use Rattle.track_lead.proofs.begin.Goals as goal

pub returns : goal.returns
unfolding begin
returns c =
    let a = c.args in
    ap (λ (place : ℕ). record { n = a.n; s = a.s; t = a.t; place = place; nth = 0; thing = Thing.Nothing; since = 0 }) c.from.ensures
