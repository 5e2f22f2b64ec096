-- `take` tests in the order of the refusals.
use mathlib.Core.Path.{◌≡◌, ap, ◌∙◌}
use mathlib.Core.Bool.{Bool, true, false, ◌&&◌}
use borrow.Author.Tests.{lt-ltb, le-ltb}
use Rattle.words.specs.Answer.{Answer, gives, refuses, pick}
use Rattle.track_lead.specs.declared.TrackWay.{TrackWay}
use Rattle.track_lead.specs.Way.{after, Bad, too_near, take}
use Rattle.track_lead.proofs.Taking.{unless_near}
use Rattle.track_lead.proofs.going.take.Goals.{After-is_near}
use Rattle.track_lead.proofs.going.take.Goals as goal

-- past the first two tests
past : (c : After-is_near) (t : Bool) → (c.is_sent.result && c.is_near.result) ≡ t →
    let a = c.args in
    pick {A = Answer Bad TrackWay} t (refuses too_near) (gives (after a.way a.place a.thing)) ≡ take a.way a.place a.thing
past c t both =
    let a = c.args in
    unless_near a.way a.place a.thing c.is_sent.result c.is_near.result t c.if-place-gt-HIGHEST.false c.if-place-way.false
    c.is_sent.ensures c.is_near.ensures both

pub returns-then-place-gt-HIGHEST : goal.returns-then-place-gt-HIGHEST
unfolding take
returns-then-place-gt-HIGHEST c = simp (lt-ltb _ _ c.if-place-gt-HIGHEST.true)

pub returns-then-place-way : goal.returns-then-place-way
unfolding take
returns-then-place-way c = simp (le-ltb _ _ c.if-place-gt-HIGHEST.false, lt-ltb _ _ c.if-place-way.true)

pub returns-then-is_sent-is_near : goal.returns-then-is_sent-is_near
returns-then-is_sent-is_near c = past (goal.at-returns-then-is_sent-is_near c).After-is_near true c.if-is_sent-is_near.true

pub returns : goal.returns
returns c = ap gives c.after.ensures ∙ past (goal.at-returns c).After-is_near false c.if-is_sent-is_near.false
