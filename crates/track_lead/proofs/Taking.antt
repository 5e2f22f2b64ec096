-- A line that is neither too high nor below the one before is taken unless it is too near.
-- Assumes nothing.
use Prim.Native.Nat.{ℕ, ◌≤◌}
use mathlib.Core.Path.{◌≡◌, sym, ap, ap₂, ◌∙◌}
use mathlib.Core.Bool.{Bool, ◌&&◌}
use borrow.Author.Tests.{le-ltb}
use Rattle.words.specs.Answer.{Answer, gives, refuses, pick}
use Rattle.track_lead.specs.declared.Thing.{Thing}
use Rattle.track_lead.specs.declared.TrackWay.{TrackWay}
use Rattle.track_lead.specs.Way.{highest, is_sent, is_near, after, Bad, too_near, take}

pub unless_near : (way : TrackWay) (place : ℕ) (thing : Thing) (sent near t : Bool) → place ≤ highest → way.last ≤ place
    → sent ≡ is_sent thing → near ≡ is_near way.thing place → (sent && near) ≡ t
    → pick {A = Answer Bad TrackWay} t (refuses too_near) (gives (after way place thing)) ≡ take way place thing
unfolding take
unless_near way place thing sent near t low on is-sent is-near both =
    simp (le-ltb _ _ low, le-ltb _ _ on)
    (ap (λ (x : Bool). pick {A = Answer Bad TrackWay} x (refuses too_near) (gives (after way place thing))) (sym both ∙ ap₂ ◌&&◌ is-sent is-near))
