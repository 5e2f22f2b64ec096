-- `put_what` goes by what lies there.
use mathlib.Core.Path.{subst}
use Prim.Native.Nat.{◌+◌, ◌≤◌}
use lib.ListN.{length}
use Rattle.text.proofs.Standing.{by_case}
use Rattle.trace_text.specs.declared.What.{What}
use Rattle.trace_text.specs.Line.{what_text}
use Rattle.trace_text.proofs.putting.put_what.Goals as goal

pub put_balise-requires : goal.put_balise-requires
unfolding what_text
put_balise-requires c =
    subst (λ (w : What). c.args.at + length (what_text w) ≤ length c.args.buf.now) c.in-Balise.is c.requires

pub put_raw-requires : goal.put_raw-requires
put_raw-requires c =
    subst (λ (w : What). c.args.at + length (what_text w) ≤ length c.args.buf.now) c.in-Raw.is c.requires

pub returns-in-Balise : goal.returns-in-Balise
unfolding what_text
returns-in-Balise c = by_case what_text _ _ c.in-Balise.is c.put_balise.ensures

pub returns-in-Marker : goal.returns-in-Marker
unfolding what_text
returns-in-Marker c = by_case what_text _ _ c.in-Marker.is c.put.ensures

pub returns-in-Unreadable : goal.returns-in-Unreadable
unfolding what_text
returns-in-Unreadable c = by_case what_text _ _ c.in-Unreadable.is c.put-in-Unreadable.ensures

pub returns-in-Position : goal.returns-in-Position
unfolding what_text
returns-in-Position c = by_case what_text _ _ c.in-Position.is c.put-in-Position.ensures

pub returns-in-Raw : goal.returns-in-Raw
returns-in-Raw c = by_case what_text _ _ c.in-Raw.is c.put_raw.ensures
