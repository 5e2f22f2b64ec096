-- `put_end` spells the line in a space of its own, and puts it into the buffer if it fits there.
use mathlib.Core.Bool.{true, false}
use mathlib.Core.Path.{ap, ap₂, ◌∙◌}
use mathlib.Core.List.{List}
use Prim.Native.Nat.{ℕ, ◌≤◌}
use native.Mathlib.Omega.{arith}
use lib.ListN.{length, replicate}
use Rattle.text.specs.Put.{put}
use Rattle.text.proofs.Standing.{Begins, begins, as_long, put_as}
use Rattle.ride.specs.Step.{End}
use Rattle.ride.specs.Says.{says_lines}
use Rattle.ride_text.specs.Style.{Style}
use Rattle.ride_text.specs.Text.{lines_text}
use Rattle.ride_text.specs.Told.{end_text}
use Rattle.ride_text.specs.List.{room_for}
use Rattle.ride_text.proofs.Texts.{lines_short}
use Rattle.ride_text.proofs.put_end.Goals.{After-put_lines-n}
use Rattle.ride_text.proofs.put_end.Goals as goal

-- No style needs more room than the space has.
room_within : (style : Style) → room_for style ≤ 320
room_within false = omega arith
room_within true = omega arith

-- The space begins with the text.
spelled : (c : After-put_lines-n) →
    let a = c.args in
    Begins (end_text a.reasons a.ride) c.put_lines-n.new.out c.put_lines-n.result
unfolding end_text
spelled c =
    let a = c.args in
    let r = c.end-ended.result in
    let is = ap₂ (lines_text a.reasons) (ap (λ (x : End). x.closed) c.end-ended.ensures) (ap (λ (x : End). x.lines) c.end-ended.ensures) in
    let t = lines_text a.reasons r.closed (says_lines r.lines) in
    begins 320 (end_text a.reasons a.ride) (omega (arith, ap length is, lines_short a.reasons r.closed r.lines, room_within a.reasons))
    (c.put_lines-n.ensures ∙ ap (λ (u : List ℕ). put u (replicate 320 0) 0) is)

pub returns : goal.returns
returns c = put_as _ _ (spelled (goal.at-returns c).After-put_lines-n) c.put.ensures

pub put_lines-n-requires : goal.put_lines-n-requires
put_lines-n-requires c = omega (arith, room_within c.args.reasons)

pub slice_bounds-lines-end : goal.slice_bounds-lines-end
slice_bounds-lines-end c = (spelled (goal.at-slice_bounds-lines-end c).After-put_lines-n).within

pub slice_bounds-put-end : goal.slice_bounds-put-end
slice_bounds-put-end c = as_long (spelled (goal.at-slice_bounds-put-end c).After-put_lines-n)
