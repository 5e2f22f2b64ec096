-- `frame` is the odometer's four bytes and the twelve of the line.
use mathlib.Core.Path.{◌≡◌, sym, ap, ◌∙◌}
use lib.ListN.{length}
use Rattle.track_lead.specs.Feed.{frame_of, frame}
use Rattle.track_lead.proofs.Ones.{elements, by_elements, line_long}
use Rattle.track_lead.proofs.sending.frame.Goals as goal

pub returns : goal.returns
unfolding frame elements
returns c =
    let a = c.args.feed in
    let l = c.line_in-l.result in
    let long : length l ≡ 12 = ap length c.line_in-l.ensures ∙ line_long a.s a.t a.thing a.since in
    ap (frame_of a.place) (sym (by_elements l 0 12 long) ∙ c.line_in-l.ensures)
