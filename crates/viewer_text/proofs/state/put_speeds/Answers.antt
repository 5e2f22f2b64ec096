-- `put_speeds` puts main, target and number one after the other.
use mathlib.Core.List.{◌++◌}
use Prim.Native.Nat.{◌+◌, ◌≤◌}
use lib.ListN.{length}
use Rattle.text.specs.Text.{codes}
use Rattle.text.proofs.Standing.{less, join, room_after, join_3}
use Rattle.viewer_text.specs.Text.{speed}
use Rattle.viewer_text.specs.Pieces.{on_figure, on_speeds}
use Rattle.viewer_text.proofs.state.put_speeds.Goals.{Start}
use Rattle.viewer_text.proofs.state.put_speeds.Goals as goal

-- the whole has room
whole : (s : Start) → let a = s.args in
    a.at + length ((codes "\n  main " ++ speed a.of.main) ++ (codes ", target " ++ speed a.of.target) ++ on_figure a.of.number) ≤ length a.buf.now
unfolding on_speeds
whole s = s.requires

-- and so have its first two pieces
both : (s : Start) → let a = s.args in
    a.at + length ((codes "\n  main " ++ speed a.of.main) ++ (codes ", target " ++ speed a.of.target)) ≤ length a.buf.now
both s =
    let a = s.args in
    less a.buf.now a.at ((codes "\n  main " ++ speed a.of.main) ++ (codes ", target " ++ speed a.of.target)) (on_figure a.of.number) (whole s)

pub put_speed-a-requires : goal.put_speed-a-requires
put_speed-a-requires c =
    let a = c.args in
    less a.buf.now a.at (codes "\n  main " ++ speed a.of.main) (codes ", target " ++ speed a.of.target) (both (goal.at-put_speed-a-requires c).Start)

pub put_speed-b-requires : goal.put_speed-b-requires
put_speed-b-requires c =
    let a = c.args in
    room_after a.buf.now a.at (codes "\n  main " ++ speed a.of.main) (codes ", target " ++ speed a.of.target) (both (goal.at-put_speed-b-requires c).Start) c.put_speed-a.ensures

pub put_figure-requires : goal.put_figure-requires
put_figure-requires c =
    let a = c.args in
    room_after a.buf.now a.at ((codes "\n  main " ++ speed a.of.main) ++ (codes ", target " ++ speed a.of.target)) (on_figure a.of.number) (whole (goal.at-put_figure-requires c).Start)
    (join a.buf.now a.at (codes "\n  main " ++ speed a.of.main) (codes ", target " ++ speed a.of.target) (both (goal.at-put_figure-requires c).Start) c.put_speed-a.ensures c.put_speed-b.ensures)

pub returns : goal.returns
unfolding on_speeds
returns c =
    let a = c.args in
    join_3 a.buf.now a.at (codes "\n  main " ++ speed a.of.main) (codes ", target " ++ speed a.of.target) (on_figure a.of.number) (whole (goal.at-returns c).Start)
    c.put_speed-a.ensures c.put_speed-b.ensures c.put_figure.ensures
