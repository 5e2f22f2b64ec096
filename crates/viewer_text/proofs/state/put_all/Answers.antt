-- `put_all` puts the pieces one after the other, and the last newline.
use mathlib.Core.Path.{ap, ◌∙◌}
use mathlib.Core.List.{List, ◌++◌}
use Prim.Native.Nat.{ℕ, ◌+◌, ◌≤◌}
use lib.ListN.{length}
use Rattle.text.specs.Text.{codes}
use Rattle.text.specs.Put.{put}
use Rattle.text.proofs.Standing.{less, join, room_after, join_3, join_4, room_as}
use Rattle.viewer_text.specs.Pieces.{on_place, on_group, on_linking, on_speeds}
use Rattle.viewer_text.proofs.Pieces.{state_is}
use Rattle.viewer_text.proofs.state.put_all.Goals.{Start}
use Rattle.viewer_text.proofs.state.put_all.Goals as goal

-- the pieces
abbrev one : Start → List ℕ
one s = on_place s.args.number s.args.count s.args.kept s.args.ride.odometer

abbrev two : Start → List ℕ
two s = on_group s.args.ride.group

abbrev three : Start → List ℕ
three s = on_linking s.args.ride.known.linking

abbrev four : Start → List ℕ
four s = on_speeds s.args.ride.known

-- the whole has room, and so have its beginnings
to_end : (s : Start) → s.args.at + length (one s ++ two s ++ three s ++ four s ++ codes "\n") ≤ length s.args.buf.now
to_end s = room_as s.args.buf.now s.args.at (state_is s.args.number s.args.count s.args.kept s.args.ride) s.requires

to_four : (s : Start) → s.args.at + length (one s ++ two s ++ three s ++ four s) ≤ length s.args.buf.now
to_four s = less s.args.buf.now s.args.at (one s ++ two s ++ three s ++ four s) (codes "\n") (to_end s)

to_three : (s : Start) → s.args.at + length (one s ++ two s ++ three s) ≤ length s.args.buf.now
to_three s = less s.args.buf.now s.args.at (one s ++ two s ++ three s) (four s) (to_four s)

to_two : (s : Start) → s.args.at + length (one s ++ two s) ≤ length s.args.buf.now
to_two s = less s.args.buf.now s.args.at (one s ++ two s) (three s) (to_three s)

pub put_place-a-requires : goal.put_place-a-requires
put_place-a-requires c =
    less c.args.buf.now c.args.at (one (goal.at-put_place-a-requires c).Start) (two (goal.at-put_place-a-requires c).Start) (to_two (goal.at-put_place-a-requires c).Start)

pub put_group-b-requires : goal.put_group-b-requires
put_group-b-requires c =
    room_after c.args.buf.now c.args.at (one (goal.at-put_group-b-requires c).Start) (two (goal.at-put_group-b-requires c).Start) (to_two (goal.at-put_group-b-requires c).Start) c.put_place-a.ensures

pub put_linking-c-requires : goal.put_linking-c-requires
put_linking-c-requires c =
    room_after c.args.buf.now c.args.at (one (goal.at-put_linking-c-requires c).Start ++ two (goal.at-put_linking-c-requires c).Start) (three (goal.at-put_linking-c-requires c).Start) (to_three (goal.at-put_linking-c-requires c).Start)
    (join c.args.buf.now c.args.at (one (goal.at-put_linking-c-requires c).Start) (two (goal.at-put_linking-c-requires c).Start) (to_two (goal.at-put_linking-c-requires c).Start) c.put_place-a.ensures c.put_group-b.ensures)

pub put_speeds-d-requires : goal.put_speeds-d-requires
put_speeds-d-requires c =
    room_after c.args.buf.now c.args.at (one (goal.at-put_speeds-d-requires c).Start ++ two (goal.at-put_speeds-d-requires c).Start ++ three (goal.at-put_speeds-d-requires c).Start) (four (goal.at-put_speeds-d-requires c).Start) (to_four (goal.at-put_speeds-d-requires c).Start)
    (join_3 c.args.buf.now c.args.at (one (goal.at-put_speeds-d-requires c).Start) (two (goal.at-put_speeds-d-requires c).Start) (three (goal.at-put_speeds-d-requires c).Start) (to_three (goal.at-put_speeds-d-requires c).Start) c.put_place-a.ensures c.put_group-b.ensures c.put_linking-c.ensures)

pub returns : goal.returns
returns c =
    let a = c.args in
    join a.buf.now a.at (one (goal.at-returns c).Start ++ two (goal.at-returns c).Start ++ three (goal.at-returns c).Start ++ four (goal.at-returns c).Start) (codes "\n") (to_end (goal.at-returns c).Start)
    (join_4 a.buf.now a.at (one (goal.at-returns c).Start) (two (goal.at-returns c).Start) (three (goal.at-returns c).Start) (four (goal.at-returns c).Start) (to_four (goal.at-returns c).Start) c.put_place-a.ensures c.put_group-b.ensures c.put_linking-c.ensures c.put_speeds-d.ensures)
    c.put.ensures
    ∙ ap (λ (t : List ℕ). put t a.buf.now a.at) (state_is a.number a.count a.kept a.ride)
