-- The lead of a text (docs/LEAD.md, "A track"): "the lead (N1) of a ride over the things of the
-- text: N frames for each dm .., from 10 dm before the first place (or 0) to 10 dm after the last";
-- "Frames are written for every dm from the first to the last, both included".
-- Assumes nothing.
use Rattle.std.specs.Prelude.{ℕ, zero, suc, ◌+◌, ◌-◌, ◌*◌, ◌/◌, ◌&&◌, List, [], ◌∷◌, ◌++◌, leb}
use Rattle.words.specs.Answer.{Answer, gives, then, pick}
use Rattle.track_lead.specs.declared.Thing.{Thing}
use Rattle.track_lead.specs.declared.TrackWay.{TrackWay}
use Rattle.track_lead.specs.Way.{Bad, is_sent, fresh, take, from, until}
use Rattle.track_lead.specs.Sent.{line_in}
use Rattle.track_lead.specs.Feed.{frame_of}

-- A line of the text: a place, and what stands there.
pub record Item : Type 0 where
  pub place : ℕ
  pub thing : Thing

-- The way after some lines, or why one is not taken.
unfoldable pub way_from : TrackWay → List Item → Answer Bad TrackWay
way_from way [] = gives way
way_from way (item ∷ items) = then (take way item.place item.thing) λ next. way_from next items

unfoldable pub way_of : List Item → Answer Bad TrackWay
way_of items = way_from fresh items

-- A thing and the frame with which it begins.
pub record Over : Type 0 where
  pub thing : Thing
  pub since : ℕ

-- The first frame of a place, in a lead that begins at the decimetre `begin`.
abbrev pub first_frame : ℕ → ℕ → ℕ → ℕ
first_frame n begin place = n * (place - begin)

-- The thing over the antenna, or last passed, in frame k: the last of those listed that has begun.
unfoldable pub latest : ℕ → ℕ → List Item → ℕ → Over → Over
latest n begin [] k over = over
latest n begin (item ∷ items) k over =
    let first = first_frame n begin item.place in
    latest n begin items k (pick (is_sent item.thing && leb first k) (record { thing = item.thing; since = first }) over)

-- Before the first.
abbrev pub nothing : Over
nothing = record { thing = Thing.Nothing; since = 0 }

-- The line in frame k, and the frame: n to each decimetre.
unfoldable pub line_at : ℕ → ℕ → ℕ → ℕ → List Item → ℕ → List ℕ
line_at n s t begin items k =
    let over = latest n begin items k nothing in
    line_in s t over.thing (k - over.since)

abbrev pub odometer_at : ℕ → ℕ → ℕ → ℕ
odometer_at n begin k = begin + k / n

unfoldable pub frame_at : ℕ → ℕ → ℕ → ℕ → List Item → ℕ → List ℕ
frame_at n s t begin items k = frame_of (odometer_at n begin k) (line_at n s t begin items k)

-- So many frames from frame k on.
unfoldable pub frames_at : ℕ → ℕ → ℕ → ℕ → List Item → ℕ → ℕ → List ℕ
frames_at n s t begin items k zero = []
frames_at n s t begin items k (suc m) = frame_at n s t begin items k ++ frames_at n s t begin items (k + 1) m

-- The lead of a way over these lines.
unfoldable pub lead_of : ℕ → ℕ → ℕ → TrackWay → List Item → List ℕ
lead_of n s t way items = frames_at n s t (from way) items 0 (n * (until way - from way))
