-- The judgement of a closed group (document 01, "Groups" and "Refusal numbers"): 10, 11, 12, 13, 15
-- in this order, or the group's message. 14 is not used: no group fits a row of each direction
-- (group_rows/specs/OneWay.antt). A message (`Message`) has the group's direction and kind, the
-- place of its A balise, AY and AZ, the figure of its number balise or none, and its content
-- (`Content`), what it says beyond its kind. That of a present signal: its distance (a preset
-- point's is table DF's figure, and links nothing), whether it is a preset point, its main speed
-- and its target; of a present warning board: its distance; of a route board: its speed; of any
-- other group: nothing.
-- Assumes nothing.
use Rattle.std.specs.Prelude.{ℕ, ◌&&◌, List, eqb, ltb}
use Rattle.words.specs.Answer.{Outcome, gives, refuses, pick}
use Rattle.group_rows.specs.declared.Direction.{Direction}
use Rattle.group_rows.specs.declared.Kind.{Kind}
use Rattle.group_rows.specs.declared.Placed.{Placed}
use Rattle.group_rows.specs.declared.Picked.{Picked}
use Rattle.group.specs.declared.Group.{Group}
use Rattle.group.specs.declared.Number.{Number}
use Rattle.group.specs.declared.Content.{Content}
use Rattle.group.specs.declared.Message.{Message}
use Rattle.group.specs.Balise.{balises, then, read_all}
use Rattle.group_rows.specs.Row.{any, Y, Z, Found, none, found, first}
use Rattle.group.specs.Distance.{link_distance, is_preset, no_increase}
use Rattle.group_rows.specs.Fitting.{fitting}
use Rattle.group.specs.Speed.{signal_speed, target_figure}
use Rattle.group.specs.Numbers.{number_of}

-- The figure Y of a balise that was looked for; 0 if there is none.
abbrev pub y_of : Found → ℕ
y_of none = 0
y_of (found b) = Y b.part

-- Its figure Z; 0 if there is none.
abbrev pub z_of : Found → ℕ
z_of none = 0
z_of (found b) = Z b.part

-- "BY and BZ are those of the 9"
abbrev pub B : List Placed → Found
B bs = first (any 9) bs

-- "PY and PZ those of the 8"
abbrev pub P : List Placed → Found
P bs = first (any 8) bs

-- "CY that of the 14"
abbrev pub C : List Placed → Found
C bs = first (any 14) bs

-- The distance of a present signal or a present warning board; "distance not allowed" is 15.
unfoldable pub distance_of : List Placed → Outcome ℕ
distance_of bs = link_distance (y_of (B bs)) (z_of (B bs)) (C bs)

-- The distance of a present signal. "A present signal with BY = 14 and AZ of 0, 1 or 13 is refused
-- with 15, judged with the distance"; AZ is the figure as read, before a prefix changes it.
unfoldable pub signal_distance : ℕ → List Placed → Outcome ℕ
signal_distance az bs = pick (is_preset (y_of (B bs)) && no_increase az) (refuses 15) (distance_of bs)

-- What a group of the present direction says beyond its kind, from the speed that its row gives,
-- AY, AZ and its balises. "Distance, judged for present signals and present warning boards only."
abbrev pub content_of : Kind → ℕ → ℕ → ℕ → List Placed → Outcome Content
content_of Kind.Signal v ay az bs =
    then (signal_distance az bs) λ d.
    gives (Content.Signal d (is_preset (y_of (B bs))) (signal_speed ay)
    (signal_speed (target_figure ay az (y_of (P bs)) (z_of (P bs)))))
content_of Kind.Warning v ay az bs = then (distance_of bs) λ d. gives (Content.Warning d)
content_of Kind.Annulled v ay az bs = gives Content.Nothing
content_of Kind.Line v ay az bs = gives Content.Nothing
content_of Kind.Route v ay az bs = gives (Content.Route v)

-- The message of a group with what its row says, this number and this content.
abbrev pub message_of : Picked → Number → Content → Message
message_of row number content =
    record {
      direction = row.direction;
      kind = row.kind;
      place = row.a.place;
      ay = Y row.a.part;
      az = Z row.a.part;
      number = number;
      content = content;
    }

-- The judgement of balises that fit a row of this direction.
abbrev pub judge_as : Direction → Picked → List Placed → Outcome Message
judge_as Direction.Present row bs =
    then (content_of row.kind row.speed (Y row.a.part) (Z row.a.part) bs) λ more. gives (message_of row (number_of bs) more)
judge_as Direction.Opposite row bs = gives (message_of row (number_of bs) Content.Nothing)

-- The judgement of balises that were read: "no row fits" is 13.
unfoldable pub judge_read : List Placed → Outcome Message
judge_read bs = then (fitting bs) λ row. judge_as row.direction row bs

-- The judgement of a group: "group of one balise" is 10, "group of more than five" is 11, then its
-- balises are read (12).
unfoldable pub judge : Group → Outcome Message
judge g =
    pick (eqb g.count 1) (refuses 10)
    (pick (ltb 5 g.count) (refuses 11)
    (then (read_all (balises g)) judge_read))
