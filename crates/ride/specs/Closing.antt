-- Closing and judging a group (document 01, "A ride"): what its judgement does to what is known,
-- and its line.
-- Assumes nothing.
use Rattle.std.specs.Prelude.{ℕ, Bool, List, [], ◌∷◌, get_or}
use Rattle.words.specs.Answer.{Outcome, gives, refuses, pick}
use Rattle.group.specs.declared.Group.{Group}
use Rattle.group_rows.specs.declared.Kind.{Kind}
use Rattle.group.specs.declared.Number.{Number}
use Rattle.group.specs.declared.Told.{Told}
use Rattle.group.specs.declared.Content.{Content}
use Rattle.group.specs.declared.Message.{Message}
use Rattle.group.specs.Judge.{judge}
use Rattle.ride.specs.declared.Linking.{Linking}
use Rattle.ride.specs.declared.Known.{Known}
use Rattle.ride.specs.declared.Mark.{Mark}
use Rattle.ride.specs.declared.Seen.{Seen}
use Rattle.ride.specs.declared.Line.{Line}
use Rattle.ride.specs.State.{no_balise, no_group, nothing_known}
use Rattle.ride.specs.Linking.{mark_of}

-- "It then sets linking anew, or ends it if BY = 14", a preset point.
abbrev pub linking_from : ℕ → Bool → ℕ → Linking
linking_from D preset a = pick preset Linking.Unset (Linking.Set D a)

-- "AY = 14 leaves the main speed as it was"
abbrev pub main_from : Told → Told → Told
main_from (Told.Kmh v) before = Told.Kmh v
main_from Told.Unknown before = before

-- What is known after an accepted group that says this, with its A balise at place a and this
-- number or none. A present signal sets it: "the target becomes AZ's, or none", the number "to none
-- if it has no 12"; "all other groups leave these as they were."
abbrev pub known_from : Content → ℕ → Number → Known → Known
known_from (Content.Signal D preset main target) a number known =
    record { linking = linking_from D preset a; main = main_from main known.main; target = target; number = number }
known_from (Content.Warning D) a number known = known
known_from (Content.Route v) a number known = known
known_from Content.Nothing a number known = known

-- What is known after a judgement. "A refused group ends linking and clears main speed and target",
-- and the number.
abbrev pub known_after : Outcome Message → Known → Known
known_after (gives m) known = known_from m.content m.place m.number known
known_after (refuses n) known = nothing_known

-- The mark of an accepted group: "a mark stands on present signals alone".
abbrev pub mark_from : Content → ℕ → Linking → Mark
mark_from (Content.Signal D preset main target) a linking = mark_of linking a
mark_from (Content.Warning D) a linking = Mark.Unmarked
mark_from (Content.Route v) a linking = Mark.Unmarked
mark_from Content.Nothing a linking = Mark.Unmarked

-- The number on a group's line: a signal of either direction shows its own, all others none.
abbrev pub number_on : Kind → Number → Number
number_on Kind.Signal number = number
number_on Kind.Warning number = Number.None
number_on Kind.Annulled number = Number.None
number_on Kind.Line number = Number.None
number_on Kind.Route number = Number.None

-- An accepted group as its line shows it, from the linking before it: "A group's line begins with
-- the place of its A balise".
abbrev pub seen_from : Message → Linking → Seen
seen_from m linking =
    record {
      place = m.place;
      direction = m.direction;
      kind = m.kind;
      mark = mark_from m.content m.place linking;
      number = number_on m.kind m.number;
    }

-- The place of a group's first balise.
abbrev pub first_place : Group → ℕ
first_place g = (get_or g.kept 0 no_balise).place

-- The line of a group after its judgement, from the linking before it; a fault is shown "with the
-- first balise's place".
abbrev pub line_of : Group → Linking → Outcome Message → Line
line_of g linking (gives m) = Line.Group (seen_from m linking)
line_of g linking (refuses n) = Line.Fault (first_place g) n

-- What closing leaves: the lines it gives, the group that closed, the group that is there then, and
-- what is known then.
pub record Closing : Type 0 where
  pub lines : List Line
  pub closed : Group
  pub group : Group
  pub known : Known

-- A group closes with this judgement.
abbrev pub close_as : Group → Known → Outcome Message → Closing
close_as g known judged =
    record { lines = line_of g known.linking judged ∷ []; closed = g; group = no_group; known = known_after judged known }

-- "close and judge it"
unfoldable pub close : Group → Known → Closing
close g known = close_as g known (judge g)

-- No group closes.
unfoldable pub leave : Group → Known → Closing
leave g known = record { lines = []; closed = no_group; group = g; known = known }
