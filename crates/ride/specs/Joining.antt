-- Balises that belong together (document 01, "Groups" and "A ride"): "balises belong together while
-- each lies at most the gap beyond the one before." A group keeps its first five balises, counts
-- them all (255 stands for 255 or more), and holds the place of its last.
-- Assumes nothing.
use Rattle.std.specs.Prelude.{ℕ, ◌+◌, Bool, ◌&&◌, ltb, set}
use Rattle.words.specs.Answer.{pick}
pub use Rattle.settings.specs.Versions.{allowed}
use Rattle.group.specs.declared.Balise.{Balise}
use Rattle.group.specs.declared.Group.{Group}
use Rattle.ride.specs.declared.Passed.{Passed}
use Rattle.ride.specs.State.{no_group, is_open_meant}

-- "If a group is open and the odometer exceeds its last balise by more than the gap": the group is
-- left behind.
abbrev pub is_behind : ℕ → ℕ → Group → Bool
is_behind gap odometer g = is_open_meant g && ltb (g.last + gap) odometer

-- One balise more.
abbrev pub counted : ℕ → ℕ
counted n = pick (ltb n 255) (n + 1) 255

-- The group with one balise more.
unfoldable pub join : Group → Balise → Group
join g b =
    record { kept = pick (ltb g.count 5) (set g.kept g.count b) g.kept; count = counted g.count; last = b.place }

-- "A balise joins the open group or opens one."
unfoldable pub take_up : Group → ℕ → Passed → Group
take_up g odometer (Passed.Balise heard) = join (pick (is_open_meant g) g no_group) (record { place = odometer; heard = heard })
take_up g odometer Passed.Position = g
