-- Linking (document 01, "A ride"): from a present signal to the next, the distance D from place a.
-- Assumes nothing.
use Rattle.std.specs.Prelude.{ℕ, ◌+◌, ◌-◌, ◌*◌, ◌/◌, Bool, false, leb, ltb}
use Rattle.words.specs.Answer.{pick}
use Rattle.ride.specs.declared.Linking.{Linking}
use Rattle.ride.specs.declared.Mark.{Mark}

-- "early if 5t < 4D, good if 4D <= 5t <= 6D, late if 5t > 6D"
unfoldable pub mark_at : ℕ → ℕ → Mark
mark_at D t =
    pick (ltb (5 * t) (4 * D)) Mark.Early
    (pick (leb (5 * t) (6 * D)) Mark.Good
    Mark.Late)

-- The mark of a present signal whose A balise lies at this place: "at travelled distance t (A
-- balise to A balise) is marked first if linking wasn't set", else by D and t. For a place before
-- a, t is 0.
abbrev pub mark_of : Linking → ℕ → Mark
mark_of Linking.Unset place = Mark.First
mark_of (Linking.Set D a) place = mark_at D (place - a)

-- Whether "linking is set with distance D from place a, and 5 x (odometer - a) > 6 x D".
abbrev pub is_overdue : Linking → ℕ → Bool
is_overdue Linking.Unset odometer = false
is_overdue (Linking.Set D a) odometer = ltb (6 * D) (5 * (odometer - a))

-- Where it is missed: "at a + 6D/5". Without linking there is no such place: 0.
abbrev pub missed_place : Linking → ℕ
missed_place Linking.Unset = 0
missed_place (Linking.Set D a) = a + 6 * D / 5
