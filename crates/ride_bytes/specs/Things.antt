-- What a ride holds, thing by thing as figures, and back: any figure at all is some speed, number,
-- linking or balise.
-- Assumes nothing.
use Rattle.std.specs.Prelude.{ℕ, ◌+◌, ◌*◌, ◌/◌, ◌%◌, eqb, ltb}
use Rattle.words.specs.Limits.{largest64}
use Rattle.words.specs.Answer.{pick}
use Rattle.group.specs.declared.Heard.{Heard}
use Rattle.group.specs.declared.Number.{Number}
use Rattle.group.specs.declared.Told.{Told}
use Rattle.ride.specs.declared.Linking.{Linking}

-- The figure that stands where nothing is set: the largest of eight bytes.
abbrev pub nothing : ℕ
nothing = largest64

-- A speed is its km/h.
abbrev pub told_figure : Told → ℕ
told_figure Told.Unknown = nothing
told_figure (Told.Kmh v) = v

-- A figure of sixteen bits is a speed, any other none.
unfoldable pub told_of : ℕ → Told
told_of figure = pick (ltb figure 65536) (Told.Kmh figure) Told.Unknown

-- A number is its own figure ..
abbrev pub number_figure : Number → ℕ
number_figure Number.None = nothing
number_figure (Number.Figure n) = n

-- .. and a figure of sixteen bits a number, any other none.
unfoldable pub number_of : ℕ → Number
number_of figure = pick (ltb figure 65536) (Number.Figure figure) Number.None

-- Linking is two figures: its distance in dm ..
abbrev pub distance_figure : Linking → ℕ
distance_figure Linking.Unset = nothing
distance_figure (Linking.Set distance from) = distance

-- .. and the place from which it is.
abbrev pub from_figure : Linking → ℕ
from_figure Linking.Unset = nothing
from_figure (Linking.Set distance from) = from

-- A distance of 32 bits is set, from the place in the other figure's low 32 bits; any other is not.
unfoldable pub linking_of : ℕ → ℕ → Linking
linking_of distance from = pick (ltb distance 4294967296) (Linking.Set distance (from % 4294967296)) Linking.Unset

-- What was heard at a balise: its three words as 24 bits, the first highest; the next figure for a
-- marker.
abbrev pub heard_figure : Heard → ℕ
heard_figure (Heard.Words x y z) = x * 65536 + y * 256 + z
heard_figure Heard.Marker = 16777216
heard_figure Heard.Unreadable = nothing

-- 24 bits are three words, the next figure a marker, any other nothing readable.
unfoldable pub heard_of : ℕ → Heard
heard_of figure =
    pick (ltb figure 16777216) (Heard.Words (figure / 65536) (figure / 256 % 256) (figure % 256))
    (pick (eqb figure 16777216) Heard.Marker
    Heard.Unreadable)
