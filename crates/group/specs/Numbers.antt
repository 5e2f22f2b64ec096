-- The number of a group: "the figure of the number balise, or none".
-- Assumes nothing.
use Rattle.std.specs.Prelude.{List, [], ◌∷◌}
use Rattle.group.specs.declared.Number.{Number}
use Rattle.group_rows.specs.declared.Part.{Part}
use Rattle.group_rows.specs.declared.Placed.{Placed}

-- The figure of a number balise (12); of any other, what is found after it.
abbrev pub number_or : Part → Number → Number
number_or (Part.Number m) later = Number.Figure m
number_or (Part.Figures x y z) later = later
number_or Part.Marker later = later

-- The figure of the number balise among these, or none. (No row allows two.)
unfoldable pub number_of : List Placed → Number
number_of [] = Number.None
number_of (b ∷ bs) = number_or b.part (number_of bs)
