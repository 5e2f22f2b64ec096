-- What stands in a page: signs, and the text around them.
-- Assumes nothing.
use Rattle.std.specs.Prelude.{ℕ, List, [], ◌∷◌, ◌++◌}
use Rattle.group.specs.declared.Group.{Group}
use Rattle.ride.specs.declared.Seen.{Seen}
use Rattle.ride.specs.declared.Line.{Line}
use Rattle.acceptance.specs.declared.Entry.{Entry}
use Rattle.ride_drawing.specs.Sign.{sign}
use Rattle.ride_drawing.specs.Row.{entry_sign, extra_sign}

-- An element of a page: text that is no sign; the sign of a line, where this group closed, on the
-- strip with this edge at this place; over such a strip the entry with this index, or an extra
-- group.
pub data Element : Type 0 where
  plain : List (List ℕ) → Element
  mark : Group → Line → ℕ → ℕ → Element
  entry : ℕ → Entry → ℕ → Element
  extra : Seen → ℕ → Element

-- An element's pieces of text.
abbrev pub pieces_of : Element → List (List ℕ)
pieces_of (plain pieces) = pieces
pieces_of (mark closed line edge place) = sign closed line edge place
pieces_of (entry i e edge) = entry_sign i e edge
pieces_of (extra s edge) = extra_sign s edge

-- The pieces of some elements.
abbrev pub pieces : List Element → List (List ℕ)
pieces [] = []
pieces (e ∷ es) = pieces_of e ++ pieces es
