-- The pieces of elements after others.
-- Assumes nothing.
use mathlib.Core.Path.{◌≡◌, refl, ap, ◌∙◌}
use mathlib.Core.List.{List, [], ◌∷◌, ◌++◌, append_assoc}
use Prim.Native.Nat.{ℕ}
use Rattle.ride_drawing.specs.Element.{Element, pieces_of, pieces}

pub pieces_append : (es fs : List Element) → pieces es ++ pieces fs ≡ pieces (es ++ fs)
pieces_append [] fs = refl
pieces_append (e ∷ es) fs = append_assoc (pieces_of e) (pieces es) (pieces fs) ∙ ap (λ (ps : List (List ℕ)). pieces_of e ++ ps) (pieces_append es fs)
