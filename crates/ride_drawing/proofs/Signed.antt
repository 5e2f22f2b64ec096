-- Every line has one sign: the lines whose signs stand among the elements of a ride are its own.
-- Assumes nothing.
use Prim.Native.Nat.{ℕ}
use mathlib.Core.Path.{◌≡◌, refl, ap, ◌∙◌}
use mathlib.Core.List.{List, [], ◌∷◌, ◌++◌}
use Rattle.ride.specs.declared.Line.{Line}
use Rattle.ride.specs.declared.Ride.{Ride}
use Rattle.ride.specs.Step.{end}
use Rattle.ride.specs.Over.{ride_over}
use Rattle.ride_text.specs.SameLines.{lines_of}
use Rattle.ride_text.proofs.SameLines.{lines_by, same_lines}
use Rattle.ride_drawing.specs.declared.Pen.{Pen}
use Rattle.ride_drawing.specs.declared.Plan.{Plan}
use Rattle.ride_drawing.specs.Element.{Element, plain, mark, entry, extra}
use Rattle.ride_drawing.specs.Drawing.{draw_end}
use Rattle.ride_drawing.specs.Draw.{draw_over}
use Rattle.ride_drawing.specs.Laws.{signed, OneSign}
use Rattle.ride_drawing.proofs.Said.{said}
use Rattle.ride_drawing.proofs.Said as saying

pub signed_append : (es fs : List Element) → signed (es ++ fs) ≡ signed es ++ signed fs
signed_append [] fs = refl
signed_append (plain pieces ∷ es) fs = signed_append es fs
signed_append (mark closed line edge place ∷ es) fs = ap (λ (ls : List Line). line ∷ ls) (signed_append es fs)
signed_append (entry i e edge ∷ es) fs = signed_append es fs
signed_append (extra s edge ∷ es) fs = signed_append es fs

are_said : (es : List Element) → signed es ≡ lines_of (said es)
are_said [] = refl
are_said (plain pieces ∷ es) = are_said es
are_said (mark closed line edge place ∷ es) = ap (λ (ls : List Line). line ∷ ls) (are_said es)
are_said (entry i e edge ∷ es) = are_said es
are_said (extra s edge ∷ es) = are_said es

pub over : (plan : Plan) (gaps : ℕ → ℕ) (pen : Pen) (ride : Ride) (number : ℕ) (rs : List (List ℕ)) → signed (draw_over plan gaps pen ride number rs).elements ≡ (ride_over gaps ride number rs).lines
over plan gaps pen ride number rs =
    are_said (draw_over plan gaps pen ride number rs).elements ∙ ap lines_of (saying.over plan gaps pen ride number rs) ∙ (same_lines gaps ride number rs).lines

ending : (plan : Plan) (pen : Pen) (ride : Ride) → signed (draw_end plan pen ride) ≡ (end ride).lines
ending plan pen ride = are_said (draw_end plan pen ride) ∙ ap lines_of (saying.ending plan pen ride) ∙ lines_by (end ride).closed (end ride).lines

pub one_sign : OneSign
one_sign = record { over = over; ending = ending }
