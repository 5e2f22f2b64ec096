-- The titles of a ride are its lines, each with its own group's reason: the text that `explain`
-- tells.
-- Assumes nothing.
use Prim.Native.Nat.{ℕ}
use mathlib.Core.Path.{◌≡◌, refl, sym, ap, ap₂, ◌∙◌}
use mathlib.Core.List.{List, [], ◌∷◌, ◌++◌, append_assoc}
use Rattle.text.specs.Text.{codes}
use Rattle.ride.specs.declared.Ride.{Ride}
use Rattle.ride.specs.Step.{end}
use Rattle.ride_text.specs.Style.{with_reasons}
use Rattle.ride_text.specs.Told.{tell_over, end_text}
use Rattle.ride_text.specs.SameLines.{said_text}
use Rattle.ride_text.proofs.SameLines.{text_by, same_lines}
use Rattle.ride_drawing.specs.declared.Pen.{Pen}
use Rattle.ride_drawing.specs.declared.Plan.{Plan}
use Rattle.ride_drawing.specs.Sign.{title}
use Rattle.ride_drawing.specs.Element.{Element, plain, mark, entry, extra}
use Rattle.ride_drawing.specs.Drawing.{draw_end}
use Rattle.ride_drawing.specs.Draw.{draw_over}
use Rattle.ride_drawing.specs.Titles.{titles_of, Explained}
use Rattle.ride_drawing.proofs.Titled.{titled}
use Rattle.ride_drawing.proofs.Said.{said}
use Rattle.ride_drawing.proofs.Said as saying

pub titles_append : (es fs : List Element) → titles_of (es ++ fs) ≡ titles_of es ++ titles_of fs
titles_append [] fs = refl
titles_append (plain pieces ∷ es) fs = titles_append es fs
titles_append (mark closed line edge place ∷ es) fs =
    let t : List ℕ = title closed line ++ codes "\n" in
    ap (λ (x : List ℕ). t ++ x) (titles_append es fs) ∙ sym (append_assoc t (titles_of es) (titles_of fs))
titles_append (entry i e edge ∷ es) fs = titles_append es fs
titles_append (extra s edge ∷ es) fs = titles_append es fs

are_said : (es : List Element) → titles_of es ≡ said_text with_reasons (said es)
unfolding said_text
are_said [] = refl
are_said (plain pieces ∷ es) = are_said es
are_said (mark closed line edge place ∷ es) = ap₂ (λ (x y : List ℕ). x ++ y) (titled.explained closed line) (are_said es)
are_said (entry i e edge ∷ es) = are_said es
are_said (extra s edge ∷ es) = are_said es

over : (plan : Plan) (gaps : ℕ → ℕ) (pen : Pen) (ride : Ride) (number : ℕ) (rs : List (List ℕ)) → titles_of (draw_over plan gaps pen ride number rs).elements ≡ (tell_over with_reasons gaps ride number rs).text
over plan gaps pen ride number rs =
    are_said (draw_over plan gaps pen ride number rs).elements ∙ ap (said_text with_reasons) (saying.over plan gaps pen ride number rs) ∙ sym ((same_lines gaps ride number rs).text with_reasons)

ending : (plan : Plan) (pen : Pen) (ride : Ride) → titles_of (draw_end plan pen ride) ≡ end_text with_reasons ride
unfolding end_text
ending plan pen ride = are_said (draw_end plan pen ride) ∙ ap (said_text with_reasons) (saying.ending plan pen ride) ∙ sym (text_by with_reasons (end ride).closed (end ride).lines)

pub explained : Explained
explained = record { over = over; ending = ending }
