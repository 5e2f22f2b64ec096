-- What is promised of titles: each is its line, those of a ride are what `explain` writes of it,
-- and none needs an escape.
-- Assumes nothing.
use Rattle.std.specs.Prelude.{ℕ, ◌≡◌, Bool, true, not, ◌&&◌, List, [], ◌∷◌, ◌++◌, eqb}
use Prim.Native.String.{String}
use Rattle.text.specs.Text.{codes, decimal}
use Rattle.text.specs.Pieces.{whole}
use Rattle.group.specs.declared.Group.{Group}
use Rattle.ride.specs.declared.Line.{Line}
use Rattle.ride.specs.declared.Ride.{Ride}
use Rattle.ride.specs.declared.Seen.{Seen}
use Rattle.ride_text.specs.Style.{with_reasons}
use Rattle.ride_text.specs.Text.{line_text}
use Rattle.ride_text.specs.Told.{tell_over, end_text}
use Rattle.acceptance.specs.declared.Entry.{Entry}
use Rattle.acceptance.specs.declared.Role.{Role}
use Rattle.acceptance_text.specs.Lines.{entry_line, group_line}
use Rattle.ride_drawing.specs.Sign.{title, sign}
use Rattle.ride_drawing.specs.Row.{entry_title, entry_sign, extra_title, extra_sign}
use Rattle.ride_drawing.specs.declared.Pen.{Pen}
use Rattle.ride_drawing.specs.declared.Plan.{Plan}
use Rattle.ride_drawing.specs.Element.{Element, plain, mark, entry, extra}
use Rattle.ride_drawing.specs.Drawing.{draw_end}
use Rattle.ride_drawing.specs.Draw.{draw_over}

-- ---- each title is its line

-- A sign's text begins with these words, its title, and the end of the title.
abbrev pub HasTitle : String → List ℕ → List (List ℕ) → Type 0
HasTitle words title pieces = (rest : List ℕ) × (whole pieces ≡ codes words ++ (title ++ (codes "</title>" ++ rest)))

-- A text begins with a place, in decimal figures.
abbrev pub BeginsWith : ℕ → List ℕ → Type 0
BeginsWith place text = (rest : List ℕ) × (text ≡ decimal place ++ rest)

-- The title of a line's sign is the line as `explain` writes it, without its newline; that of an
-- entry and of an extra group is the line that `accept` writes of it. A line that has a place
-- begins with it.
pub record Titled : Type 0 where
  pub lines : (closed : Group) (line : Line) (edge place : ℕ) → HasTitle "<g><title>" (title closed line) (sign closed line edge place)
  pub explained : (closed : Group) (line : Line) → title closed line ++ codes "\n" ≡ line_text with_reasons closed line
  pub group : (closed : Group) (s : Seen) → BeginsWith s.place (line_text with_reasons closed (Line.Group s))
  pub fault : (closed : Group) (place n : ℕ) → BeginsWith place (line_text with_reasons closed (Line.Fault place n))
  pub missed : (closed : Group) (place : ℕ) → BeginsWith place (line_text with_reasons closed (Line.Missed place))
  pub entries : (i : ℕ) (e : Entry) (edge : ℕ) → HasTitle "<g class='e'><title>" (entry_title i e) (entry_sign i e edge)
  pub reported : (i : ℕ) (e : Entry) → entry_title i e ++ codes "\n" ≡ entry_line i e
  pub extras : (s : Seen) (edge : ℕ) → HasTitle "<g class='e'><title>" (extra_title s) (extra_sign s edge)
  pub answered : (s : Seen) → extra_title s ++ codes "\n" ≡ group_line s.place s.kind Role.Extra

-- ---- the titles of a ride are what `explain` writes

-- The titles of the lines' signs among some elements, in order, each with a newline.
abbrev pub titles_of : List Element → List ℕ
titles_of [] = []
titles_of (plain pieces ∷ es) = titles_of es
titles_of (mark closed line edge place ∷ es) = title closed line ++ codes "\n" ++ titles_of es
titles_of (entry i e edge ∷ es) = titles_of es
titles_of (extra s edge ∷ es) = titles_of es

-- The titles of a ride are the text that `explain` tells of the same records, each fault with the
-- reason of its own group; so are those of its end.
pub record Explained : Type 0 where
  pub over : (plan : Plan) (gaps : ℕ → ℕ) (pen : Pen) (ride : Ride) (number : ℕ) (rs : List (List ℕ)) → titles_of (draw_over plan gaps pen ride number rs).elements ≡ (tell_over with_reasons gaps ride number rs).text
  pub ending : (plan : Plan) (pen : Pen) (ride : Ride) → titles_of (draw_end plan pen ride) ≡ end_text with_reasons ride

-- ---- no title needs an escape

-- Whether a byte stands for itself in a page: it is no `<`, no `&` and no quote.
abbrev pub is_safe : ℕ → Bool
is_safe c = not (eqb c 60) && (not (eqb c 38) && (not (eqb c 34) && not (eqb c 39)))

-- Whether all bytes of a text do.
unfoldable pub are_safe : List ℕ → Bool
are_safe [] = true
are_safe (c ∷ cs) = is_safe c && are_safe cs

-- No title has one that does not: of a line, of an entry, of an extra group.
pub record NoEscape : Type 0 where
  pub titles : (closed : Group) (line : Line) → are_safe (title closed line) ≡ true
  pub entries : (i : ℕ) (e : Entry) → are_safe (entry_title i e) ≡ true
  pub extras : (s : Seen) → are_safe (extra_title s) ≡ true
