-- The definitions case by case, as the code goes by them.
-- Assumes nothing.
use mathlib.Core.Path.{◌≡◌, refl, sym, ap, ◌∙◌}
use mathlib.Core.Bool.{Bool, true, false, ◌&&◌}
use mathlib.Core.List.{List, [], ◌∷◌, ◌++◌, append-nil}
use Prim.Native.Nat.{ℕ, ◌-◌, ◌≤◌, ◌<◌}
use native.Mathlib.Omega.{arith}
use lib.Dec.{leb, ltb}
use lib.ListN.{length, take}
use lib.Seq.{take-take}
use borrow.Author.Tests.{lt-ltb, leb-true}
use Rattle.words.specs.Answer.{pick}
use Rattle.text.specs.Text.{codes}
use Rattle.text.proofs.Standing.{Begins, as_long}
use Rattle.group_rows.specs.declared.Kind.{Kind}
use Rattle.group.specs.declared.Group.{Group}
use Rattle.group.specs.declared.Told.{Told}
use Rattle.ride.specs.declared.Mark.{Mark}
use Rattle.ride.specs.declared.Known.{Known}
use Rattle.ride.specs.declared.Line.{Line}
use Rattle.ride_drawing.specs.declared.Pen.{Pen}
use Rattle.ride_drawing.specs.declared.Plan.{Plan}
use Rattle.ride_drawing.specs.Metres.{metres}
use Rattle.ride_drawing.specs.Strip.{lesser, on_strip, arrive}
use Rattle.ride_drawing.specs.Span.{speed_line, level, middle}
use Rattle.ride_drawing.specs.Sign.{kind_shape}
use Rattle.ride_drawing.specs.Element.{pieces}
use Rattle.ride_drawing.specs.Drawing.{place_of, reached, after_line, on_its_strip, draw_lines}
use Rattle.ride_drawing.proofs.Elements.{pieces_append}

-- The lesser of two is at most the second.
pub lesser_most : (a b : ℕ) → lesser a b ≤ b
lesser_most a b = go (leb a b) refl
  where
    go : (t : Bool) → leb a b ≡ t → pick t a b ≤ b
    go true e = leb-true a b e
    go false e = omega arith

-- A group's shape has a small number.
pub shape_most : (k : Kind) (m : Mark) → kind_shape k m ≤ 9
shape_most Kind.Signal Mark.Unmarked = omega arith
shape_most Kind.Signal Mark.First = omega arith
shape_most Kind.Signal Mark.Early = omega arith
shape_most Kind.Signal Mark.Good = omega arith
shape_most Kind.Signal Mark.Late = omega arith
shape_most Kind.Warning m = omega arith
shape_most Kind.Annulled m = omega arith
shape_most Kind.Line m = omega arith
shape_most Kind.Route m = omega arith

-- A space that begins with a text begins with the text without its last byte.
pub cut_short : {t x : List ℕ} (n m : ℕ) → Begins t x n → m ≡ n - 1 → take m x ≡ take (length t - 1) t
cut_short {t} {x} n m h e =
    let long : n ≡ length t = as_long h ∙ ap length h.is in
    let less : m ≤ n = omega arith in
    sym (take-take m n x less) ∙ ap (take m) h.is ∙ ap (λ (k : ℕ). take k t) (e ∙ ap (λ (k : ℕ). k - 1) long)

-- ---- speeds and bands

pub unknown_level : (w : List ℕ) (l r : ℕ) → l < r → [] ≡ level w Told.Unknown l r
unfolding level
unknown_level w l r h = simp (lt-ltb l r h)

pub known_level : (w : List ℕ) (v l r : ℕ) → l < r → speed_line w v l r ≡ level w (Told.Kmh v) l r
unfolding level
known_level w v l r h = simp (lt-ltb l r h)

abbrev pub middle_line : ℕ → List (List ℕ)
middle_line x = metres (codes "<path class='c' d='M") x ++ codes " 124v64'/>\n" ∷ []

pub middle_drawn : (edge from to at x : ℕ) → x ≡ on_strip edge at → (leb from at && (leb at to && (ltb from to && ltb x 11000))) ≡ true → middle_line x ≡ middle edge from to at
unfolding middle
middle_drawn edge from to at x e h = rw (← e, h)

pub middle_none : (edge from to at x : ℕ) → x ≡ on_strip edge at → (leb from at && (leb at to && (ltb from to && ltb x 11000))) ≡ false → [] ≡ middle edge from to at
unfolding middle
middle_none edge from to at x e h = rw (← e, h)

-- ---- lines

-- a pen of its parts
abbrev pub pen_of : ℕ → ℕ → Bool → ℕ → Pen
pen_of edge from so ticks = record { edge = edge; from = from; is_open = so; ticks = ticks }

pub after_is : (pen : Pen) (line : Line) (odometer place from : ℕ) (there : Pen) → place ≡ place_of line odometer → there ≡ arrive pen place place
    → from ≡ reached there line place → pen_of there.edge from there.is_open there.ticks ≡ after_line pen line odometer
unfolding after_line
after_is pen line odometer place from there e f g =
    ap (λ (v : ℕ). pen_of there.edge v there.is_open there.ticks) g
    ∙ ap (λ (t : Pen). pen_of t.edge (reached t line place) t.is_open t.ticks) f
    ∙ ap (λ (q : ℕ). pen_of (arrive pen q q).edge (reached (arrive pen q q) line q) (arrive pen q q).is_open (arrive pen q q).ticks) e

pub one_drawn : (plan : Plan) (pen : Pen) (known then : Known) (closed : Group) (l : Line) (odometer : ℕ)
    → pieces (on_its_strip plan pen known closed l (place_of l odometer)) ≡ pieces (draw_lines plan pen known then closed (l ∷ []) odometer)
unfolding draw_lines
one_drawn plan pen known then closed l odometer = ap pieces (sym (append-nil (on_its_strip plan pen known closed l (place_of l odometer))))

pub two_drawn : (plan : Plan) (pen : Pen) (known then : Known) (closed : Group) (l m : Line) (odometer : ℕ)
    → pieces (on_its_strip plan pen known closed l (place_of l odometer)) ++ pieces (on_its_strip plan (after_line pen l odometer) then closed m (place_of m odometer))
    ≡ pieces (draw_lines plan pen known then closed (l ∷ m ∷ []) odometer)
unfolding draw_lines
two_drawn plan pen known then closed l m odometer =
    ap (λ (ps : List (List ℕ)). pieces (on_its_strip plan pen known closed l (place_of l odometer)) ++ ps) (one_drawn plan (after_line pen l odometer) then then closed m odometer)
    ∙ pieces_append (on_its_strip plan pen known closed l (place_of l odometer)) (draw_lines plan (after_line pen l odometer) then then closed (m ∷ []) odometer)
