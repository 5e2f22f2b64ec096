-- How long the pieces are that a strip has beside its signs: each has its words and a few numbers.
-- Assumes nothing.
use Prim.Native.Nat.{ℕ, zero, suc, ◌+◌, ◌-◌, ◌*◌, ◌/◌, ◌%◌, ◌≤◌}
use native.Mathlib.Omega.{arith}
use mathlib.Core.Path.{◌≡◌, refl, ap, ◌∙◌}
use mathlib.Core.Bool.{Bool, true, false, ◌&&◌}
use mathlib.Core.List.{List, [], ◌∷◌, ◌++◌}
use lib.Dec.{leb, ltb}
use lib.ListN.{length, length-append}
use Rattle.words.specs.Answer.{pick}
use Rattle.text.specs.Text.{codes, decimal}
use Rattle.text.proofs.Decimal.{decimal_length}
use Rattle.group.specs.declared.Told.{Told}
use Rattle.ride.specs.declared.Known.{Known}
use Rattle.ride.specs.declared.Linking.{Linking}
use Rattle.ride_drawing.specs.declared.Pen.{Pen}
use Rattle.text.specs.Pieces.{whole}
use Rattle.ride_drawing.specs.Metres.{metres}
use Rattle.ride_drawing.specs.Strip.{on_strip, lesser, greater, is_further, figure, figures, heading, closing, between}
use Rattle.ride_drawing.specs.Span.{height, speed_line, speed_of, level, due, middle, band, is_rising, main_words, target_words, span}
use Rattle.ride_drawing.specs.Way.{leaving, way}
use Rattle.ride_drawing.proofs.Turns.{whole_append}

-- The bytes of some pieces.
unfoldable pub size : List (List ℕ) → ℕ
size ps = length (whole ps)

pub size_none : size [] ≡ 0
unfolding size
size_none = refl

pub size_one : (t : List ℕ) (ts : List (List ℕ)) → size (t ∷ ts) ≡ length t + size ts
unfolding size
size_one t ts = length-append t (whole ts)

pub size_append : (ts us : List (List ℕ)) → size (ts ++ us) ≡ size ts + size us
unfolding size
size_append ts us = ap length (whole_append ts us) ∙ length-append (whole ts) (whole us)

-- words and a number
pub worded : (w : List ℕ) (n : ℕ) → length (w ++ decimal n) ≤ length w + 20
worded w n = omega (arith, length-append w (decimal n), decimal_length n)

-- words and metres
pub metres_size : (w : List ℕ) (dm : ℕ) → size (metres w dm) ≤ length w + 41
metres_size w dm =
    omega
    (arith, size_one (w ++ decimal (dm / 10)) ((codes "." ++ decimal (dm % 10)) ∷ []), size_one (codes "." ++ decimal (dm % 10)) [], size_none, worded w (dm / 10), worded (codes ".") (dm % 10))

-- either of two
pub either : (b : Bool) (xs ys : List (List ℕ)) (most : ℕ) → size xs ≤ most → size ys ≤ most → size (pick b xs ys) ≤ most
either true xs ys most x y = x
either false xs ys most x y = y

pub nothing : (most : ℕ) → size [] ≤ most
nothing most = omega (arith, size_none)

-- ---- what is known

speed_size : (w : List ℕ) → length w ≤ 40 → (kmh l r : ℕ) → size (speed_line w kmh l r) ≤ 220
unfolding size speed_line
speed_size w h kmh l r =
    simp length-append
    (omega
    (arith, decimal_length (l / 10), decimal_length (l % 10), decimal_length (height kmh), decimal_length ((r - l) / 10), decimal_length ((r - l) % 10), decimal_length kmh))

told_size : (w : List ℕ) → length w ≤ 40 → (t : Told) (l r : ℕ) → size (speed_of w t l r) ≤ 220
told_size w h Told.Unknown l r = nothing 220
told_size w h (Told.Kmh kmh) l r = speed_size w h kmh l r

level_size : (w : List ℕ) → length w ≤ 40 → (t : Told) (l r : ℕ) → size (level w t l r) ≤ 220
unfolding level
level_size w h t l r = either (ltb l r) (speed_of w t l r) [] 220 (told_size w h t l r) (nothing 220)

due_size : (l r : ℕ) → size (due l r) ≤ 160
unfolding due
due_size l r = either (ltb l r) _ [] 160 drawn (nothing 160)
  where
    drawn : size (metres (codes "<rect class='d' y='124' height='64' x='") l ++ metres (codes "' width='") (r - l) ++ codes "'/>\n" ∷ []) ≤ 160
    drawn =
        omega (
          arith,
          size_append (metres (codes "<rect class='d' y='124' height='64' x='") l) (metres (codes "' width='") (r - l) ++ codes "'/>\n" ∷ []),
          size_append (metres (codes "' width='") (r - l)) (codes "'/>\n" ∷ []),
          metres_size (codes "<rect class='d' y='124' height='64' x='") l,
          metres_size (codes "' width='") (r - l),
          size_one (codes "'/>\n") [],
          size_none,
        )

middle_size : (edge from to at : ℕ) → size (middle edge from to at) ≤ 100
unfolding middle
middle_size edge from to at = either (leb from at && (leb at to && (ltb from to && ltb (on_strip edge at) 11000))) _ [] 100 drawn (nothing 100)
  where
    drawn : size (metres (codes "<path class='c' d='M") (on_strip edge at) ++ codes " 124v64'/>\n" ∷ []) ≤ 100
    drawn =
        omega
        (arith, size_append (metres (codes "<path class='c' d='M") (on_strip edge at)) (codes " 124v64'/>\n" ∷ []), metres_size (codes "<path class='c' d='M") (on_strip edge at), size_one (codes " 124v64'/>\n") [], size_none)

pub band_size : (k : Linking) (edge from to : ℕ) → size (band k edge from to) ≤ 260
unfolding band
band_size Linking.Unset edge from to = nothing 260
band_size (Linking.Set distance a) edge from to =
    let l : ℕ = on_strip edge (greater from (a + 4 * distance / 5)) in
    let r : ℕ = on_strip edge (lesser to (a + 6 * distance / 5)) in
    omega (arith, size_append (due l r) (middle edge from to (a + distance)), due_size l r, middle_size edge from to (a + distance))

-- What a speed's line begins with is short.
main_short : (rising : Bool) → length (main_words rising) ≤ 40
main_short true = omega arith
main_short false = omega arith

target_short : (rising : Bool) → length (target_words rising) ≤ 40
target_short true = omega arith
target_short false = omega arith

pub span_size : (edge from to : ℕ) (k : Known) → size (span edge from to k) ≤ 700
unfolding span
span_size edge from to k =
    let l : ℕ = on_strip edge from in
    let r : ℕ = on_strip edge to in
    let rising : Bool = is_rising k.main k.target in
    let main : List (List ℕ) = level (main_words rising) k.main l r in
    let target : List (List ℕ) = level (target_words rising) k.target l r in
    let last : List (List ℕ) = band k.linking edge from to in
    omega (
      arith,
      size_append main (target ++ last),
      size_append target last,
      level_size (main_words rising) (main_short rising) k.main l r,
      level_size (target_words rising) (target_short rising) k.target l r,
      band_size k.linking edge from to,
    )

-- ---- from strip to strip

figure_size : (km i : ℕ) → size (figure km i) ≤ 90
unfolding size figure
figure_size km i =
    simp length-append
    (omega (arith, decimal_length (100 + 100 * i), decimal_length (km + i / 10), decimal_length (i % 10)))

figures_size : (n km i : ℕ) → size (figures km i n) ≤ 90 * n
unfolding figures
figures_size zero km i = omega (arith, size_none)
figures_size (suc n) km i = omega (arith, size_append (figure km i) (figures km (suc i) n), figure_size km i, figures_size n km (suc i))

pub heading_size : (km : ℕ) → size (heading km) ≤ 1100
unfolding heading
heading_size km =
    let front : List ℕ = codes "</h2>\n<div class='s'><svg viewBox='-12 0 1170 236'><use href='#g'/>" in
    let last : List (List ℕ) = codes "\n" ∷ [] in
    omega (
      arith,
      size_one (codes "<h2>km " ++ decimal km) (front ∷ figures km 0 11 ++ last),
      worded (codes "<h2>km ") km,
      size_one front (figures km 0 11 ++ last),
      size_append (figures km 0 11) last,
      figures_size 11 km 0,
      size_one (codes "\n") [],
      size_none,
    )

between_size : (n : ℕ) → size (between n) ≤ 60
unfolding between
between_size n = either (ltb 1 n) _ [] 60 drawn (nothing 60)
  where
    drawn : size ((codes "<p>" ++ decimal (n - 1)) ∷ codes " km without records</p>\n" ∷ []) ≤ 60
    drawn =
        omega
        (arith, size_one (codes "<p>" ++ decimal (n - 1)) (codes " km without records</p>\n" ∷ []), size_one (codes " km without records</p>\n") [], size_none, worded (codes "<p>") (n - 1))

pub leaving_size : (pen : Pen) (place until : ℕ) (k : Known) → size (leaving pen place until k) ≤ 800
unfolding leaving
leaving_size pen place until k = either pen.is_open _ _ 800 left row
  where
    n : ℕ
    n = place / 10000 - pen.edge / 10000

    left : size (span pen.edge pen.from until k ++ closing ∷ between n) ≤ 800
    left =
        omega
        (arith, size_append (span pen.edge pen.from until k) (closing ∷ between n), size_one closing (between n), span_size pen.edge pen.from until k, between_size n)

    row : size (codes "</p>\n" ∷ []) ≤ 800
    row = omega (arith, size_one (codes "</p>\n") [], size_none)

pub way_size : (pen : Pen) (place until : ℕ) (k : Known) → size (way pen place until k) ≤ 1900
unfolding way
way_size pen place until k =
    either (is_further pen place) (leaving pen place until k ++ heading (place / 10000)) [] 1900
    (omega (arith, size_append (leaving pen place until k) (heading (place / 10000)), leaving_size pen place until k, heading_size (place / 10000)))
    (nothing 1900)
