-- Of the entries that the pen comes by each has one sign, and no other has one: so on any way of
-- the pen what is drawn of an entry is what is no longer left of it.
-- Assumes nothing.
use Prim.Native.Nat.{ℕ, suc, ◌+◌, ◌/◌, ◌≤◌, ◌<◌, zero}
use native.Mathlib.Omega.{arith}
use native.Mathlib.Nat.{zero-add, add-zero}
use mathlib.Core.Path.{◌≡◌, refl, ap, ◌∙◌}
use mathlib.Core.Bool.{Bool, true, false, not, ◌&&◌, ◌||◌}
use mathlib.Core.List.{List, [], ◌∷◌, ◌++◌}
use lib.Dec.{leb, ltb, eqb}
use lib.ListN.{length, get_or}
use borrow.Author.Tests.{le-leb, lt-leb, le-ltb, ltb-true, ltb-false, eq-eqb, ne_eqb}
use Rattle.words.specs.Answer.{pick}
use Rattle.words.proofs.Never.{cannot_be}
use Rattle.ride.specs.declared.Known.{Known}
use Rattle.acceptance.specs.declared.Entry.{Entry}
use Rattle.acceptance.specs.Plan.{no_entry}
use Rattle.ride_drawing.specs.declared.Pen.{Pen}
use Rattle.ride_drawing.specs.declared.Plan.{Plan}
use Rattle.ride_drawing.specs.Strip.{lesser, edge_of, is_further, arrive}
use Rattle.ride_drawing.specs.Row.{row, is_on_the_way}
use Rattle.ride_drawing.specs.Element.{Element, plain, mark, extra, entry}
use Rattle.ride_drawing.specs.Way.{way, Past, past, way_past, come_by}
use Rattle.ride_drawing.specs.Says.{fresh_pen}
use Rattle.ride_drawing.specs.Laws.{signs_of}

-- one or none
abbrev pub one : Bool → ℕ
one b = pick b 1 0

pub signs_append : (k : ℕ) (es fs : List Element) → signs_of k (es ++ fs) ≡ signs_of k es + signs_of k fs
signs_append k [] fs = omega arith
signs_append k (plain pieces ∷ es) fs = signs_append k es fs
signs_append k (mark closed line edge place ∷ es) fs = signs_append k es fs
signs_append k (extra s edge ∷ es) fs = signs_append k es fs
signs_append k (entry j e edge ∷ es) fs = omega (arith, signs_append k es fs)

-- ---- the entries that the pen comes by

module _ (began : Pen) (place until : ℕ) (known : Known) where
  here_signs : (k j : ℕ) (e : Entry) (pen : Pen) → signs_of k (come_by began j e place until known pen).elements ≡ pick (is_on_the_way began place e) (one (eqb k j)) 0
  unfolding come_by
  here_signs k j e pen = go (is_on_the_way began place e)
    where
      on : Past
      on = record { elements = plain (way pen e.place until known) ∷ entry j e (arrive pen e.place until).edge ∷ []; pen = arrive pen e.place until }

      by : Past
      by = record { elements = []; pen = pen }

      go : (b : Bool) → signs_of k (pick b on by).elements ≡ pick b (one (eqb k j)) 0
      go true = add-zero (one (eqb k j))
      go false = refl

  none_at : (b : Bool) (k j : ℕ) → k < j → pick b (one (eqb k j)) 0 ≡ 0
  none_at true k j h = ap one (ne_eqb k j (λ e. omega arith))
  none_at false k j h = refl

  before_signs : (es : List Entry) (k j : ℕ) (pen : Pen) → k < j → signs_of k (past began pen j es place until known).elements ≡ 0
  unfolding past
  before_signs [] k j pen h = refl
  before_signs (e ∷ es) k j pen h =
      let here : Past = come_by began j e place until known pen in
      let rest : Past = past began here.pen (suc j) es place until known in
      omega
      (arith, signs_append k here.elements rest.elements, here_signs k j e pen, none_at (is_on_the_way began place e) k j h, before_signs es k (suc j) here.pen (omega arith))

  some_at : (b : Bool) (k j : ℕ) → k ≡ j → pick b (one (eqb k j)) 0 ≡ one b
  some_at true k j h = ap one (eq-eqb k j h)
  some_at false k j h = refl

  other_at : (b : Bool) (k j : ℕ) → j < k → pick b (one (eqb k j)) 0 ≡ 0
  other_at true k j h = ap one (ne_eqb k j (λ e. omega arith))
  other_at false k j h = refl

  pub past_signs : (es : List Entry) (n k j : ℕ) (pen : Pen) → k ≡ j + n → n < length es
      → signs_of k (past began pen j es place until known).elements ≡ one (is_on_the_way began place (get_or es n no_entry))
  unfolding past
  past_signs [] n k j pen is h = absurd (omega arith)
  past_signs (e ∷ es) zero k j pen is h =
      let here : Past = come_by began j e place until known pen in
      let rest : Past = past began here.pen (suc j) es place until known in
      let same : k ≡ j = omega arith in
      omega
      (arith, signs_append k here.elements rest.elements, here_signs k j e pen, some_at (is_on_the_way began place e) k j same, before_signs es k (suc j) here.pen (omega arith))
  past_signs (e ∷ es) (suc n) k j pen is h =
      let here : Past = come_by began j e place until known pen in
      let rest : Past = past began here.pen (suc j) es place until known in
      let on : k ≡ suc j + n = omega arith in
      omega
      (arith, signs_append k here.elements rest.elements, here_signs k j e pen, other_at (is_on_the_way began place e) k j (omega arith), past_signs es n k (suc j) here.pen on (omega arith))

-- ---- the pen's way

-- Whether an entry still lies before a pen: one or none.
unfoldable pub left : Entry → Pen → ℕ
left e pen = one (is_further pen e.place)

-- All of them lie before a fresh one.
pub fresh_all : (e : Entry) → left e fresh_pen ≡ 1
unfolding left is_further
fresh_all e = refl

module _ (plan : Plan) (k : ℕ) (h : k < length (row plan)) where
  abbrev it : Entry
  it = get_or (row plan) k no_entry

  -- what is drawn of it on a way that goes on, by where it lies
  parts : (x y z : ℕ) (so f : Bool) → (not so || ltb z x) ≡ f → (not so || ltb z y) ≡ true → one (f && leb x y) + one (ltb y x) ≡ one f
  parts x y z so true e g = go (ltb y x) refl
    where
      go : (b : Bool) → ltb y x ≡ b → one (leb x y) + one (ltb y x) ≡ 1
      go true m = rw (m, lt-leb x y (ltb-true y x m))
      go false m = rw (m, le-leb x y (ltb-false y x m))
  parts x y z true false e g =
      let a : x ≤ z = ltb-false z x e in
      let b : z < y = ltb-true z y g in
      zero-add (one (ltb y x)) ∙ ap one (le-ltb y x (omega arith))
  parts x y z false false e g = cannot_be cc

  -- where it lies, in tests of kilometres
  there_further : (place from ticks e : ℕ) → is_further (record { edge = edge_of place; from = from; is_open = true; ticks = ticks }) e ≡ ltb (place / 10000) (e / 10000)
  unfolding is_further
  there_further place from ticks e =
      let km : edge_of place / 10000 ≡ place / 10000 = omega arith in
      ap (λ (n : ℕ). ltb n (e / 10000)) km

  is_tests : (pen : Pen) (e : ℕ) → (not pen.is_open || ltb (pen.edge / 10000) (e / 10000)) ≡ is_further pen e
  unfolding is_further
  is_tests pen e = refl

  on_tests : (pen : Pen) (place : ℕ) → is_on_the_way pen place it ≡ (is_further pen it.place && leb (it.place / 10000) (place / 10000))
  unfolding is_on_the_way
  on_tests pen place = refl

  further_signs : (pen : Pen) (place until from ticks : ℕ) (known : Known) → is_further pen place ≡ true →
      let p = past pen pen 0 (row plan) place until known in
      signs_of k (p.elements ++ plain (way p.pen place until known) ∷ []) + one (is_further (record { edge = edge_of place; from = from; is_open = true; ticks = ticks }) it.place) ≡ one (is_further pen it.place)
  further_signs pen place until from ticks known g =
      let p : Past = past pen pen 0 (row plan) place until known in
      omega (
        arith,
        signs_append k p.elements (plain (way p.pen place until known) ∷ []),
        past_signs pen place until known (row plan) k k 0 pen (omega arith) h,
        ap one (on_tests pen place),
        ap one (there_further place from ticks it.place),
        parts (it.place / 10000) (place / 10000) (pen.edge / 10000) pen.is_open (is_further pen it.place) (is_tests pen it.place) (is_tests pen place ∙ g),
      )

  pub way_signs : (pen : Pen) (place until : ℕ) (known : Known) → signs_of k (way_past plan pen place until known) + left it (arrive pen place until) ≡ left it pen
  unfolding way_past left arrive
  way_signs pen place until known = go (is_further pen place) refl
    where
      p : Past
      p = past pen pen 0 (row plan) place until known

      es : List Element
      es = p.elements ++ plain (way p.pen place until known) ∷ []

      pen' : Pen
      pen' = record { edge = edge_of place; from = lesser until (edge_of place); is_open = true; ticks = pen.ticks }

      go : (b : Bool) → is_further pen place ≡ b → signs_of k (pick b es []) + one (is_further (pick b pen' pen) it.place) ≡ one (is_further pen it.place)
      go true g = further_signs pen place until (lesser until (edge_of place)) pen.ticks known g
      go false g = zero-add (one (is_further pen it.place))
