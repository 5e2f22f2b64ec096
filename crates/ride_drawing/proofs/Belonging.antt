-- The entries that the pen comes by stand on the strips of their places: it comes by them in rising
-- order, and so is on no strip behind the next one.
-- Assumes nothing.
use Prim.Native.Nat.{ℕ, zero, suc, ◌+◌, ◌*◌, ◌/◌, ◌≤◌, ◌<◌}
use native.Mathlib.Omega.{arith}
use mathlib.Core.Path.{◌≡◌, refl, ap, ◌∙◌}
use mathlib.Core.Logic.{◌⊎◌, inl, inr}
use mathlib.Core.Bool.{Bool, true, false, not, ◌||◌}
use mathlib.Core.List.{List, [], ◌∷◌, ◌++◌}
use lib.Dec.{leb, ltb}
use lib.ListN.{length, drop, get_or}
use borrow.Author.Tests.{lt-ltb, ltb-true, ltb-false}
use Rattle.words.specs.Answer.{pick}
use Rattle.words.proofs.Never.{cannot_be}
use Rattle.words.proofs.Linear.{and_parts}
use Rattle.ride.specs.declared.Known.{Known}
use Rattle.acceptance.specs.declared.Entry.{Entry}
use Rattle.acceptance.specs.Plan.{no_entry, is_beyond, apart}
use Rattle.ride_drawing.specs.declared.Pen.{Pen}
use Rattle.ride_drawing.specs.declared.Plan.{Plan}
use Rattle.ride_drawing.specs.Strip.{edge_of, is_further, arrive}
use Rattle.ride_drawing.specs.Row.{row, is_on_the_way}
use Rattle.ride_drawing.specs.Element.{Element, plain, entry}
use Rattle.ride_drawing.specs.Way.{way, Past, come_by, past}
use Rattle.ride_drawing.specs.Places.{AllBelong}

pub both : (plan : Plan) (es fs : List Element) → AllBelong plan es → AllBelong plan fs → AllBelong plan (es ++ fs)
both plan [] fs a b = b
both plan (e ∷ es) fs a b = (a.0, both plan es fs a.1 b)

-- ---- where the pen stands

-- What lies in no later strip than the pen's lies not behind it.
near : (pen : Pen) (place : ℕ) → is_further pen place ≡ false → place / 10000 ≤ pen.edge / 10000
unfolding is_further
near pen place = go pen.is_open
  where
    go : (so : Bool) → (not so || ltb (pen.edge / 10000) (place / 10000)) ≡ false → place / 10000 ≤ pen.edge / 10000
    go true e = ltb-false (pen.edge / 10000) (place / 10000) e
    go false e = cannot_be cc

moved : (pen : Pen) (place until : ℕ) → is_further pen place ≡ true → ((arrive pen place until).edge ≡ edge_of place) × ((arrive pen place until).is_open ≡ true)
unfolding arrive
moved pen place until e = rw e (refl, refl)

stays : (pen : Pen) (place until : ℕ) → is_further pen place ≡ false → arrive pen place until ≡ pen
unfolding arrive
stays pen place until e = rw e refl

-- No sign stands behind its strip.
pub not_behind : (pen : Pen) (place until : ℕ) → place < (arrive pen place until).edge + 10000
not_behind pen place until = go (is_further pen place) refl
  where
    go : (b : Bool) → is_further pen place ≡ b → place < (arrive pen place until).edge + 10000
    go true e = omega (arith, (moved pen place until e).0)
    go false e = omega (arith, ap (λ (p : Pen). p.edge) (stays pen place until e), near pen place e)

-- ---- the entries that the pen comes by

-- The first of the entries that are left is the one with that index.
head_is : (l : List Entry) (i : ℕ) (e : Entry) (es : List Entry) → drop i l ≡ e ∷ es → (i < length l) × (e ≡ get_or l i no_entry) × (drop (suc i) l ≡ es)
head_is [] zero e es h = cannot_be cc
head_is [] (suc i) e es h = cannot_be cc
head_is (x ∷ l) zero e es h = (omega arith, cc, cc)
head_is (x ∷ l) (suc i) e es h =
    let r = head_is l i e es h in
    (omega (arith, r.0), r.1, r.2)

-- The pen has not moved since it began, or it stands on the strip of a place that lies before the
-- entries that are left.
abbrev Came : Pen → Pen → ℕ → List Entry → Type 0
Came began pen t es = (pen ≡ began) ⊎ ((q : ℕ) × (pen.edge ≡ edge_of q) × (pen.is_open ≡ true) × (is_beyond t q es ≡ true))

next_beyond : (t q : ℕ) (e : Entry) (es : List Entry) → is_beyond t q (e ∷ es) ≡ true → is_beyond t e.place es ≡ true → is_beyond t q es ≡ true
next_beyond t q e [] a b = refl
next_beyond t q e (f ∷ es) a b =
    lt-ltb (q + 2 * t) f.place (omega (arith, ltb-true (q + 2 * t) e.place a, ltb-true (e.place + 2 * t) f.place b))

past_it : (began pen : Pen) (t : ℕ) (e : Entry) (es : List Entry) → Came began pen t (e ∷ es) → is_beyond t e.place es ≡ true → Came began pen t es
past_it began pen t e es (inl is) b = inl is
past_it began pen t e es (inr c) b = inr (c.0, c.1, c.2, next_beyond t c.0 e es c.3 b)

-- At an entry on its way the pen stands on the strip of its place.
on_its_strip : (began pen : Pen) (t place until : ℕ) (e : Entry) (es : List Entry) → is_on_the_way began place e ≡ true → Came began pen t (e ∷ es)
    → ((arrive pen e.place until).edge ≡ edge_of e.place) × ((arrive pen e.place until).is_open ≡ true)
unfolding is_on_the_way
on_its_strip began pen t place until e es on (inl is) =
    moved pen e.place until (ap (λ (p : Pen). is_further p e.place) is ∙ (and_parts (is_further began e.place) (leb (e.place / 10000) (place / 10000)) on).0)
on_its_strip began pen t place until e es on (inr c) = go (is_further pen e.place) refl
  where
    go : (b : Bool) → is_further pen e.place ≡ b → ((arrive pen e.place until).edge ≡ edge_of e.place) × ((arrive pen e.place until).is_open ≡ true)
    go true f = moved pen e.place until f
    go false f =
        let there : arrive pen e.place until ≡ pen = stays pen e.place until f in
        let same : edge_of c.0 ≡ edge_of e.place = omega (arith, near pen e.place f, c.1, ltb-true (c.0 + 2 * t) e.place c.3) in
        (ap (λ (p : Pen). p.edge) there ∙ c.1 ∙ same, ap (λ (p : Pen). p.is_open) there ∙ c.2)

module _ (plan : Plan) (t : ℕ) (began : Pen) (place until : ℕ) (known : Known) where
  by_belongs : (i : ℕ) (e : Entry) (es : List Entry) (pen : Pen) → i < length (row plan) → e ≡ get_or (row plan) i no_entry → is_beyond t e.place es ≡ true → Came began pen t (e ∷ es) →
      let here = come_by began i e place until known pen in
      AllBelong plan here.elements × Came began here.pen t es
  unfolding come_by
  by_belongs i e es pen in_row is beyond came = go (is_on_the_way began place e) refl
    where
      on : Past
      on = record { elements = plain (way pen e.place until known) ∷ entry i e (arrive pen e.place until).edge ∷ []; pen = arrive pen e.place until }

      by : Past
      by = record { elements = []; pen = pen }

      go : (b : Bool) → is_on_the_way began place e ≡ b → AllBelong plan (pick b on by).elements × Came began (pick b on by).pen t es
      go true g =
          let strip = on_its_strip began pen t place until e es g came in
          ((tt, ((in_row, is, strip.0), tt)), inr (e.place, strip.0, strip.1, beyond))
      go false g = (tt, past_it began pen t e es came beyond)

  pub past_belongs : (es : List Entry) (i : ℕ) (pen : Pen) → drop i (row plan) ≡ es → apart t es ≡ true → Came began pen t es → AllBelong plan (past began pen i es place until known).elements
  unfolding past apart
  past_belongs [] i pen left rise came = tt
  past_belongs (e ∷ es) i pen left rise came =
      let head = head_is (row plan) i e es left in
      let parts = and_parts (is_beyond t e.place es) (apart t es) rise in
      let here : Past = come_by began i e place until known pen in
      let b = by_belongs i e es pen head.0 head.1 parts.0 came in
      both plan here.elements (past began here.pen (suc i) es place until known).elements b.0 (past_belongs es (suc i) here.pen head.2 parts.1 b.1)
