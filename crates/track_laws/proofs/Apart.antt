-- The things of a way that are still to be sent: they lie at least four decimetres apart, and each
-- has its frames.
-- Assumes nothing.
use Prim.Native.Nat.{ℕ, ◌+◌, ◌-◌, ◌*◌, ◌≤◌, ◌<◌, min}
use mathlib.Core.Path.{◌≡◌, refl, sym, ap, ◌∙◌, subst}
use mathlib.Core.Bool.{Bool, true, false, ◌&&◌}
use mathlib.Core.List.{List, [], ◌∷◌}
use native.Mathlib.Omega.{arith}
use native.Mathlib.Nat.{mul-le-mul_left, mul-add}
use borrow.Author.Tests.{ltb-false}
use Rattle.words.specs.Answer.{gives, pick}
use Rattle.words.proofs.Never.{cannot_be}
use Rattle.track_lead.specs.declared.Thing.{Thing}
use Rattle.track_lead.specs.declared.Place.{Place}
use Rattle.track_lead.specs.declared.TrackWay.{TrackWay}
use Rattle.track_lead.specs.Way.{highest, is_sent, is_near, after, take}
use Rattle.track_lead.specs.Lead.{Item, way_from, Over, first_frame, latest}
use Rattle.track_lead.proofs.Latest.{Rising, rises, given_then, TakenSo, taken_so, position, soon}
use Rattle.track_laws.specs.Sure.{SureThing, Sure}

-- Whatever is still to be sent lies at the place `low` or beyond it.
abbrev pub SentFrom : ℕ → List Item → Type 0
SentFrom low [] = Unit
SentFrom low (item ∷ items) = (is_sent item.thing ≡ true → low ≤ item.place) × SentFrom low items

pub weaker : (low high : ℕ) (items : List Item) → low ≤ high → SentFrom high items → SentFrom low items
weaker low high [] l from_there = tt
weaker low high (item ∷ items) l from_there = ((λ is. let h = from_there.0 is in omega arith), weaker low high items l from_there.1)

-- Whatever is sent lies at 0 or beyond it.
pub from_0 : (items : List Item) → SentFrom 0 items
from_0 [] = tt
from_0 (item ∷ items) = ((λ is. omega arith), from_0 items)

not_near : (mark : Place) (p place : ℕ) → mark ≡ Place.At p → is_near mark place ≡ false → p + 4 ≤ place
not_near mark p place is far = ltb-false place (p + 4) (sym (ap (λ (m : Place). is_near m place) is) ∙ far)

and_left : (a c : Bool) → (a && c) ≡ false → a ≡ true → c ≡ false
and_left true c e is = e
and_left false true e is = sym is
and_left false false e is = refl

-- The thing before, after a line.
pub thing_then : (way : TrackWay) (item : Item) (next : TrackWay) (b : Bool) → TakenSo way item.place item.thing next → is_sent item.thing ≡ b
    → next.thing ≡ pick b (Place.At item.place) way.thing
unfolding after
thing_then way item next b t is = ap (λ (w : TrackWay). w.thing) t.next_is ∙ ap (λ (c : Bool). pick c (Place.At item.place) way.thing) is

-- One line, and then the others.
one_apart : (way : TrackWay) (item : Item) (items : List Item) (next : TrackWay) (p : ℕ) → way.thing ≡ Place.At p → TakenSo way item.place item.thing next
    → ((q : ℕ) → next.thing ≡ Place.At q → SentFrom (q + 4) items) → (b : Bool) → is_sent item.thing ≡ b → SentFrom (p + 4) (item ∷ items)
one_apart way item items next p there t rest true is =
    let far = not_near way.thing p item.place there (and_left (is_sent item.thing) (is_near way.thing item.place) t.apart is) in
    ((λ e. far), weaker (p + 4) (item.place + 4) items (omega arith) (rest item.place (thing_then way item next true t is)))
one_apart way item items next p there t rest false is =
    ((λ e. let z : ◌≡◌ {A = Bool} true false = sym e ∙ is in cannot_be cc), rest p (thing_then way item next false t is ∙ there))

-- After a thing at a place, the next lies four beyond it.
pub apart : (way : TrackWay) (items : List Item) (last : TrackWay) (p : ℕ) → way_from way items ≡ gives last → way.thing ≡ Place.At p → SentFrom (p + 4) items
unfolding way_from
apart way [] last p is there = tt
apart way (item ∷ items) last p is there =
    let g = given_then (take way item.place item.thing) (λ next. way_from next items) last is in
    let t = taken_so way item.place item.thing g.0 g.1 in
    one_apart way item items g.0 p there t (λ q th. apart g.0 items last q g.2 th) (is_sent item.thing) refl

-- ---- the last that has begun

module _ (n begin : ℕ) where
  pub none_yet : (items : List Item) (low k : ℕ) (over : Over) → SentFrom low items → k < first_frame n begin low → latest n begin items k over ≡ over
  unfolding latest
  none_yet [] low k over from_there early = refl
  none_yet (item ∷ items) low k over from_there early = by (is_sent item.thing) refl (none_yet items low k over from_there.1 early)
    where
      by : (c : Bool) → is_sent item.thing ≡ c → latest n begin items k over ≡ over → latest n begin (item ∷ items) k over ≡ over
      by false is rest = position n begin item items k over is ∙ rest
      by true is rest =
          let later : first_frame n begin low ≤ first_frame n begin item.place = mul-le-mul_left n (let l = from_there.0 is in omega arith) in
          soon n begin item items k over (omega (arith, later)) ∙ rest

-- ---- their frames

-- Each thing still to come has its frames, and those of the next three decimetres; m are in the
-- lead.
abbrev pub Fit : ℕ → ℕ → ℕ → List Item → Type 0
Fit n begin m [] = Unit
Fit n begin m (item ∷ items) = (is_sent item.thing ≡ true → (begin ≤ item.place) × (first_frame n begin item.place + 4 ≤ m)) × Fit n begin m items

-- So it is in a text that is taken.
pub fit_all : (n s t begin until : ℕ) → 0 < n → (items : List Item) (from_there last : ℕ) → Rising from_there last items → begin ≤ from_there → until ≡ min (last + 10) highest + 1 → Sure s t items
    → Fit n begin (n * (until - begin)) items
fit_all n s t begin until some [] from_there last rising after-begin ends sure = tt
fit_all n s t begin until some (item ∷ items) from_there last rising after-begin ends sure =
    ((λ is. one is item.thing refl sure.0), fit_all n s t begin until some items item.place last rising.1 (omega (arith, rising.0)) ends sure.1)
  where
    enough : item.place + 3 ≤ highest → (begin ≤ item.place) × (first_frame n begin item.place + 4 ≤ n * (until - begin))
    enough three =
        let on = rises item.place last items rising.1 in
        let more : n * (item.place - begin + 4) ≡ n * (item.place - begin) + n * 4 = mul-add n (item.place - begin) 4 in
        let within : n * (item.place - begin + 4) ≤ n * (until - begin) = mul-le-mul_left n (omega (arith, rising.0)) in
        (omega (arith, rising.0), omega (arith, more, within))

    one : is_sent item.thing ≡ true → (x : Thing) → item.thing ≡ x → SureThing s t item.place item.thing → (begin ≤ item.place) × (first_frame n begin item.place + 4 ≤ n * (until - begin))
    one is (Thing.Balise x y z) e certain = enough (subst (SureThing s t item.place) e certain).1
    one is Thing.Marker e certain = enough (subst (SureThing s t item.place) e certain)
    one is Thing.Unreadable e certain = enough (subst (SureThing s t item.place) e certain)
    one is Thing.Nothing e certain = cannot_be (let z : ◌≡◌ {A = Bool} true false = sym is ∙ ap is_sent e in cc)
