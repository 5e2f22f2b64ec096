-- The thing over the antenna in a frame: the last that has begun. The places of a text that is
-- taken never fall, and lie between its way's ends.
-- Assumes nothing.
use Prim.Native.Nat.{ℕ, ◌+◌, ◌-◌, ◌≤◌, ◌<◌, min}
use mathlib.Core.Path.{◌≡◌, refl, sym, ap, ◌∙◌, subst}
use mathlib.Core.Bool.{Bool, true, false, ◌&&◌}
use mathlib.Core.List.{List, [], ◌∷◌}
use native.Mathlib.Omega.{arith}
use native.Mathlib.Nat.{mul-le-mul_left}
use lib.Dec.{ltb}
use borrow.Author.Tests.{ltb-false, lt-leb, le-leb}
use Rattle.words.specs.Answer.{Answer, gives, refuses, then, pick}
use Rattle.words.proofs.Never.{cannot_be}
use Rattle.track_lead.specs.declared.Thing.{Thing}
use Rattle.track_lead.specs.declared.Place.{Place}
use Rattle.track_lead.specs.declared.TrackWay.{TrackWay}
use Rattle.track_lead.specs.Way.{highest, is_sent, is_near, fresh, first_of, after, Bad, refused, too_near, take, from_of, until_of, from, until}
use Rattle.track_lead.specs.Lead.{Item, way_from, way_of, Over, first_frame, latest}

-- ---- places that never fall

-- The places of the lines are `low` or higher, each at least as high as the one before, and at most
-- `high`.
abbrev pub Rising : ℕ → ℕ → List Item → Type 0
Rising low high [] = low ≤ high
Rising low high (item ∷ items) = (low ≤ item.place) × Rising item.place high items

pub rises : (low high : ℕ) (items : List Item) → Rising low high items → low ≤ high
rises low high [] r = r
rises low high (item ∷ items) r = let l = rises item.place high items r.1 in omega (arith, r.0)

-- A line that is taken: its place is no lower than the last, and at most 4,000,000,000; and the way
-- after it.
pub record TakenSo (way : TrackWay) (place : ℕ) (thing : Thing) (next : TrackWay) : Type 0 where
  pub on : way.last ≤ place
  pub low : place ≤ highest
  pub apart : (is_sent thing && is_near way.thing place) ≡ false
  pub next_is : next ≡ after way place thing

pub taken_so : (way : TrackWay) (place : ℕ) (thing : Thing) (next : TrackWay) → take way place thing ≡ gives next → TakenSo way place thing next
unfolding take
taken_so way place thing next is = by (ltb highest place) refl (ltb place way.last) refl (is_sent thing && is_near way.thing place) refl is
  where
    by : (a : Bool) → ltb highest place ≡ a → (b : Bool) → ltb place way.last ≡ b → (c : Bool) → (is_sent thing && is_near way.thing place) ≡ c
        → pick {A = Answer Bad TrackWay} a (refuses (refused 18)) (pick b (refuses (refused 17)) (pick c (refuses too_near) (gives (after way place thing)))) ≡ gives next
        → TakenSo way place thing next
    by false p false q false r e =
        record {
          on = ltb-false place way.last q;
          low = ltb-false highest place p;
          apart = r;
          next_is = let same : next ≡ after way place thing = cc in same;
        }
    by true p b q c r e = absurd (cannot_be cc)
    by false p true q c r e = absurd (cannot_be cc)
    by false p false q true r e = absurd (cannot_be cc)

-- What goes on with an answer that is given.
pub given_then : (a : Answer Bad TrackWay) (next : TrackWay → Answer Bad TrackWay) (w : TrackWay) → then a next ≡ gives w → (v : TrackWay) × (a ≡ gives v) × (next v ≡ gives w)
given_then (gives v) next w is = (v, refl, is)
given_then (refuses r) next w is = absurd (cannot_be cc)

-- A text that is taken.
pub record TakenAll (way : TrackWay) (items : List Item) (last : TrackWay) : Type 0 where
  pub rising : Rising way.last last.last items
  pub low : way.last ≤ highest → last.last ≤ highest
  pub first_kept : (place : ℕ) → way.first ≡ Place.At place → last.first ≡ Place.At place

pub taken_all : (way : TrackWay) (items : List Item) (last : TrackWay) → way_from way items ≡ gives last → TakenAll way items last
unfolding way_from after
taken_all way [] last is =
    let same : way ≡ last = cc in
    record {
      rising = subst (λ (w : TrackWay). way.last ≤ w.last) same (omega arith);
      low = λ l. subst (λ (w : TrackWay). w.last ≤ highest) same l;
      first_kept = λ place e. ap (λ (w : TrackWay). w.first) (sym same) ∙ e;
    }
taken_all way (item ∷ items) last is =
    let g = given_then (take way item.place item.thing) (λ next. way_from next items) last is in
    let t = taken_so way item.place item.thing g.0 g.1 in
    let rest = taken_all g.0 items last g.2 in
    let there : g.0.last ≡ item.place = ap (λ (w : TrackWay). w.last) t.next_is in
    record {
      rising = (t.on, subst (λ (p : ℕ). Rising p last.last items) there rest.rising);
      low = λ l. rest.low (omega (arith, there, t.low));
      first_kept = λ place e. rest.first_kept place (ap (λ (w : TrackWay). w.first) t.next_is ∙ ap (λ (m : Place). first_of m item.place) e);
    }

-- ---- where a way begins and ends

-- A way that has a line.
pub record Reaches (items : List Item) (way : TrackWay) : Type 0 where
  pub rising : Rising (from way) way.last items
  pub ends : way.last ≤ until way
  pub low : until way ≤ highest + 1
  pub until_is : until way ≡ min (way.last + 10) highest + 1

first_after : (place : ℕ) (thing : Thing) → (after fresh place thing).first ≡ Place.At place
unfolding after fresh
first_after place thing = refl

first_place_law : (item : Item) (items : List Item) (way : TrackWay) → way_of (item ∷ items) ≡ gives way → way.first ≡ Place.At item.place
unfolding way_of way_from fresh
first_place_law item items way is =
    let g = given_then (take fresh item.place item.thing) (λ next. way_from next items) way is in
    let t = taken_so fresh item.place item.thing g.0 g.1 in
    (taken_all g.0 items way g.2).first_kept item.place (after_first item t)
  where
    after_first : (item : Item) {next : TrackWay} → TakenSo fresh item.place item.thing next → next.first ≡ Place.At item.place
    after_first item t = ap (λ (w : TrackWay). w.first) t.next_is ∙ first_after item.place item.thing

pub reaches : (item : Item) (items : List Item) (way : TrackWay) → way_of (item ∷ items) ≡ gives way → Reaches (item ∷ items) way
unfolding way_of fresh from until
reaches item items way is =
    let all = taken_all fresh (item ∷ items) way is in
    let first_is = first_place_law item items way is in
    let from_is : from_of way.first ≡ item.place - 10 = ap from_of first_is in
    let until_is : until_of way.first way.last ≡ min (way.last + 10) highest + 1 = ap (λ (m : Place). until_of m way.last) first_is in
    let low = all.low (omega arith) in
    record {
      rising = (omega (arith, from_is), all.rising.1);
      ends = omega (arith, until_is, low);
      low = omega (arith, until_is);
      until_is = until_is;
    }

-- ---- the last that has begun

module _ (n begin : ℕ) where
  -- From its first frame on a thing has begun; a position never does.
  pub begun : (item : Item) (items : List Item) (k : ℕ) (over : Over) → is_sent item.thing ≡ true → first_frame n begin item.place ≤ k
      → latest n begin (item ∷ items) k over ≡ latest n begin items k (record { thing = item.thing; since = first_frame n begin item.place })
  unfolding latest
  begun item items k over is late = simp (is, le-leb _ _ late)

  pub position : (item : Item) (items : List Item) (k : ℕ) (over : Over) → is_sent item.thing ≡ false → latest n begin (item ∷ items) k over ≡ latest n begin items k over
  unfolding latest
  position item items k over is = simp is

  -- Before it, it has not.
  pub soon : (item : Item) (items : List Item) (k : ℕ) (over : Over) → k < first_frame n begin item.place → latest n begin (item ∷ items) k over ≡ latest n begin items k over
  unfolding latest
  soon item items k over early =
      ap (λ (t : Bool). latest n begin items k (pick (is_sent item.thing && t) (record { thing = item.thing; since = first_frame n begin item.place }) over)) (lt-leb _ _ early)
      ∙ ap (λ (t : Bool). latest n begin items k (pick t (record { thing = item.thing; since = first_frame n begin item.place }) over)) (never (is_sent item.thing))
    where
      never : (t : Bool) → (t && false) ≡ false
      never true = refl
      never false = refl

  -- Before the first frame of what comes, it is as it was.
  pub not_yet : (items : List Item) (low high k : ℕ) (over : Over) → Rising low high items → begin ≤ low → k < first_frame n begin low → latest n begin items k over ≡ over
  unfolding latest
  not_yet [] low high k over rising from_there early = refl
  not_yet (item ∷ items) low high k over rising from_there early =
      let later : first_frame n begin low ≤ first_frame n begin item.place = mul-le-mul_left n (omega (arith, rising.0)) in
      soon item items k over (omega (arith, later)) ∙ not_yet items item.place high k over rising.1 (omega (arith, rising.0)) (omega (arith, later))
