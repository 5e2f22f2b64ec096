-- The laws of the settings.
-- Assumes nothing.
use Prim.Native.Nat.{ℕ, ◌<◌, ◌≤◌}
use mathlib.Core.Path.{◌≡◌, sym, ap, ◌∙◌}
use mathlib.Core.List.{List, [], ◌∷◌}
use native.Mathlib.Omega.{arith}
use borrow.Author.Tests.{le-ltb, ltb-false}
use lib.ListN.{length, take, get_or}
use lib.Seq.{get_or-take, length-take-le}
use Rattle.words.specs.Answer.{Outcome, gives, refuses}
use Rattle.settings.specs.declared.Version.{Version}
use Rattle.settings.specs.declared.Store.{Store}
use Rattle.settings.specs.declared.Held.{Held}
use Rattle.settings.specs.Versions.{highest, Kept, kept, settings_of}
use Rattle.settings.specs.Store.{no_version, no_store_meant, versions_of, first_of, opened, opened_if, begin, all_follow, in_order_meant, judged, with_one, may_add, added_if, add}
use Rattle.settings.specs.At.{ending, held_among, held_at, asked}
use Rattle.settings.specs.Laws.{version_at, version_in, answer, InForce, Settings}
use Rattle.settings.proofs.Counts.{at_most, in_order}
use Rattle.settings.proofs.Following.{never}
use Rattle.settings.proofs.Holding.{opened_of, no_versions, Holding, holding_at, held_given}
use Rattle.settings.proofs.Standing.{among, not_above, before_end, ends, highest_such}
use Rattle.settings.proofs.Adding.{was_good, place_within, still_good, below_added, from_added}

-- ---- asking

asked_good : (store : Store) (place : ℕ) → judged store ≡ gives kept → place ≤ highest → asked store place ≡ gives (held_at store place)
unfolding asked
asked_good store place h e = rw (h, le-ltb highest place e)

-- ---- in a store

-- What is in force among some versions in order.
record Stands (l : List Version) (place : ℕ) (held : Held) : Type 0 where
  number : ℕ
  of_these : number < length l
  is : version_in held ≡ get_or l number no_version
  low : held.from ≤ place
  high : place < held.until
  last : held.until ≤ ending
  such : (i : ℕ) → i < length l → (get_or l i no_version).place ≤ place → (get_or l i no_version).place ≤ held.from

stands : (l : List Version) (place : ℕ) → in_order_meant l ≡ gives kept → place ≤ highest → Stands l place (held_among l place)
stands [] place h e = no_versions _ h
stands (w ∷ vs) place h e =
    let o = opened_of w vs h in
    let a = among w vs place in
    let start : w.place ≤ place = omega (arith, o.first) in
    record {
      number = a.number;
      of_these = a.of_these;
      is = a.is;
      low = not_above w vs place start;
      high = before_end w vs place e;
      last = ends w vs place o.others;
      such = λ i inside under. highest_such w vs place i o.others inside under;
    }

-- What was asked and given.
given_stands : (store : Store) (place : ℕ) (held : Held) → asked store place ≡ gives held → Stands (versions_of store) place held
unfolding held_at
given_stands store place held e =
    let g = held_given store place held e in
    rw g.2 (stands (versions_of store) place (in_order store g.0) (ltb-false highest place g.1))

in_store : (store : Store) (place : ℕ) (held : Held) → length store.versions ≡ 32 → asked store place ≡ gives held → InForce store place held
unfolding versions_of
in_store store place held long e =
    let s = given_stands store place held e in
    let few : store.count ≤ length store.versions = omega (arith, at_most store (held_given store place held e).0) in
    let many : length (take store.count store.versions) ≡ store.count = length-take-le store.count store.versions few in
    let same : (i : ℕ) → i < store.count → get_or (take store.count store.versions) i no_version ≡ version_at store i =
    λ i h. get_or-take store.count store.versions i no_version h in
    let of_these : s.number < store.count = omega (arith, s.of_these) in
    record {
      number = s.number;
      of_these = of_these;
      is = s.is ∙ same s.number of_these;
      not_above = s.low;
      highest_such = λ i inside under.
          let here : i < length (take store.count store.versions) = omega arith in
          let place_is = ap (λ (x : Version). x.place) (same i inside) in
          let low : (get_or (take store.count store.versions) i no_version).place ≤ place = omega arith in
          omega (arith, s.such i here low);
    }

alike : (store : Store) (place other : ℕ) (held : Held) → asked store place ≡ gives held → held.from ≤ other → other < held.until → asked store other ≡ gives held
alike store place other held e low high =
    let g = held_given store place held e in
    let s = given_stands store place held e in
    let inside : other ≤ highest = omega (arith, s.last) in
    let h : Holding store held = rw g.2 (holding_at store place g.0) in
    asked_good store other g.0 inside ∙ ap gives (h.alike other low high)

-- ---- opening and adding

open_by : (v : Version) (o : Outcome Kept) → (opened_if v o).answer ≡ gives kept → o ≡ gives kept
open_by v (gives k) e = e
open_by v (refuses n) e = never _ kept n e

first_good : (gap s t : ℕ) → settings_of gap s t ≡ gives kept → judged (opened (first_of gap s t)) ≡ gives kept
unfolding judged versions_of opened no_store_meant in_order_meant all_follow
first_good gap s t e = rw e

begun_good : (gap s t : ℕ) → (begin gap s t).answer ≡ gives kept → judged (begin gap s t).store ≡ gives kept
unfolding begin
begun_good gap s t e =
    let good : settings_of gap s t ≡ gives kept = open_by (first_of gap s t) (settings_of gap s t) e in
    ap (λ (o : Outcome Kept). judged (opened_if (first_of gap s t) o).store) good ∙ first_good gap s t good

add_by : (store : Store) (v : Version) (o : Outcome Kept) → (added_if store v o).answer ≡ gives kept → o ≡ gives kept
add_by store v (gives k) e = e
add_by store v (refuses n) e = never _ kept n e

may : (store : Store) (v : Version) → (add store v).answer ≡ gives kept → may_add store v ≡ gives kept
unfolding add
may store v e = add_by store v (may_add store v) e

added_is : (store : Store) (v : Version) → may_add store v ≡ gives kept → (add store v).store ≡ with_one store v
unfolding add
added_is store v e = ap (λ (o : Outcome Kept). (added_if store v o).store) e

module _ (store : Store) (v : Version) (long : length store.versions ≡ 32) (did : (add store v).answer ≡ gives kept) where
  good : judged (add store v).store ≡ gives kept
  good = ap judged (added_is store v (may store v did)) ∙ still_good store v long (may store v did)

  asked_then : (place : ℕ) → place ≤ highest → answer (asked (add store v).store place) ≡ gives (version_in (held_among (versions_of (with_one store v)) place))
  unfolding held_at
  asked_then place e =
      ap answer (asked_good (add store v).store place good e)
      ∙ ap (λ (s : Store). gives (version_in (held_among (versions_of s) place))) (added_is store v (may store v did))

  same_below : (place : ℕ) → place < v.place → answer (asked (add store v).store place) ≡ answer (asked store place)
  unfolding held_at
  same_below place h =
      let inside : place ≤ highest = omega (arith, place_within store v long (may store v did)) in
      asked_then place inside ∙ ap gives (below_added store v long (may store v did) place h)
      ∙ sym (ap answer (asked_good store place (was_good store v long (may store v did)) inside))

  new_from : (place : ℕ) → v.place ≤ place → place ≤ highest → answer (asked (add store v).store place) ≡ gives v
  new_from place h e = asked_then place e ∙ ap (λ (held : Held). gives (version_in held)) (from_added store v long (may store v did) place h)

pub settings : Settings
settings = record {
  opened_good = begun_good;
  added_good = good;
  any_place = λ store place h e. (held_at store place, asked_good store place h e);
  in_force_law = in_store;
  from_there = λ store place held e. let s = given_stands store place held e in (s.low, s.high);
  until_there = alike;
  same_below = λ store v place long did low. same_below store v long did place low;
  new_from = λ store v place long did low high. new_from store v long did place low high;
}
