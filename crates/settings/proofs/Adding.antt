-- One version more at the end of a store: it stays in order, answers below the added place stay,
-- and from it on the added version is in force.
-- Assumes nothing.
use Prim.Native.Nat.{ℕ, suc, ◌+◌, ◌-◌, ◌<◌, ◌≤◌}
use mathlib.Core.Path.{◌≡◌, refl, sym, ap, ◌∙◌}
use mathlib.Core.Bool.{Bool, true, false}
use mathlib.Core.List.{List, [], ◌∷◌, ◌++◌}
use native.Mathlib.Numerals.{add-one}
use native.Mathlib.Omega.{arith}
use borrow.Author.Tests.{le-leb, lt-leb, le-ltb}
use lib.Dec.{eqb, leb, ltb}
use lib.ListN.{length, take, drop, get_or, set}
use lib.Seq.{take-suc-set, get_or-take, length-take-le}
use Rattle.words.specs.Answer.{Outcome, gives, refuses, pick}
use Rattle.settings.specs.declared.Version.{Version}
use Rattle.settings.specs.declared.Store.{Store}
use Rattle.settings.specs.declared.Held.{Held}
use Rattle.settings.specs.Versions.{then, highest, Kept, kept, settings_of, follows}
use Rattle.settings.specs.Store.{no_version, versions_of, all_follow, in_order_meant, judged, last_place, with_one, may_add}
use Rattle.settings.specs.At.{ending, holds, held_from, held_among}
use Rattle.settings.specs.Laws.{version_in}
use Rattle.settings.proofs.Walking.{first_of}
use Rattle.settings.proofs.Counts.{at_least, in_order, room}
use Rattle.settings.proofs.Following.{first_kept, next_is, follow_split}
use Rattle.settings.proofs.Holding.{opened_of}

-- ---- among some versions

-- The place of the last of some versions, after one at `last`.
abbrev last_of : ℕ → List Version → ℕ
last_of last [] = last
last_of last (v ∷ vs) = last_of v.place vs

follow_one : (last : ℕ) (vs : List Version) (v : Version) → all_follow last vs ≡ gives kept → follows (last_of last vs) v ≡ gives kept → all_follow last (vs ++ (v ∷ [])) ≡ gives kept
unfolding all_follow
follow_one last [] v h e = rw e
follow_one last (w ∷ vs) v h e =
    let two = first_kept (follows last w) (all_follow w.place vs) h in
    rw two.0 (follow_one w.place vs v two.1 e)

order_by : (b : Bool) (o p : Outcome Kept) → pick {A = Outcome Kept} b o (refuses 24) ≡ gives kept → (o ≡ gives kept → p ≡ gives kept) → pick {A = Outcome Kept} b p (refuses 24) ≡ gives kept
order_by true o p h more = more h
order_by false o p h more = h

order_one : (w : Version) (vs : List Version) (v : Version) → in_order_meant (w ∷ vs) ≡ gives kept → follows (last_of 0 vs) v ≡ gives kept → in_order_meant (w ∷ (vs ++ (v ∷ []))) ≡ gives kept
unfolding in_order_meant
order_one w vs v h e =
    order_by (eqb w.place 0) (then (settings_of w.gap w.s w.t) λ k. all_follow 0 vs) (then (settings_of w.gap w.s w.t) λ k. all_follow 0 (vs ++ (v ∷ []))) h
    (λ both.
    let two = first_kept (settings_of w.gap w.s w.t) (all_follow 0 vs) both in
    rw two.0 (follow_one 0 vs v two.1 e))

last_is : (w : Version) (vs : List Version) → last_of w.place vs ≡ (get_or (w ∷ vs) (length vs) no_version).place
last_is w [] = refl
last_is w (v ∷ vs) = last_is v vs

pick_same : (b : Bool) (g h f : Held) → version_in g ≡ version_in h → version_in (pick b g f) ≡ version_in (pick b h f)
pick_same true g h f e = e
pick_same false g h f e = refl

below_one : (w : Version) (vs : List Version) (v : Version) (place : ℕ) → place < v.place → version_in (held_from w (vs ++ (v ∷ [])) place) ≡ version_in (held_from w vs place)
unfolding held_from
below_one w [] v place h = rw (lt-leb v.place place h)
below_one w (x ∷ vs) v place h =
    pick_same (leb x.place place) (held_from x (vs ++ (v ∷ [])) place) (held_from x vs place) (holds w x.place) (below_one x vs v place h)

under_one : (x : Version) (vs : List Version) (v : Version) → all_follow x.place (vs ++ (v ∷ [])) ≡ gives kept → x.place < v.place
under_one x [] v h = (follow_split x.place v [] h).0.above
under_one x (y ∷ vs) v h =
    let rest = follow_split x.place y (vs ++ (v ∷ [])) h in
    omega (arith, rest.0.above, under_one y vs v rest.1)

from_one : (w : Version) (vs : List Version) (v : Version) (place : ℕ) → all_follow w.place (vs ++ (v ∷ [])) ≡ gives kept → v.place ≤ place
    → held_from w (vs ++ (v ∷ [])) place ≡ holds v ending
unfolding held_from
from_one w [] v place h e = rw (le-leb v.place place e)
from_one w (x ∷ vs) v place h e =
    let rest = follow_split w.place x (vs ++ (v ∷ [])) h in
    let reached : x.place ≤ place = omega (arith, under_one x vs v rest.1) in
    rw (le-leb x.place place reached) (from_one x vs v place rest.1 e)

-- ---- in a store

module _ (store : Store) (v : Version) (long : length store.versions ≡ 32) (may : may_add store v ≡ gives kept) where
  few : store.count < 32
  few = room store v may

  -- The versions of the store with one more.
  pub one_more : versions_of (with_one store v) ≡ versions_of store ++ (v ∷ [])
  unfolding versions_of with_one
  one_more =
      let fits : store.count < length store.versions = omega (arith, few) in
      ap (λ (n : ℕ). take n (set store.versions store.count v)) (add-one store.count) ∙ take-suc-set store.versions store.count v fits

  -- What the tests of adding say.
  pub was_good : judged store ≡ gives kept
  unfolding may_add
  was_good = (first_kept (judged store) (then (follows (last_place store) v) λ k. pick (ltb store.count 32) (gives kept) (refuses 25)) may).0

  follows_last : follows (last_place store) v ≡ gives kept
  unfolding may_add
  follows_last =
      (first_kept (follows (last_place store) v) (pick (ltb store.count 32) (gives kept) (refuses 25))
      (first_kept (judged store) (then (follows (last_place store) v) λ k. pick (ltb store.count 32) (gives kept) (refuses 25)) may).1
      ).0

  -- The added place is not above the highest.
  pub place_within : v.place ≤ highest
  place_within = (next_is (last_place store) v follows_last).within

  some : 1 ≤ store.count
  some = at_least store was_good

  -- The first version, and those that follow it.
  abbrev first : Version
  first = get_or store.versions 0 no_version

  abbrev others : List Version
  others = drop 1 (take store.count store.versions)

  few_or_all : store.count ≤ 32
  few_or_all = omega (arith, few)

  pub split : versions_of store ≡ first ∷ others
  unfolding versions_of
  split = first_of store.versions store.count long few_or_all some

  how_many : suc (length others) ≡ store.count
  unfolding versions_of
  how_many =
      let enough : store.count ≤ length store.versions = omega (arith, few) in
      sym (ap length split) ∙ length-take-le store.count store.versions enough

  last_place_law : last_of first.place others ≡ last_place store
  unfolding versions_of
  last_place_law =
      let at : length others ≡ store.count - 1 = omega (arith, how_many) in
      let inside : store.count - 1 < store.count = omega (arith, some) in
      last_is first others
      ∙ ap (λ (l : List Version). (get_or l (length others) no_version).place) (sym split)
      ∙ ap (λ (i : ℕ). (get_or (take store.count store.versions) i no_version).place) at
      ∙ ap (λ (x : Version). x.place) (get_or-take store.count store.versions (store.count - 1) no_version inside)

  pub ordered : in_order_meant (first ∷ others) ≡ gives kept
  ordered = ap in_order_meant (sym split) ∙ in_order store was_good

  pub still_ordered : in_order_meant (first ∷ (others ++ (v ∷ []))) ≡ gives kept
  still_ordered =
      order_one first others v ordered
      (ap (λ (n : ℕ). follows (last_of n others) v) (sym (opened_of first others ordered).first) ∙ ap (λ (n : ℕ). follows n v) last_place_law ∙ follows_last)

  pub all_of : versions_of (with_one store v) ≡ first ∷ (others ++ (v ∷ []))
  all_of = one_more ∙ ap (λ (l : List Version). l ++ (v ∷ [])) split

  pub still_good : judged (with_one store v) ≡ gives kept
  unfolding judged with_one
  still_good =
      let fits : store.count + 1 ≤ 32 = omega (arith, few) in
      rw (le-ltb 32 (store.count + 1) fits) (ap in_order_meant all_of ∙ still_ordered)

  pub below_added : (place : ℕ) → place < v.place → version_in (held_among (versions_of (with_one store v)) place) ≡ version_in (held_among (versions_of store) place)
  below_added place h =
      ap (λ (l : List Version). version_in (held_among l place)) all_of ∙ below_one first others v place h
      ∙ ap (λ (l : List Version). version_in (held_among l place)) (sym split)

  pub from_added : (place : ℕ) → v.place ≤ place → held_among (versions_of (with_one store v)) place ≡ holds v ending
  from_added place h =
      ap (λ (l : List Version). held_among l place) all_of
      ∙ from_one first others v place (opened_of first (others ++ (v ∷ [])) still_ordered).others h
