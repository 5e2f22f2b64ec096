-- How many versions a store has that is judged good, or that takes one more; and the judgement,
-- from what its tests say.
-- Assumes nothing.
use Prim.Native.Nat.{ℕ, zero, suc, ◌<◌, ◌≤◌}
use mathlib.Core.Path.{◌≡◌, refl, sym, ap, ◌∙◌}
use mathlib.Core.Bool.{Bool, true, false}
use mathlib.Core.List.{List}
use native.Mathlib.Omega.{arith}
use borrow.Author.Tests.{le-ltb, lt-ltb, ltb-true, ltb-false}
use lib.Dec.{eqb, ltb}
use lib.ListN.{length, take, drop, get_or}
use Rattle.words.specs.Answer.{Outcome, gives, refuses, pick}
use Rattle.settings.specs.declared.Version.{Version}
use Rattle.settings.specs.declared.Store.{Store}
use Rattle.settings.specs.Versions.{then, Kept, kept, settings_of, follows}
use Rattle.settings.specs.Store.{no_version, versions_of, all_follow, in_order_meant, judged, last_place, may_add}
use Rattle.settings.proofs.Walking.{first_of}
use Rattle.words.proofs.Never.{cannot_be}

never : (A : Type 0) (k : Kept) (n : ℕ) → ◌≡◌ {A = Outcome Kept} (refuses n) (gives k) → A
never A k n e = cannot_be cc

-- ---- a store judged good

count_by : (b : Bool) (store : Store) → ltb 32 store.count ≡ b → pick b (refuses 25) (in_order_meant (versions_of store)) ≡ gives kept → store.count ≤ 32
count_by true store e h = never _ kept 25 h
count_by false store e h = ltb-false 32 store.count e

pub at_most : (store : Store) → judged store ≡ gives kept → store.count ≤ 32
unfolding judged
at_most store h = count_by (ltb 32 store.count) store refl h

some_by : (n : ℕ) (l : List Version) → in_order_meant (take n l) ≡ gives kept → 1 ≤ n
unfolding in_order_meant
some_by zero l h = never _ kept 19 h
some_by (suc n) l h = omega arith

order_by : (b : Bool) (store : Store) → pick b (refuses 25) (in_order_meant (versions_of store)) ≡ gives kept → in_order_meant (versions_of store) ≡ gives kept
order_by true store h = never _ kept 25 h
order_by false store h = h

pub in_order : (store : Store) → judged store ≡ gives kept → in_order_meant (versions_of store) ≡ gives kept
unfolding judged
in_order store h = order_by (ltb 32 store.count) store h

pub at_least : (store : Store) → judged store ≡ gives kept → 1 ≤ store.count
unfolding versions_of
at_least store h = some_by store.count store.versions (in_order store h)

-- ---- a store that takes one more

room_by : (b : Bool) (o p : Outcome Kept) → (then o λ k. then p λ j. pick b (gives kept) (refuses 25)) ≡ gives kept → b ≡ true
room_by b (refuses n) p h = never _ kept n h
room_by b (gives k) (refuses n) h = never _ kept n h
room_by true (gives k) (gives j) h = refl
room_by false (gives k) (gives j) h = never _ kept 25 h

pub room : (store : Store) (v : Version) → may_add store v ≡ gives kept → store.count < 32
unfolding may_add
room store v h = ltb-true store.count 32 (room_by (ltb store.count 32) (judged store) (follows (last_place store) v) h)

-- ---- the judgement

pub too_many : (store : Store) → 32 < store.count → refuses 25 ≡ judged store
unfolding judged
too_many store h = rw (lt-ltb 32 store.count h)

module _ (store : Store) (few : store.count ≤ 32) where
  by_order : in_order_meant (versions_of store) ≡ judged store
  unfolding judged
  by_order = rw (le-ltb 32 store.count few)

  pub empty : store.count ≡ 0 → refuses 19 ≡ judged store
  unfolding in_order_meant versions_of
  empty h = ap (λ (n : ℕ). in_order_meant (take n store.versions)) (sym h) ∙ by_order

  module _ (long : length store.versions ≡ 32) (some : 1 ≤ store.count) where
    -- The first version and those after it.
    by_first : pick (eqb (get_or store.versions 0 no_version).place 0)
        (then (settings_of (get_or store.versions 0 no_version).gap (get_or store.versions 0 no_version).s (get_or store.versions 0 no_version).t)
        λ k. all_follow 0 (drop 1 (take store.count store.versions))) (refuses 24)
        ≡ judged store
    unfolding in_order_meant versions_of
    by_first = ap in_order_meant (sym (first_of store.versions store.count long few some)) ∙ by_order

    pub first_place_law : eqb (get_or store.versions 0 no_version).place 0 ≡ false → refuses 24 ≡ judged store
    first_place_law e = rw e at by_first

    pub first_settings : eqb (get_or store.versions 0 no_version).place 0 ≡ true → (o : Outcome Kept)
        → o ≡ settings_of (get_or store.versions 0 no_version).gap (get_or store.versions 0 no_version).s (get_or store.versions 0 no_version).t
        → (then o λ k. all_follow 0 (drop 1 (take store.count store.versions))) ≡ judged store
    first_settings e o h = rw h (rw e at by_first)
