-- A line that states a version is decided by the store's own answer.
-- Assumes nothing.
use Prim.Native.Nat.{ℕ, ◌<◌}
use native.Mathlib.Omega.{arith}
use mathlib.Core.Path.{◌≡◌, refl, sym, ap, subst, ◌∙◌}
use mathlib.Core.Bool.{Bool, true, false, not}
use mathlib.Core.List.{[], ◌∷◌}
use lib.Dec.{eqb, ltb}
use borrow.Author.Tests.{eqb-true, eqb-false}
use Rattle.words.specs.Answer.{Outcome, gives, refuses, then, pick}
use Rattle.words.proofs.Never.{cannot_be}
use Rattle.settings.specs.declared.Version.{Version}
use Rattle.settings.specs.declared.Store.{Store}
use Rattle.settings.specs.Versions.{Kept, kept, settings_of, follows}
use Rattle.settings.specs.Store.{first_of, opened_if, begin, added_if, may_add, add, last_place}
use Rattle.lines.specs.declared.TextLine.{TextLine}
use Rattle.settings_text.specs.declared.Condition.{Condition}
use Rattle.settings_text.specs.declared.Taken.{Taken}
use Rattle.settings_text.specs.Taking.{after_it, changed, given, stated_to, take_line}
use Rattle.settings_text.proofs.Giving.{to_a_store, to_none, not_from_0}
use Rattle.demands.specs.Rules.{row, Decided, Is}
use Rattle.demands.specs.Table02.{starts_late, full}
use Rattle.demands.specs.Stores.{settings_rules, version_rules, store_rules}
use Rattle.demands.proofs.Common.Rules.{if_not}
use Rattle.demands.proofs.Demand1.StoreRules.{settings_so, version_so, store_so}
use Rattle.settings_text_laws.specs.Demand1.{Takes, heard, ByRules, States, TakeDecided}

-- What is taken of a line that states a version.
states : (store : Store) (line : TextLine) (v : Version) (r : Taken) → Takes store line r → States line v → r ≡ given store v
unfolding take_line
states store line v r c e = c.1 ∙ ap (stated_to store) e

opened_how : (before : Store) (v : Version) (o : Outcome Kept) → (after_it (opened_if v o).answer before (opened_if v o).store).how ≡ heard (then o (λ k. gives kept))
opened_how before v (gives k) = refl
opened_how before v (refuses n) = refl

added_how : (store : Store) (v : Version) (o : Outcome Kept) → (after_it (added_if store v o).answer store (added_if store v o).store).how ≡ heard o
added_how store v (gives k) = refl
added_how store v (refuses n) = refl

late_place : (n : ℕ) → starts_late n ≡ true → 0 < n
unfolding starts_late
late_place n e = by_test (eqb n 0) refl e
  where
    by_test : (b : Bool) → eqb n 0 ≡ b → not b ≡ true → 0 < n
    by_test true q f = cannot_be cc
    by_test false q f = let some : n ≡ 0 → ⊥ = eqb-false n 0 q in omega (arith, some)

from_0 : (n : ℕ) → starts_late n ≡ false → n ≡ 0
unfolding starts_late
from_0 n e = by_test (eqb n 0) refl e
  where
    by_test : (b : Bool) → eqb n 0 ≡ b → not b ≡ false → n ≡ 0
    by_test true q f = eqb-true n 0 q
    by_test false q f = cannot_be cc

module _ (store : Store) (v : Version) where
  opened_so : ByRules (settings_rules v []) (changed store (begin v.gap v.s v.t)).how
  unfolding begin
  opened_so = (
    then (settings_of v.gap v.s v.t) (λ k. gives kept),
    settings_so (Is kept) [] v (λ k. gives kept) refl,
    opened_how store (first_of v.gap v.s v.t) (settings_of v.gap v.s v.t),
  )

  may_so : Decided (Is kept) (store_rules store (version_rules (last_place store) v (row 25 (full store.count) ∷ []))) (may_add store v)
  unfolding may_add full
  may_so =
      store_so (Is kept) (λ k. then (follows (last_place store) v) λ j. pick (ltb store.count 32) (gives kept) (refuses 25))
      (version_rules (last_place store) v (row 25 (full store.count) ∷ [])) store
      (version_so (Is kept) (λ j. pick (ltb store.count 32) (gives kept) (refuses 25)) (row 25 (full store.count) ∷ []) (last_place store) v
      (if_not (Is kept) [] (refuses 25) (gives kept) refl (ltb store.count 32)))

  added_so : ByRules (store_rules store (version_rules (last_place store) v (row 25 (full store.count) ∷ []))) (changed store (add store v)).how
  unfolding add
  added_so = (may_add store v, may_so, added_how store v (may_add store v))

how_of : (P : Condition → Type 0) (t r : Taken) → t ≡ r → P t.how → P r.how
how_of P t r e p = subst (λ (x : Taken). P x.how) e p

pub take_decided : TakeDecided
unfolding take_line
take_decided = record {
  blank = λ store line r c e. ap (λ (x : Taken). x.how) (c.1 ∙ ap (stated_to store) e);
  unreadable = λ store line r c e. ap (λ (x : Taken). x.how) (c.1 ∙ ap (stated_to store) e);
  late = λ store line v r c e z p. ap (λ (x : Taken). x.how) (states store line v r c e ∙ sym (not_from_0 store v z (late_place v.place p)));
  first = λ store line v r c e z p.
      how_of (ByRules (settings_rules v [])) (changed store (begin v.gap v.s v.t)) r
      (to_none store v z (from_0 v.place p) ∙ sym (states store line v r c e)) (opened_so store v);
  later = λ store line v r c e z.
      let some : 0 < store.count = omega (arith, z) in
      how_of (ByRules (store_rules store (version_rules (last_place store) v (row 25 (full store.count) ∷ [])))) (changed store (add store v)) r
      (to_a_store store v some ∙ sym (states store line v r c e)) (added_so store v);
}
