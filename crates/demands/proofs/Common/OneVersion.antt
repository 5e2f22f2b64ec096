-- A store of one version, with any good pair: it is judged good exactly if its gap is allowed, and
-- has that gap everywhere.
-- Assumes nothing.
use Prim.Native.Nat.{ℕ}
use mathlib.Core.Path.{◌≡◌, refl, sym, ap, subst, ◌∙◌}
use mathlib.Core.Bool.{Bool, true, false, not}
use mathlib.Core.List.{List, ◌∷◌}
use borrow.Author.Tests.{not-false}
use Rattle.words.specs.Answer.{Outcome, gives, refuses, then, pick}
use Rattle.telegram.specs.Sync.{Good, good, is_good, good_pair}
use Rattle.settings.specs.declared.Begun.{Begun}
use Rattle.settings.specs.declared.Store.{Store}
use Rattle.settings.specs.Versions.{allowed, Kept, kept, settings_of}
use Rattle.settings.specs.Store.{no_store_meant, versions_of, first_of, Change, opened, opened_if, begin, all_follow, in_order_meant, judged}
use Rattle.settings.specs.At.{held_from, held_at, gap_at}
use Rattle.demands.specs.Table.{not_seven, bad_gap}
use Rattle.demands.specs.Table02.{starts_late, overfull}
use Rattle.demands.specs.Rules.{Rule, row, Decided}
use Rattle.demands.specs.Stores.{BeginStore, store_rules}
use Rattle.demands.specs.Output.{Forty}
use Rattle.demands.proofs.Common.Rules.{true_not_false}
use Rattle.demands.proofs.Common.Spelled.{bad_gap_law}

-- ---- the store

module _ (gap s t : ℕ) (pair : not_seven s t ≡ false) where
  settings_are : settings_of gap s t ≡ pick (allowed gap) (gives kept) (refuses 19)
  unfolding settings_of good_pair not_seven is_good
  settings_are =
      ap (λ (b : Bool). then (pick {A = Outcome Good} b (gives good) (refuses 4)) λ g. pick {A = Outcome Kept} (allowed gap) (gives kept) (refuses 19)) (not-false (is_good s t) pair)

  opened_is : (begin gap s t).store ≡ pick (allowed gap) (opened (first_of gap s t)) no_store_meant
  unfolding begin
  opened_is = ap (λ (o : Outcome Kept). (opened_if (first_of gap s t) o).store) settings_are ∙ by (allowed gap)
    where
      by : (b : Bool) → (opened_if (first_of gap s t) (pick b (gives kept) (refuses 19))).store ≡ pick b (opened (first_of gap s t)) no_store_meant
      by true = refl
      by false = refl

  judged_so : (b : Bool) → allowed gap ≡ b → judged (pick b (opened (first_of gap s t)) no_store_meant) ≡ pick b (gives kept) (refuses 19)
  unfolding judged versions_of opened no_store_meant in_order_meant all_follow
  judged_so true e = rw (settings_are, e)
  judged_so false e = refl

  rule_so : gap_at (opened (first_of gap s t)) ≡ (λ (odometer : ℕ). gap)
  unfolding gap_at held_at versions_of opened no_store_meant held_from
  rule_so = refl

  -- whoever judges it first refuses a gap that is not allowed with 19, and then goes by his own
  -- rules
  by_rules : {A : Type 0} (Reading : Outcome A → Type 0) (rules : List (Rule (Outcome A))) (o : Outcome A) (k : Bool) → allowed gap ≡ k
      → Decided Reading (store_rules (pick k (opened (first_of gap s t)) no_store_meant) rules) o → Decided Reading (row 19 (bad_gap gap) ∷ rules) o
  unfolding opened no_store_meant overfull starts_late
  by_rules Reading rules o true e d = ((d.1 refl).1 refl).1 pair
  by_rules Reading rules o false e d = (λ q. (d.1 refl).0 refl, λ q. absurd (true_not_false (sym (bad_gap_law gap ∙ ap not e) ∙ q)))

  pub nineteen_of : {A : Type 0} (Reading : Outcome A → Type 0) (rules : List (Rule (Outcome A))) (o : Outcome A)
      → Decided Reading (store_rules (begin gap s t).store rules) o → Decided Reading (row 19 (bad_gap gap) ∷ rules) o
  nineteen_of Reading rules o d =
      by_rules Reading rules o (allowed gap) refl (subst (λ (x : Store). Decided Reading (store_rules x rules) o) opened_is d)

  -- ---- what the contracts allow

  module _ (r : Begun) (c : BeginStore gap s t r) where
    store_is : r.store ≡ pick (allowed gap) (opened (first_of gap s t)) no_store_meant
    store_is = ap (λ (x : Change). x.store) c.1 ∙ opened_is

    -- with an allowed gap it is good, and has that gap everywhere
    pub one_good : allowed gap ≡ true → (judged r.store ≡ gives kept) × (gap_at r.store ≡ (λ (odometer : ℕ). gap))
    one_good e =
        let is : r.store ≡ opened (first_of gap s t) = store_is ∙ ap (λ (b : Bool). pick b (opened (first_of gap s t)) no_store_meant) e in
        (ap judged is ∙ judged_so true e, ap gap_at is ∙ rule_so)

    pub nineteen : {A : Type 0} (Reading : Outcome A → Type 0) (rules : List (Rule (Outcome A))) (o : Outcome A)
        → Decided Reading (store_rules r.store rules) o → Decided Reading (row 19 (bad_gap gap) ∷ rules) o
    nineteen Reading rules o d =
        nineteen_of Reading rules o (subst (λ (x : Store). Decided Reading (store_rules x rules) o) (ap (λ (x : Change). x.store) c.1) d)

-- the program's gap
pub forty_so : (store : Store) → Forty store → (judged store ≡ gives kept) × (gap_at store ≡ (λ (odometer : ℕ). 40))
forty_so store f =
    let good = one_good 40 f.s f.t f.pair f.begun f.opened refl in
    (ap judged (sym f.is) ∙ good.0, ap gap_at (sym f.is) ∙ good.1)
