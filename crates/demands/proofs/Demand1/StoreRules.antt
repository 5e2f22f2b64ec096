-- A lent store's judgement goes through its versions as its rules do: one test after the other.
-- Assumes nothing.
use Prim.Native.Nat.{ℕ, ◌%◌}
use mathlib.Core.Path.{◌≡◌, refl, sym, subst}
use mathlib.Core.Bool.{Bool, true, false, not}
use mathlib.Core.List.{List, [], ◌∷◌}
use lib.Dec.{eqb, leb, ltb}
use lib.ListN.{length, take}
use Rattle.words.specs.Answer.{Outcome, gives, refuses, then, pick}
use Rattle.telegram.specs.Sync.{Good, good, is_good, good_pair}
use Rattle.settings.specs.declared.Version.{Version}
use Rattle.settings.specs.declared.Store.{Store}
use Rattle.settings.specs.Versions.{allowed, highest, Kept, kept, settings_of, follows}
use Rattle.settings.specs.Store.{versions_of, all_follow, in_order_meant, judged}
use Rattle.demands.specs.Table.{not_seven, bad_length}
use Rattle.demands.specs.Table02.{too_high, not_above, starts_late, overfull}
use Rattle.demands.specs.Rules.{Rule, row, Decided}
use Rattle.demands.specs.Stores.{settings_rules, version_rules, later_rules, order_rules, store_rules}
use Rattle.demands.proofs.Common.Rules.{true_not_false, if_not}
use Rattle.demands.proofs.Common.Spelled.{bad_gap_law}

-- ---- one test after the other

module _ {A : Type 0} (Reading : Outcome A → Type 0) (rules : List (Rule (Outcome A))) where
  -- what follows where the test asks for a refusal, and where it asks for what goes on
  refuse_so : (n : ℕ) (o : Outcome Kept) (next : Kept → Outcome A) (b : Bool) → Decided Reading rules (then o next)
      → Decided Reading (row n b ∷ rules) (then (pick b (refuses n) o) next)
  refuse_so n o next true rest = (λ e. refl, λ e. absurd (true_not_false e))
  refuse_so n o next false rest = (λ e. absurd (true_not_false (sym e)), λ e. rest)

  refuse_not : (n : ℕ) (o : Outcome Kept) (next : Kept → Outcome A) (b : Bool) → Decided Reading rules (then o next)
      → Decided Reading (row n (not b) ∷ rules) (then (pick b o (refuses n)) next)
  refuse_not n o next true rest = (λ e. absurd (true_not_false (sym e)), λ e. rest)
  refuse_not n o next false rest = (λ e. refl, λ e. absurd (true_not_false e))

  pair_so : (next : Kept → Outcome A) (gap : ℕ) (b c : Bool) → Decided Reading rules (next kept)
      → Decided Reading (row 4 (not b) ∷ row 19 (not c) ∷ rules)
      (then (then (pick {A = Outcome Good} b (gives good) (refuses 4)) λ g. pick {A = Outcome Kept} c (gives kept) (refuses 19)) next)
  pair_so next gap true true rest = (λ e. absurd (true_not_false (sym e)), λ e. (λ f. absurd (true_not_false (sym f)), λ f. rest))
  pair_so next gap true false rest = (λ e. absurd (true_not_false (sym e)), λ e. (λ f. refl, λ f. absurd (true_not_false f)))
  pair_so next gap false c rest = (λ e. refl, λ e. absurd (true_not_false e))

  pub settings_so : (v : Version) (next : Kept → Outcome A) → Decided Reading rules (next kept)
      → Decided Reading (settings_rules v rules) (then (settings_of v.gap v.s v.t) next)
  unfolding settings_of good_pair not_seven is_good
  settings_so v next rest =
      subst (λ (b : Bool). Decided Reading (row 4 (not_seven v.s v.t) ∷ row 19 b ∷ rules) (then (settings_of v.gap v.s v.t) next)) (sym (bad_gap_law v.gap))
      (pair_so next v.gap (is_good v.s v.t) (allowed v.gap) rest)

-- ---- a version, some versions, a store

then_then : {A : Type 0} (o : Outcome Kept) (f : Kept → Outcome Kept) (g : Kept → Outcome A) → then (then o f) g ≡ then o (λ k. then (f k) g)
then_then (gives k) f g = refl
then_then (refuses n) f g = refl

pub version_so : {A : Type 0} (Reading : Outcome A → Type 0) (next : Kept → Outcome A) (rules : List (Rule (Outcome A))) (last : ℕ) (v : Version)
    → Decided Reading rules (next kept) → Decided Reading (version_rules last v rules) (then (follows last v) next)
unfolding follows too_high not_above
version_so Reading next rules last v rest =
    let place : Outcome Kept = pick {A = Outcome Kept} (ltb highest v.place) (refuses 18) (pick (leb v.place last) (refuses 24) (gives kept)) in
    subst (λ o. Decided Reading (version_rules last v rules) o) (sym (then_then (settings_of v.gap v.s v.t) (λ k. place) next))
    (settings_so Reading (row 18 (too_high v.place) ∷ row 24 (not_above last v.place) ∷ rules) v (λ k. then place next)
    (refuse_so Reading (row 24 (not_above last v.place) ∷ rules) 18 (pick (leb v.place last) (refuses 24) (gives kept)) next (ltb highest v.place)
    (refuse_so Reading rules 24 (gives kept) next (leb v.place last) rest)))

later_so : {A : Type 0} (Reading : Outcome A → Type 0) (next : Kept → Outcome A) (rules : List (Rule (Outcome A))) (last : ℕ) (vs : List Version)
    → Decided Reading rules (next kept) → Decided Reading (later_rules last vs rules) (then (all_follow last vs) next)
unfolding all_follow
later_so Reading next rules last [] rest = rest
later_so Reading next rules last (v ∷ vs) rest =
    subst (λ o. Decided Reading (version_rules last v (later_rules v.place vs rules)) o) (sym (then_then (follows last v) (λ k. all_follow v.place vs) next))
    (version_so Reading (λ k. then (all_follow v.place vs) next) (later_rules v.place vs rules) last v (later_so Reading next rules v.place vs rest))

order_so : {A : Type 0} (Reading : Outcome A → Type 0) (next : Kept → Outcome A) (rules : List (Rule (Outcome A))) (vs : List Version)
    → Decided Reading rules (next kept) → Decided Reading (order_rules vs rules) (then (in_order_meant vs) next)
unfolding in_order_meant starts_late
order_so Reading next rules [] rest = (λ e. refl, λ e. absurd (true_not_false e))
order_so Reading next rules (v ∷ vs) rest =
    refuse_not Reading (settings_rules v (later_rules 0 vs rules)) 24 (then (settings_of v.gap v.s v.t) λ k. all_follow 0 vs) next (eqb v.place 0)
    (subst (λ o. Decided Reading (settings_rules v (later_rules 0 vs rules)) o) (sym (then_then (settings_of v.gap v.s v.t) (λ k. all_follow 0 vs) next))
    (settings_so Reading (later_rules 0 vs rules) v (λ k. then (all_follow 0 vs) next) (later_so Reading next rules 0 vs rest)))

-- A lent store is judged first.
pub store_so : {A : Type 0} (Reading : Outcome A → Type 0) (next : Kept → Outcome A) (rules : List (Rule (Outcome A))) (store : Store)
    → Decided Reading rules (next kept) → Decided Reading (store_rules store rules) (then (judged store) next)
unfolding judged versions_of overfull
store_so Reading next rules store rest =
    refuse_so Reading (order_rules (take store.count store.versions) rules) 25 (in_order_meant (take store.count store.versions)) next (ltb 32 store.count)
    (order_so Reading next rules (take store.count store.versions) rest)

-- A function under a store that asks of its bytes only that they are records: the store's own
-- refusal, then 16.
pub records_so : {A : Type 0} (Reading : Outcome A → Type 0) (store : Store) (bytes : List ℕ) (made : Outcome A) → Reading made
    → Decided Reading (store_rules store (row 16 (bad_length bytes) ∷ [])) (then (judged store) (λ k. pick (eqb (length bytes % 8) 0) made (refuses 16)))
unfolding bad_length
records_so Reading store bytes made g =
    store_so Reading (λ k. pick (eqb (length bytes % 8) 0) made (refuses 16)) (row 16 (bad_length bytes) ∷ []) store
    (if_not Reading [] (refuses 16) made g (eqb (length bytes % 8) 0))
