-- Demand 1 holds of the functions that make a store or ask one: each judges the store first.
-- Assumes nothing.
use Prim.Native.Nat.{ℕ}
use mathlib.Core.Path.{◌≡◌, refl, sym, ap, subst, ◌∙◌}
use mathlib.Core.Bool.{Bool, true, false}
use mathlib.Core.List.{List, [], ◌∷◌}
use lib.Dec.{ltb}
use Rattle.words.specs.Answer.{Outcome, gives, refuses, then, pick}
use Rattle.settings.specs.declared.Version.{Version}
use Rattle.settings.specs.declared.Store.{Store}
use Rattle.settings.specs.declared.Held.{Held}
use Rattle.settings.specs.Versions.{highest, Kept, kept, settings_of, follows}
use Rattle.settings.specs.Store.{no_store_meant, first_of, Change, opened_if, begin, judged, last_place, may_add, added_if, add}
use Rattle.settings.specs.At.{held_at, asked}
use Rattle.contact.specs.Judge.{Contact, judge as judged_contact}
use Rattle.contact.specs.Under.{judge_under}
use Rattle.demands.specs.Table02.{too_high, full}
use Rattle.demands.specs.Rules.{row, Decided, Is}
use Rattle.demands.specs.Lists.{judge_rules, JudgeReads}
use Rattle.demands.specs.Stores.{settings_rules, version_rules, store_rules, StoresDecided, StoresUntouched}
use Rattle.demands.proofs.Common.Rules.{if_so, if_not}
use Rattle.demands.proofs.Demand1.Contacts.{judging}
use Rattle.demands.proofs.Demand1.Rides.{gives_not}
use Rattle.demands.proofs.Demand1.StoreRules.{settings_so, version_so, store_so}

-- ---- each function

-- A judgement after which nothing more is judged stays.
pub no_more : (o : Outcome Kept) → then o (λ k. gives kept) ≡ o
no_more (gives kept) = refl
no_more (refuses n) = refl

pub begin_so : (gap s t : ℕ) → Decided (Is kept) (settings_rules (first_of gap s t) []) (settings_of gap s t)
begin_so gap s t =
    subst (λ (o : Outcome Kept). Decided (Is kept) (settings_rules (first_of gap s t) []) o) (no_more (settings_of gap s t))
    (settings_so (Is kept) [] (first_of gap s t) (λ k. gives kept) refl)

pub add_so : (store : Store) (v : Version) → Decided (Is kept) (store_rules store (version_rules (last_place store) v (row 25 (full store.count) ∷ []))) (may_add store v)
unfolding may_add full
add_so store v =
    store_so (Is kept) (λ k. then (follows (last_place store) v) λ j. pick (ltb store.count 32) (gives kept) (refuses 25))
    (version_rules (last_place store) v (row 25 (full store.count) ∷ [])) store
    (version_so (Is kept) (λ j. pick (ltb store.count 32) (gives kept) (refuses 25)) (row 25 (full store.count) ∷ []) (last_place store) v
    (if_not (Is kept) [] (refuses 25) (gives kept) refl (ltb store.count 32)))

at_so : (store : Store) (place : ℕ) → Decided (Is (held_at store place)) (store_rules store (row 18 (too_high place) ∷ [])) (asked store place)
unfolding asked too_high
at_so store place =
    store_so (Is (held_at store place)) (λ k. pick (ltb highest place) (refuses 18) (gives (held_at store place))) (row 18 (too_high place) ∷ []) store
    (if_so (Is (held_at store place)) [] (refuses 18) (gives (held_at store place)) refl (ltb highest place))

asked_then : (o : Outcome Kept) (b : Bool) (h : Held) (f : Held → Outcome Contact)
    → then (then o λ k. pick {A = Outcome Held} b (refuses 18) (gives h)) f ≡ then o (λ k. pick {A = Outcome Contact} b (refuses 18) (f h))
asked_then (gives k) true h f = refl
asked_then (gives k) false h f = refl
asked_then (refuses n) b h f = refl

judge_so : (store : Store) (odometer : ℕ) (b : List ℕ) (start len : ℕ)
    → Decided (JudgeReads b start len (held_at store odometer).s (held_at store odometer).t)
    (store_rules store (row 18 (too_high odometer) ∷ judge_rules b start len (held_at store odometer).s (held_at store odometer).t))
    (judge_under store odometer b start len)
unfolding judge_under asked too_high
judge_so store odometer b start len =
    let h : Held = held_at store odometer in
    let read : Held → Outcome Contact = λ held. judged_contact b start len held.s held.t in
    subst
    (λ (o : Outcome Contact). Decided (JudgeReads b start len h.s h.t) (store_rules store (row 18 (too_high odometer) ∷ judge_rules b start len h.s h.t)) o)
    (sym (asked_then (judged store) (ltb highest odometer) h read))
    (store_so (JudgeReads b start len h.s h.t) (λ k. pick (ltb highest odometer) (refuses 18) (read h)) (row 18 (too_high odometer) ∷ judge_rules b start len h.s h.t) store
    (if_so (JudgeReads b start len h.s h.t) (judge_rules b start len h.s h.t) (refuses 18) (read h) (judging b start len h.s h.t) (ltb highest odometer)))

pub opened_answer : (v : Version) (o : Outcome Kept) → (opened_if v o).answer ≡ o
opened_answer v (gives k) = refl
opened_answer v (refuses n) = refl

pub added_answer : (store : Store) (v : Version) (o : Outcome Kept) → (added_if store v o).answer ≡ o
added_answer store v (gives k) = refl
added_answer store v (refuses n) = refl

pub stores_decided : StoresDecided
unfolding begin add
stores_decided = record {
  begin = λ gap s t r c.
      let e = ap (λ (x : Change). x.answer) c.1 ∙ opened_answer (first_of gap s t) (settings_of gap s t) in
      rw e (begin_so gap s t);
  add = λ store v r c.
      let e = ap (λ (x : Change). x.answer) c.1 ∙ added_answer store v (may_add store v) in
      rw e (add_so store v);
  at = λ store place r c. rw c.1 (at_so store place);
  judge_under_law = λ store odometer b start len r c.
      let e = c.4 ∙ ap (λ (x : List ℕ). judge_under store odometer x start len) c.3 in
      rw e (judge_so store odometer b start len);
}

-- ---- what a refusal leaves

opened_none : (v : Version) (o : Outcome Kept) (n : ℕ) → (opened_if v o).answer ≡ refuses n → (opened_if v o).store ≡ no_store_meant
opened_none v (gives k) n e = absurd (gives_not e)
opened_none v (refuses m) n e = refl

added_none : (store : Store) (v : Version) (o : Outcome Kept) (n : ℕ) → (added_if store v o).answer ≡ refuses n → (added_if store v o).store ≡ store
added_none store v (gives k) n e = absurd (gives_not e)
added_none store v (refuses m) n e = refl

pub stores_untouched : StoresUntouched
unfolding begin add
stores_untouched = record {
  begin = λ gap s t r n c e.
      ap (λ (x : Change). x.store) c.1 ∙ opened_none (first_of gap s t) (settings_of gap s t) n (sym (ap (λ (x : Change). x.answer) c.1) ∙ e);
  add = λ store v r n c e.
      ap (λ (x : Change). x.store) c.1 ∙ added_none store v (may_add store v) n (sym (ap (λ (x : Change). x.answer) c.1) ∙ e);
}
