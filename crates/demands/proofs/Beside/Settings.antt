-- What is promised of settings that change on the way: every store that calls made is judged good,
-- and the laws of the definitions carry over.
-- Assumes nothing.
use Prim.Native.Nat.{ℕ, ◌≤◌}
use mathlib.Core.Path.{◌≡◌, refl, sym, ap, subst, subst⁻¹, ◌∙◌}
use lib.ListN.{length, length-set}
use borrow.Author.Tests.{ltb-false}
use Rattle.words.specs.Answer.{Outcome, gives, refuses}
use Rattle.settings.specs.declared.Version.{Version}
use Rattle.settings.specs.declared.Store.{Store}
use Rattle.settings.specs.declared.Held.{Held}
use Rattle.settings.specs.declared.Added.{Added}
use Rattle.settings.specs.declared.Bad.{Bad}
use Rattle.std.specs.Prelude.{Result, Ok, Err}
use Rattle.settings.specs.Versions.{highest, Kept, kept, settings_of}
use Rattle.settings.specs.Store.{no_version, no_store_meant, first_of, Change, opened, opened_if, begin, judged, with_one, may_add, added_if, add}
use Rattle.settings.specs.At.{ending, holds, asked}
use Rattle.settings.specs.Says.{says_verdict, says_asked}
use Rattle.settings.specs.Laws.{answer, InForce}
use Rattle.settings.proofs.Counts.{at_most, at_least}
use Rattle.settings.proofs.Holding.{held_given}
use Rattle.settings.proofs.Laws.{settings}
use Rattle.demands.specs.Stores.{AddVersion, AskAt}
use Rattle.demands.specs.Settings.{Made, SettingsKept}
use Rattle.words.proofs.Never.{cannot_be}

-- ---- every store that calls made is good, and has its 32 places

abbrev Sound : Store → Type 0
Sound store = (judged store ≡ gives kept) × (length store.versions ≡ 32)

opened_long : (v : Version) (o : Outcome Kept) → length (opened_if v o).store.versions ≡ 32
unfolding opened no_store_meant
opened_long v (gives k) = refl
opened_long v (refuses n) = refl

begun_long : (gap s t : ℕ) → length (begin gap s t).store.versions ≡ 32
unfolding begin
begun_long gap s t = opened_long (first_of gap s t) (settings_of gap s t)

with_one_long : (store : Store) (v : Version) → length store.versions ≡ 32 → length (with_one store v).versions ≡ 32
unfolding with_one
with_one_long store v long = length-set store.versions store.count v ∙ long

added_sound : (store : Store) (v : Version) (o : Outcome Kept) → may_add store v ≡ o → Sound store → Sound (add store v).store
unfolding add
added_sound store v (gives kept) e s =
    let same : add store v ≡ added_if store v (gives kept) = ap (added_if store v) e in (
      settings.added_good store v s.1 (ap (λ (c : Change). c.answer) same),
      ap (λ (c : Change). length c.store.versions) same ∙ with_one_long store v s.1,
    )
added_sound store v (refuses n) e s = subst⁻¹ Sound (ap (λ (o : Outcome Kept). (added_if store v o).store) e) s

sound : (store : Store) → Made store → Sound store
sound store (Made.opened gap s t r c done) =
    let is : r.store ≡ (begin gap s t).store = ap (λ (x : Change). x.store) c.1 in
    let good : (begin gap s t).answer ≡ gives kept = sym (ap (λ (x : Change). x.answer) c.1) ∙ done in
    subst⁻¹ Sound is (settings.opened_good gap s t good, begun_long gap s t)
sound store (Made.added old v r made c) =
    subst⁻¹ Sound (ap (λ (x : Change). x.store) c.1) (added_sound old v (may_add old v) refl (sound old made))

-- ---- what `at` answers

abbrev held_in : Outcome Held → Held
held_in (gives held) = held
held_in (refuses n) = holds no_version ending

given : (r : Result Held Bad) (held : Held) → says_asked r ≡ gives held → r ≡ Ok held
given (Ok h) held e = ap Ok (ap held_in e)
given (Err bad) held e = cannot_be cc

asks : (store : Store) (place : ℕ) (held : Held) → AskAt store place (Ok held) → asked store place ≡ gives held
asks store place held c = sym c.1

in_reach : (store : Store) (place : ℕ) (held : Held) → asked store place ≡ gives held → place ≤ highest
in_reach store place held e = ltb-false highest place (held_given store place held e).1

abbrev version_of : Outcome Version → Version
version_of (gives v) = v
version_of (refuses n) = no_version

took : (store : Store) (v : Version) (a : Added) → AddVersion store v a → says_verdict a.verdict ≡ gives kept
    → ((add store v).answer ≡ gives kept) × (a.store ≡ (add store v).store)
took store v a c done = (sym (ap (λ (x : Change). x.answer) c.1) ∙ done, ap (λ (x : Change). x.store) c.1)

pub settings_kept : SettingsKept
settings_kept = record {
  never_empty = λ store made. let s = sound store made in (at_least store s.0, at_most store s.0);
  any_place = λ store place r made low c.
      let s = sound store made in
      let g = settings.any_place store place s.0 low in
      (g.0, given r g.0 (c.1 ∙ g.1), settings.in_force_law store place g.0 s.1 g.1);
  from_there = λ store place held made c. settings.from_there store place held (asks store place held c);
  until_there = λ store place other held r made c low high d.
      given r held (d.1 ∙ settings.until_there store place other held (asks store place held c) low high);
  same_below = λ store v a place before after m low c d.
      let t = took store v a m.called m.taken in
      let then_asked : asked (add store v).store place ≡ gives after = ap (λ (x : Store). asked x place) (sym t.1) ∙ asks a.store place after d in
      ap version_of
      (sym (ap answer then_asked) ∙ settings.same_below store v place (sound store m.made).1 t.0 low ∙ ap answer (asks store place before c));
  new_from = λ store v a place after m low d.
      let t = took store v a m.called m.taken in
      let then_asked : asked (add store v).store place ≡ gives after = ap (λ (x : Store). asked x place) (sym t.1) ∙ asks a.store place after d in
      ap version_of
      (sym (ap answer then_asked) ∙ settings.new_from store v place (sound store m.made).1 t.0 low (in_reach a.store place after (asks a.store place after d)));
}
