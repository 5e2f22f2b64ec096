-- The listing of a lead judges the store first; where that refuses, nothing is taken and nothing is
-- written.
-- Assumes nothing.
use Prim.Native.Nat.{ℕ}
use mathlib.Core.Path.{◌≡◌, refl, sym, ap, subst, ◌∙◌}
use mathlib.Core.List.{List, []}
use lib.ListN.{length, take, drop}
use Rattle.words.specs.Answer.{Outcome, gives, refuses, then}
use Rattle.words.proofs.Told.{told as once}
use Rattle.words.proofs.Never.{cannot_be}
use Rattle.settings.specs.declared.Store.{Store}
use Rattle.settings.specs.Versions.{Kept}
use Rattle.settings.specs.Store.{judged}
use Rattle.ride_text.specs.Style.{with_reasons}
use Rattle.ride_text.specs.Told.{tell_over}
use Rattle.ride_text.specs.List.{taken}
use Rattle.lead_text.specs.declared.Underway.{Underway}
use Rattle.lead_text.specs.Places.{Place}
use Rattle.lead_text.specs.List.{Wrote, Telling, none_left_meant, list_of, of_frames, of_end, judged_first, list_frames, list_end}
use Rattle.lead_text.specs.Says.{says_how_far}
use Rattle.lead_text.proofs.Determined.{how_of, how_back}
use Rattle.demands.specs.Rules.{Decided, Given}
use Rattle.demands.specs.Stores.{store_rules}
use Rattle.demands.proofs.Demand1.StoreRules.{store_so}
use Rattle.lead_text_laws.specs.Demand1.{LinesDecided}

-- A listing always writes something, if only nothing.
list_given : (gaps : ℕ → ℕ) (u : Underway) (rs : List (List ℕ)) (last : Place) (up_to : ℕ → Place) (out : List ℕ) → Given {R = ℕ} (list_of gaps u rs last up_to out).answer
unfolding list_of
list_given gaps u rs last up_to out =
    let n : ℕ = taken with_reasons gaps u.ride u.number (length out) rs in
    (record { bytes = length (tell_over with_reasons gaps u.ride u.number (take n rs)).text; all = none_left_meant (drop n rs) }, refl)

module _ (u : Underway) (out : List ℕ) (listing : Telling) (given : Given {R = ℕ} listing.answer) where
  judged_then : (o : Outcome Kept) → then o (λ k. listing.answer) ≡ (judged_first u out o listing).answer
  judged_then (gives k) = refl
  judged_then (refuses n) = refl

  judged_so : (store : Store) → Decided Given (store_rules store []) (judged_first u out (judged store) listing).answer
  judged_so store =
      subst (λ (o : Outcome Wrote). Decided Given (store_rules store []) o) (judged_then (judged store)) (store_so Given (λ k. listing.answer) [] store given)

  judged_left : (o : Outcome Kept) (n : ℕ) → (judged_first u out o listing).answer ≡ refuses n
      → ((judged_first u out o listing).underway ≡ u) × ((judged_first u out o listing).out ≡ out)
  judged_left (gives k) n e = let g = given.1 in cannot_be cc
  judged_left (refuses m) n e = (refl, refl)

frames_so : (u : Underway) (store : Store) (frames out : List ℕ)
    → Decided Given (store_rules store []) (list_frames u store frames out).answer
    × ((n : ℕ) → (list_frames u store frames out).answer ≡ refuses n → ((list_frames u store frames out).underway ≡ u) × ((list_frames u store frames out).out ≡ out))
unfolding list_frames
frames_so u store frames out =
    let g = list_given _ u _ _ _ out in
    (judged_so u out (of_frames store u frames out) g store, judged_left u out (of_frames store u frames out) g (judged store))

end_so : (u : Underway) (store : Store) (out : List ℕ)
    → Decided Given (store_rules store []) (list_end u store out).answer
    × ((n : ℕ) → (list_end u store out).answer ≡ refuses n → ((list_end u store out).underway ≡ u) × ((list_end u store out).out ≡ out))
unfolding list_end
end_so u store out =
    let g = list_given _ u _ _ _ out in
    (judged_so u out (of_end store u out) g store, judged_left u out (of_end store u out) g (judged store))

pub lines_decided : LinesDecided
lines_decided = record {
  list_frames_law = λ u store piece before r after c.
      let is = c.7 ∙ ap (list_frames u store _) c.5 ∙ ap (λ (f : List ℕ). list_frames u store f before) c.4 in
      let e = ap (λ (t : Telling). t.answer) is in
      rw e (frames_so u store piece before).0;
  list_end_law = λ u store before r after c.
      let is = c.5 ∙ ap (list_end u store) c.3 in
      let e = ap (λ (t : Telling). t.answer) is in
      rw e (end_so u store before).0;
  frames_untouched = λ u store piece before r after n c e.
      let is = c.7 ∙ ap (list_frames u store _) c.5 ∙ ap (λ (f : List ℕ). list_frames u store f before) c.4 in
      let kept = (frames_so u store piece before).1 n (sym (ap (λ (t : Telling). t.answer) is) ∙ e) in
      (ap (λ (t : Telling). t.underway) is ∙ kept.0, sym c.6 ∙ ap (λ (t : Telling). t.out) is ∙ kept.1);
  end_untouched = λ u store before r after n c e.
      let is = c.5 ∙ ap (list_end u store) c.3 in
      let kept = (end_so u store before).1 n (sym (ap (λ (t : Telling). t.answer) is) ∙ e) in
      (ap (λ (t : Telling). t.underway) is ∙ kept.0, sym c.4 ∙ ap (λ (t : Telling). t.out) is ∙ kept.1);
  how = λ n r r' p q. once says_how_far how_of how_back r r' p q;
}
