-- The judgement of a group refuses as document 01's table says.
-- Assumes nothing.
use mathlib.Core.Path.{◌≡◌, refl, sym, ◌∙◌, subst}
use mathlib.Core.Bool.{Bool, true, false, ◌&&◌, ◌||◌}
use mathlib.Core.List.{List, [], ◌∷◌}
use Prim.Native.Nat.{ℕ}
use lib.Dec.{ltb}
use Rattle.words.specs.Answer.{Outcome, gives, refuses, pick}
use Rattle.group.specs.Balise.{balises, then, read_all}
use Rattle.group_rows.specs.Row.{Y, Z, Fit, misfit, fit}
use Rattle.group_rows.specs.Rows.{present, opposite, fit_in}
use Rattle.group.specs.Distance.{is_preset, no_increase}
use Rattle.group.specs.Speed.{signal_speed, target_figure}
use Rattle.group.specs.declared.Content.{Content}
use Rattle.group.specs.Numbers.{number_of}
use Rattle.group.specs.Judge.{y_of, z_of, B, P, C, distance_of, signal_distance, content_of, message_of, judge_read, judge}
use Rattle.group_rows.specs.declared.Direction.{Direction}
use Rattle.group.specs.declared.Group.{Group}
use Rattle.group_rows.specs.declared.Kind.{Kind}
use Rattle.group_rows.specs.declared.Placed.{Placed}
use Rattle.demands.specs.Rules.{row, Decided, Given}
use Rattle.demands.specs.Table.{one_balise, more_than_five, unread, list_of, parts_of, is_misfit, no_row, judged_kind, is_judged, preset_barred, not_allowed, no_link}
use Rattle.demands.specs.Lists.{group_rules}
use Rattle.group_rows.specs.Fitting.{speed_of, as_or, fitting}
use Rattle.demands.proofs.Common.Fits.{said, decide}
use Rattle.demands.proofs.Common.Rules.{true_not_false, if_so}
use Rattle.demands.proofs.Demand1.Answers.{is_refusal, Only, only_pick, lone}
use Rattle.demands.proofs.Demand1.Distances.{link_fifteen, link_refused}
use Rattle.demands.proofs.Demand1.Balises.{Read, bad, all, read_is}

-- what goes on from an answer is refused as the answer is
only_then : {A B : Type 0} (k : ℕ) (o : Outcome A) (f : A → B) → Only k o → Only k (then o (λ x. gives (f x)))
unfolding Only
only_then k (gives x) f only = tt
only_then k (refuses n) f only = only

refusal_then : {A B : Type 0} (o : Outcome A) (f : A → B) → is_refusal (then o (λ x. gives (f x))) ≡ is_refusal o
refusal_then (gives x) f = refl
refusal_then (refuses n) f = refl

distance_of_fifteen : (bs : List Placed) → Only 15 (distance_of bs)
unfolding distance_of
distance_of_fifteen bs = link_fifteen (y_of (B bs)) (z_of (B bs)) (C bs)

distance_of_refused : (bs : List Placed) → is_refusal (distance_of bs) ≡ no_link (y_of (B bs)) (z_of (B bs)) (C bs)
unfolding distance_of
distance_of_refused bs = link_refused (y_of (B bs)) (z_of (B bs)) (C bs)

-- so can a present signal's, which is refused too if it is a preset point that cannot be
signal_fifteen : (az : ℕ) (bs : List Placed) → Only 15 (signal_distance az bs)
unfolding Only signal_distance
signal_fifteen az bs = only_pick 15 (is_preset (y_of (B bs)) && no_increase az) (refuses 15) (distance_of bs) refl (distance_of_fifteen bs)

signal_refused : (az : ℕ) (bs : List Placed) → is_refusal (signal_distance az bs) ≡ ((is_preset (y_of (B bs)) && no_increase az) || is_refusal (distance_of bs))
unfolding signal_distance
signal_refused az bs = go (is_preset (y_of (B bs)) && no_increase az)
  where
    go : (t : Bool) → is_refusal (pick t (refuses 15) (distance_of bs)) ≡ (t || is_refusal (distance_of bs))
    go true = refl
    go false = refl

-- what a group of the present direction says can only be refused with 15, and is if its distance is
-- judged and not allowed
content_fifteen : (kind : Kind) (v ay az : ℕ) (bs : List Placed) → Only 15 (content_of kind v ay az bs)
unfolding Only
content_fifteen Kind.Signal v ay az bs =
    only_then 15 (signal_distance az bs) (λ d. Content.Signal d (is_preset (y_of (B bs))) (signal_speed ay) (signal_speed (target_figure ay az (y_of (P bs)) (z_of (P bs)))))
    (signal_fifteen az bs)
content_fifteen Kind.Warning v ay az bs = only_then 15 (distance_of bs) Content.Warning (distance_of_fifteen bs)
content_fifteen Kind.Annulled v ay az bs = tt
content_fifteen Kind.Line v ay az bs = tt
content_fifteen Kind.Route v ay az bs = tt

content_refused : (kind : Kind) (v : ℕ) (a : Placed) (bs : List Placed)
    → is_refusal (content_of kind v (Y a.part) (Z a.part) bs)
    ≡ (preset_barred (fit kind a) (y_of (B bs)) || (judged_kind kind && is_refusal (distance_of bs)))
content_refused Kind.Signal v a bs =
    let ay = Y a.part in
    let az = Z a.part in
    refusal_then (signal_distance az bs) (λ d. Content.Signal d (is_preset (y_of (B bs))) (signal_speed ay) (signal_speed (target_figure ay az (y_of (P bs)) (z_of (P bs)))))
    ∙ signal_refused az bs
content_refused Kind.Warning v a bs = refusal_then (distance_of bs) Content.Warning
content_refused Kind.Annulled v a bs = refl
content_refused Kind.Line v a bs = refl
content_refused Kind.Route v a bs = refl

-- 13 and 15, from how the balises fit the rows of each direction
decided : (p o : Fit) (bs : List Placed)
    → Decided Given (row 13 (is_misfit p && is_misfit o) ∷ row 15 (preset_barred p (y_of (B bs)) || (is_judged p && is_refusal (distance_of bs))) ∷ []) (decide p o bs)
decided misfit misfit bs = (λ q. refl, λ q. absurd (true_not_false q))
decided misfit (fit k a) bs = (
  λ q. absurd (true_not_false (sym q)),
  λ q. (λ t. absurd (true_not_false (sym t)), λ t. (message_of (said Direction.Opposite k a) (number_of bs) Content.Nothing, refl)),
)
decided (fit k a) o bs = (
  λ q. absurd (true_not_false (sym q)),
  λ q. lone 15 (preset_barred (fit k a) (y_of (B bs)) || (judged_kind k && is_refusal (distance_of bs))) (decide (fit k a) o bs)
      (only_then 15 (content_of k (speed_of k a) (Y a.part) (Z a.part) bs) (message_of (said Direction.Present k a) (number_of bs)) (content_fifteen k (speed_of k a) (Y a.part) (Z a.part) bs))
      (refusal_then (content_of k (speed_of k a) (Y a.part) (Z a.part) bs) (message_of (said Direction.Present k a) (number_of bs))
      ∙ content_refused k (speed_of k a) a bs),
)

-- 13 alone, for the row that balises fit
pub fitting_to : (bs : List Placed) → Decided Given (row 13 (no_row bs) ∷ []) (fitting bs)
unfolding fitting no_row
fitting_to bs = go (fit_in present bs) (fit_in opposite bs)
  where
    go : (p o : Fit) → Decided Given (row 13 (is_misfit p && is_misfit o) ∷ []) (as_or Direction.Present p (as_or Direction.Opposite o (refuses 13)))
    go misfit misfit = (λ q. refl, λ q. absurd (true_not_false q))
    go misfit (fit k a) = (λ q. absurd (true_not_false (sym q)), λ q. (said Direction.Opposite k a, refl))
    go (fit k a) o = (λ q. absurd (true_not_false (sym q)), λ q. (said Direction.Present k a, refl))

-- 12 to 15, from whether a balise is not read
from_twelve : (u : Bool) (o : Outcome (List Placed)) → Read u o
    → Decided Given (row 12 u ∷ row 13 (no_row (list_of o)) ∷ row 15 (not_allowed (list_of o)) ∷ []) (then o judge_read)
unfolding judge_read fitting no_row not_allowed
from_twelve u o bad = (λ q. refl, λ q. absurd (true_not_false q))
from_twelve u o (all ps) = (
  λ q. absurd (true_not_false (sym q)),
  λ q. subst (λ (t : Bool). Decided Given (row 13 (no_row ps) ∷ row 15 (preset_barred (fit_in present ps) (y_of (B ps)) || (is_judged (fit_in present ps) && t)) ∷ []) (judge_read ps))
      (distance_of_refused ps) (decided (fit_in present ps) (fit_in opposite ps) ps),
)

-- The judgement of a group: 10, 11, 12, 13, 15.
pub grouping : (g : Group) → Decided Given (group_rules g) (judge g)
unfolding judge unread parts_of
grouping g =
    let ps = parts_of g in
    let twelve = row 12 (unread g) ∷ row 13 (no_row ps) ∷ row 15 (not_allowed ps) ∷ [] in
    let o = then (read_all (balises g)) judge_read in
    if_so Given (row 11 (more_than_five g) ∷ twelve) (refuses 10) (pick (ltb 5 g.count) (refuses 11) o)
    (if_so Given twelve (refuses 11) o (from_twelve (unread g) (read_all (balises g)) (read_is (balises g))) (more_than_five g)) (one_balise g)
