-- What an accepted group says is what document 01's rules give for its balises: the judgement,
-- taken apart.
-- Assumes nothing.
use mathlib.Core.Path.{◌≡◌, refl, subst}
use mathlib.Core.Logic.{◌⊎◌, inl, inr}
use mathlib.Core.Bool.{Bool, true, false}
use mathlib.Core.List.{List}
use Prim.Native.Nat.{ℕ}
use lib.Dec.{eqb, ltb}
use Rattle.words.specs.Answer.{Outcome, gives, refuses, pick}
use Rattle.group.specs.Balise.{balises, then, read_all}
use Rattle.group_rows.specs.Row.{Y, Z, Fit, misfit, fit}
use Rattle.group_rows.specs.Rows.{present, opposite, fit_in}
use Rattle.group.specs.Distance.{is_preset}
use Rattle.group.specs.Speed.{signal_speed, target_figure}
use Rattle.group_rows.specs.Fitting.{route_speed, fitting}
use Rattle.group.specs.declared.Content.{Content}
use Rattle.group.specs.declared.Message.{Message}
use Rattle.group.specs.Numbers.{number_of}
use Rattle.group.specs.Judge.{y_of, z_of, B, P, distance_of, signal_distance, message_of, judge_as, judge_read, judge}
use Rattle.group_rows.specs.declared.Direction.{Direction}
use Rattle.group.specs.declared.Group.{Group}
use Rattle.group_rows.specs.declared.Kind.{Kind}
use Rattle.group_rows.specs.declared.Placed.{Placed}
use Rattle.demands.specs.Table.{list_of, parts_of}
use Rattle.demands.proofs.Common.Rules.{never}
use Rattle.demands.proofs.Common.Fits.{said, decide}
use Rattle.words.proofs.Never.{cannot_be}

-- A message that says no more than its kind.
abbrev pub Other : Message → Type 0
Other m = (m.direction ≡ Direction.Opposite) ⊎ ((m.kind ≡ Kind.Annulled) ⊎ (m.kind ≡ Kind.Line))

-- It is no present signal.
pub not_signal : (m : Message) → Other m → m.direction ≡ Direction.Present → m.kind ≡ Kind.Signal → ⊥
not_signal m (inl o) d k = cannot_be cc
not_signal m (inr (inl o)) d k = cannot_be cc
not_signal m (inr (inr o)) d k = cannot_be cc

-- The content of a message of these balises, by its direction and kind.
pub data View (bs : List Placed) (m : Message) : Type 0 where
  signal : m.direction ≡ Direction.Present → m.kind ≡ Kind.Signal → (d : ℕ) → signal_distance m.az bs ≡ gives d
      → m.content ≡ Content.Signal d (is_preset (y_of (B bs))) (signal_speed m.ay) (signal_speed (target_figure m.ay m.az (y_of (P bs)) (z_of (P bs))))
      → View bs m
  warning : m.direction ≡ Direction.Present → m.kind ≡ Kind.Warning → (d : ℕ) → distance_of bs ≡ gives d → m.content ≡ Content.Warning d → View bs m
  route : m.direction ≡ Direction.Present → m.kind ≡ Kind.Route → m.content ≡ Content.Route (route_speed m.ay m.az) → View bs m
  plain : Other m → m.content ≡ Content.Nothing → View bs m

-- what goes on from a distance
on_distance : (o : Outcome ℕ) (f : ℕ → Content) (g : Content → Message) (m : Message)
    → then (then o (λ d. gives (f d))) (λ c. gives (g c)) ≡ gives m → (d : ℕ) × (o ≡ gives d) × (g (f d) ≡ m)
on_distance (gives d) f g m e = (d, refl, cc)
on_distance (refuses n) f g m e = absurd (never n e)

present_view : (kind : Kind) (a : Placed) (bs : List Placed) (m : Message) → judge_as Direction.Present (said Direction.Present kind a) bs ≡ gives m → View bs m
present_view Kind.Signal a bs m e =
    let r = on_distance (signal_distance (Z a.part) bs)
    (λ d. Content.Signal d (is_preset (y_of (B bs))) (signal_speed (Y a.part)) (signal_speed (target_figure (Y a.part) (Z a.part) (y_of (P bs)) (z_of (P bs)))))
    (message_of (said Direction.Present Kind.Signal a) (number_of bs)) m e in
    subst (View bs) r.2 (signal refl refl r.0 r.1 refl)
present_view Kind.Warning a bs m e =
    let r = on_distance (distance_of bs) Content.Warning (message_of (said Direction.Present Kind.Warning a) (number_of bs)) m e in
    subst (View bs) r.2 (warning refl refl r.0 r.1 refl)
present_view Kind.Annulled a bs m e =
    let is : message_of (said Direction.Present Kind.Annulled a) (number_of bs) Content.Nothing ≡ m = cc in
    subst (View bs) is (plain (inr (inl refl)) refl)
present_view Kind.Line a bs m e =
    let is : message_of (said Direction.Present Kind.Line a) (number_of bs) Content.Nothing ≡ m = cc in
    subst (View bs) is (plain (inr (inr refl)) refl)
present_view Kind.Route a bs m e =
    let is : message_of (said Direction.Present Kind.Route a) (number_of bs) (Content.Route (route_speed (Y a.part) (Z a.part))) ≡ m = cc in
    subst (View bs) is (route refl refl refl)

decided_view : (p o : Fit) (bs : List Placed) (m : Message) → decide p o bs ≡ gives m → View bs m
decided_view misfit misfit bs m e = absurd (never 13 e)
decided_view misfit (fit k a) bs m e =
    let is : message_of (said Direction.Opposite k a) (number_of bs) Content.Nothing ≡ m = cc in
    subst (View bs) is (plain (inl refl) refl)
decided_view (fit k a) o bs m e = present_view k a bs m e

-- What holds of the message of all balises that are accepted holds of the message of every accepted
-- group.
pub of_group : (Q : List Placed → Message → Type 0) → ((bs : List Placed) (m : Message) → judge_read bs ≡ gives m → Q bs m)
    → (g : Group) (m : Message) → judge g ≡ gives m → Q (parts_of g) m
unfolding judge parts_of
of_group Q accepted g m e = go (eqb g.count 1) (ltb 5 g.count) (read_all (balises g)) e
  where
    go : (t u : Bool) (o : Outcome (List Placed)) → pick t (refuses 10) (pick u (refuses 11) (then o judge_read)) ≡ gives m → Q (list_of o) m
    go true u o q = absurd (never 10 q)
    go false true o q = absurd (never 11 q)
    go false false (refuses n) q = absurd (never n q)
    go false false (gives bs) q = accepted bs m q

-- The message of an accepted group.
pub view : (g : Group) (m : Message) → judge g ≡ gives m → View (parts_of g) m
unfolding judge_read fitting
view = of_group View (λ bs m e. decided_view (fit_in present bs) (fit_in opposite bs) bs m e)
