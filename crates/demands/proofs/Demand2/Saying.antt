-- What accepted groups say is what document 01's tables and sentences give for their balises.
-- Assumes nothing.
use Prim.Native.Nat.{ℕ, ◌-◌}
use mathlib.Core.Path.{◌≡◌, refl, sym, ap, ◌∙◌}
use mathlib.Core.Bool.{Bool, true, false, ◌&&◌}
use mathlib.Core.List.{List}
use lib.Dec.{eqb, ltb}
use Rattle.std.specs.Prelude.{Ok}
use Rattle.words.specs.Answer.{Outcome, gives, refuses, pick}
use Rattle.words.proofs.Told.{told}
use Rattle.group.specs.Balise.{balises, then, read_all}
use Rattle.group.specs.Distance.{is_preset, no_increase}
use Rattle.group.specs.Speed.{signal_speed, target_figure}
use Rattle.group_rows.specs.Fitting.{route_speed}
use Rattle.group_rows.proofs.OneWay.{one_way}
use Rattle.group.specs.Judge.{y_of, z_of, B, C, P, distance_of, signal_distance, judge_read, judge}
use Rattle.group.specs.Says.{says_measured}
use Rattle.group.specs.declared.Content.{Content}
use Rattle.group.specs.declared.Group.{Group}
use Rattle.group.specs.declared.Message.{Message}
use Rattle.group_rows.specs.declared.Placed.{Placed}
use Rattle.group.specs.declared.Told.{Told}
use Rattle.group.proofs.Determined as group_is
use Rattle.group.proofs.Entries.{speed_in, speed_out}
use Rattle.demands.specs.Table.{some_unread, unread, list_of, parts_of}
use Rattle.demands.specs.Said.{Announces, Speeds}
use Rattle.demands.specs.Demand2.{Groups}
use Rattle.demands.proofs.Common.Rules.{true_not_false, never}
use Rattle.demands.proofs.Demand1.Balises.{Read, bad, all, read_is}
use Rattle.demands.proofs.Demand2.Prefix.{target_prefixed, target_not}
use Rattle.demands.proofs.Demand2.Numbering.{has_number}
use Rattle.demands.proofs.Demand2.Messages.{View, signal, warning, route, plain, view}
use Rattle.demands.proofs.Demand2.Entered.{entry, preset_range, linked}
use Rattle.demands.proofs.Demand2.CalledA.{has_a}
use Rattle.demands.proofs.Demand2.RoutePresent.{route_present}
use Rattle.demands.proofs.Demand2.Contents.{content_so}
use Rattle.words.proofs.Never.{cannot_be}

-- Two to five balises that were all read are judged by the rows.
rows_judge : (g : Group) → eqb g.count 1 ≡ false → ltb 5 g.count ≡ false → unread g ≡ false → judge g ≡ judge_read (parts_of g)
unfolding judge unread parts_of
rows_judge g one five u =
    ap (λ (t : Bool). pick t (refuses 10) (pick (ltb 5 g.count) (refuses 11) (then (read_all (balises g)) judge_read))) one
    ∙ ap (λ (t : Bool). pick t (refuses 11) (then (read_all (balises g)) judge_read)) five ∙ go (some_unread (balises g)) (read_all (balises g)) (read_is (balises g)) u
  where
    go : (t : Bool) (o : Outcome (List _)) → Read t o → t ≡ false → then o judge_read ≡ judge_read (list_of o)
    go t o bad e = absurd (true_not_false e)
    go t o (all ps) e = refl

-- ---- distances

announces : (bs : List Placed) (d : ℕ) → distance_of bs ≡ gives d → Announces bs d
unfolding distance_of
announces bs d e q c = told says_measured group_is.measured group_is.measured_back q (Ok d) c.1 (sym (linked (y_of (B bs)) (z_of (B bs)) d (C bs) e))

-- a distance that is given is table DF's, and no preset point's that cannot be
given : (az : ℕ) (bs : List Placed) (d : ℕ) → signal_distance az bs ≡ gives d → (is_preset (y_of (B bs)) && no_increase az ≡ false) × (distance_of bs ≡ gives d)
unfolding signal_distance
given az bs d e = go (is_preset (y_of (B bs)) && no_increase az) e
  where
    go : (t : Bool) → pick t (refuses 15) (distance_of bs) ≡ gives d → (t ≡ false) × (distance_of bs ≡ gives d)
    go true q = absurd (never 15 q)
    go false q = (refl, q)

-- ---- speeds

nought : signal_speed 0 ≡ Told.Kmh 0
unfolding signal_speed
nought = refl

speeds_so : (bs : List Placed) (m : Message) (main target : Told) → main ≡ signal_speed m.ay
    → target ≡ signal_speed (target_figure m.ay m.az (y_of (P bs)) (z_of (P bs))) → Speeds bs m main target
speeds_so bs m main target a z =
    record {
      main_is = λ v c. a ∙ sym c.1;
      target_0 = λ p. z ∙ ap signal_speed (target_prefixed m.ay m.az (y_of (P bs)) (z_of (P bs)) p) ∙ nought;
      target_is = λ other v c. z ∙ ap signal_speed (target_not m.ay m.az (y_of (P bs)) (z_of (P bs)) other) ∙ sym c.1;
    }

-- ---- what groups say

signal_so : (bs : List Placed) (m : Message) (d : ℕ) (preset : Bool) (main target : Told) → m.content ≡ Content.Signal d preset main target
    → View bs m → Announces bs d × (preset ≡ is_preset (y_of (B bs))) × Speeds bs m main target
signal_so bs m d preset main target e (signal _ _ k far is) =
    let both = sym e ∙ is in
    let same_d : k ≡ d = cc in
    let same_p : preset ≡ is_preset (y_of (B bs)) = cc in
    let same_m : main ≡ signal_speed m.ay = cc in
    let same_t : target ≡ signal_speed (target_figure m.ay m.az (y_of (P bs)) (z_of (P bs))) = cc in
    (announces bs d ((given m.az bs k far).1 ∙ ap gives same_d), same_p, speeds_so bs m main target same_m same_t)
signal_so bs m d preset main target e (warning _ _ k far is) =
    absurd (let both = sym e ∙ is in cannot_be cc)
signal_so bs m d preset main target e (route _ _ is) =
    absurd (let both = sym e ∙ is in cannot_be cc)
signal_so bs m d preset main target e (plain _ is) =
    absurd (let both = sym e ∙ is in cannot_be cc)

-- an accepted preset point has a target above 40
preset_so : (bs : List Placed) (m : Message) (d : ℕ) (main target : Told) → m.content ≡ Content.Signal d true main target
    → View bs m → no_increase m.az ≡ false
preset_so bs m d main target e (signal _ _ k far is) =
    let both = sym e ∙ is in
    let so : true ≡ is_preset (y_of (B bs)) = cc in
    let not_both = (given m.az bs k far).0 in
    ap (λ (t : Bool). t && no_increase m.az) so ∙ not_both
preset_so bs m d main target e (warning _ _ k far is) =
    absurd (let both = sym e ∙ is in cannot_be cc)
preset_so bs m d main target e (route _ _ is) =
    absurd (let both = sym e ∙ is in cannot_be cc)
preset_so bs m d main target e (plain _ is) =
    absurd (let both = sym e ∙ is in cannot_be cc)

warning_so : (bs : List Placed) (m : Message) (d : ℕ) → m.content ≡ Content.Warning d → View bs m → Announces bs d
warning_so bs m d e (warning _ _ k far is) =
    let both = sym e ∙ is in
    let same_d : k ≡ d = cc in
    announces bs d (far ∙ ap gives same_d)
warning_so bs m d e (signal _ _ k far is) =
    absurd (let both = sym e ∙ is in cannot_be cc)
warning_so bs m d e (route _ _ is) =
    absurd (let both = sym e ∙ is in cannot_be cc)
warning_so bs m d e (plain _ is) =
    absurd (let both = sym e ∙ is in cannot_be cc)

route_so : (bs : List Placed) (m : Message) (v : ℕ) → m.content ≡ Content.Route v → View bs m → v ≡ route_speed m.ay m.az
route_so bs m v e (route _ _ is) = let both = sym e ∙ is in cc
route_so bs m v e (signal _ _ k far is) =
    absurd (let both = sym e ∙ is in cannot_be cc)
route_so bs m v e (warning _ _ k far is) =
    absurd (let both = sym e ∙ is in cannot_be cc)
route_so bs m v e (plain _ is) =
    absurd (let both = sym e ∙ is in cannot_be cc)

pub groups : Groups
unfolding route_speed
groups = record {
  by_rows = λ g r c one five u. c.1 ∙ rows_judge g one five u;
  one_way = one_way;
  its_a = λ g m c. has_a g m (sym c.1);
  its_number = λ g m c. has_number g m (sym c.1);
  content = λ g m c. content_so (parts_of g) m m.content refl (view g m (sym c.1));
  signal = λ g m d preset main target c e. signal_so (parts_of g) m d preset main target e (view g m (sym c.1));
  preset_target = λ g m d main target c e.
      let other = preset_so (parts_of g) m d main target e (view g m (sym c.1)) in (
        λ z. true_not_false (ap no_increase (sym z) ∙ other),
        λ z. true_not_false (ap no_increase (sym z) ∙ other),
        λ z. true_not_false (ap no_increase (sym z) ∙ other),
      );
  warning = λ g m d c e. warning_so (parts_of g) m d e (view g m (sym c.1));
  route = λ g m v c e.
      let is = route_so (parts_of g) m v e (view g m (sym c.1)) in
      (λ two. is ∙ ap (λ (y : ℕ). route_speed y m.az) two, λ four. is ∙ ap (λ (y : ℕ). route_speed y m.az) four);
  route_present = λ g m c. route_present g m (sym c.1);
  distances = λ by f r c l a b. c.1 ∙ entry by f l a b;
  preset = λ f d c. preset_range f d (sym c.1);
  speed = λ f r c l. c.1 ∙ speed_in f l;
  no_speed = λ f r c l. c.1 ∙ speed_out f l;
}
