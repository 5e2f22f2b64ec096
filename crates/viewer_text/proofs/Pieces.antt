-- The lines are their pieces, and how long they are at most.
-- Assumes nothing.
use mathlib.Core.Path.{◌≡◌, refl, sym, ap, ◌∙◌}
use mathlib.Core.Bool.{Bool, true, false}
use mathlib.Core.List.{List, ◌++◌, append_assoc}
use Prim.Native.Nat.{ℕ, ◌≤◌}
use native.Mathlib.Omega.{arith}
use lib.ListN.{length, length-append}
use Rattle.words.specs.Answer.{pick}
use Rattle.text.specs.Text.{codes, decimal}
use Rattle.text.proofs.Decimal.{decimal_length}
use Rattle.group.specs.declared.Group.{Group}
use Rattle.group.specs.declared.Number.{Number}
use Rattle.group.specs.declared.Told.{Told}
use Rattle.ride.specs.declared.Linking.{Linking}
use Rattle.ride.specs.declared.Known.{Known}
use Rattle.ride.specs.declared.Ride.{Ride}
use Rattle.ride.specs.State.{is_open_meant}
use Rattle.ride.specs.Closing.{first_place}
use Rattle.viewer_text.specs.Text.{place, group, linking, speed, figure, speeds, state}
use Rattle.viewer_text.specs.Pieces.{on_place, on_group, on_linking, on_figure, on_speeds}

-- ---- a newline moves from before a line to after it

place_is : (number count kept odometer : ℕ) → place number count kept odometer ≡ on_place number count kept odometer ++ codes "\n"
unfolding place on_place
place_is number count kept odometer = simp append_assoc

-- a newline before three pieces of words and a number each
three_are : (n p a q b r c : List ℕ) → n ++ (p ++ a ++ q ++ b ++ r ++ c ++ n) ≡ ((n ++ p) ++ a) ++ (q ++ b) ++ (r ++ c) ++ n
three_are n p a q b r c = simp append_assoc

group_by : (b : Bool) (count first last : ℕ)
    → codes "\n" ++ pick b (codes "  group of " ++ decimal count ++ codes " from " ++ decimal first ++ codes " to " ++ decimal last ++ codes "\n") (codes "  no group\n")
    ≡ pick b ((codes "\n  group of " ++ decimal count) ++ (codes " from " ++ decimal first) ++ (codes " to " ++ decimal last)) (codes "\n  no group") ++ codes "\n"
group_by true count first last = three_are (codes "\n") (codes "  group of ") (decimal count) (codes " from ") (decimal first) (codes " to ") (decimal last)
group_by false count first last = refl

group_is : (g : Group) → codes "\n" ++ group g ≡ on_group g ++ codes "\n"
unfolding group on_group
group_is g = group_by (is_open_meant g) g.count (first_place g) g.last

linking_is : (l : Linking) → codes "\n" ++ linking l ≡ on_linking l ++ codes "\n"
unfolding linking on_linking
linking_is Linking.Unset = refl
linking_is (Linking.Set distance from) = simp append_assoc

speeds_are : (known : Known) → codes "\n" ++ speeds known ≡ on_speeds known ++ codes "\n"
unfolding speeds on_speeds on_figure
speeds_are known = three_are (codes "\n") (codes "  main ") (speed known.main) (codes ", target ") (speed known.target) (codes ", number ") (figure known.number)

shift : (a g on : List ℕ) → codes "\n" ++ g ≡ on ++ codes "\n" → (a ++ codes "\n") ++ g ≡ (a ++ on) ++ codes "\n"
shift a g on e = append_assoc a (codes "\n") g ∙ ap (λ (x : List ℕ). a ++ x) e ∙ sym (append_assoc a on (codes "\n"))

pub state_is : (number count kept : ℕ) (ride : Ride)
    → on_place number count kept ride.odometer ++ on_group ride.group ++ on_linking ride.known.linking ++ on_speeds ride.known ++ codes "\n"
    ≡ state number count kept ride
unfolding state
state_is number count kept ride =
    let p : List ℕ = on_place number count kept ride.odometer in
    let g : List ℕ = on_group ride.group in
    let l : List ℕ = on_linking ride.known.linking in
    sym
    (ap (λ (x : List ℕ). x ++ group ride.group ++ linking ride.known.linking ++ speeds ride.known) (place_is number count kept ride.odometer)
    ∙ ap (λ (x : List ℕ). x ++ linking ride.known.linking ++ speeds ride.known) (shift p (group ride.group) g (group_is ride.group))
    ∙ ap (λ (x : List ℕ). x ++ speeds ride.known) (shift (p ++ g) (linking ride.known.linking) l (linking_is ride.known.linking))
    ∙ shift (p ++ g ++ l) (speeds ride.known) (on_speeds ride.known) (speeds_are ride.known))

-- ---- lengths

place_length : (number count kept odometer : ℕ) → length (place number count kept odometer) ≤ 104
unfolding place
place_length number count kept odometer = simp length-append (omega (arith, decimal_length number, decimal_length count, decimal_length kept, decimal_length odometer))

group_short : (b : Bool) (count first last : ℕ)
    → length (pick b (codes "  group of " ++ decimal count ++ codes " from " ++ decimal first ++ codes " to " ++ decimal last ++ codes "\n") (codes "  no group\n")) ≤ 82
group_short true count first last = simp length-append (omega (arith, decimal_length count, decimal_length first, decimal_length last))
group_short false count first last = omega arith

group_length : (g : Group) → length (group g) ≤ 82
unfolding group
group_length g = group_short (is_open_meant g) g.count (first_place g) g.last

linking_length : (l : Linking) → length (linking l) ≤ 57
unfolding linking
linking_length Linking.Unset = omega arith
linking_length (Linking.Set distance from) = simp length-append (omega (arith, decimal_length distance, decimal_length from))

speed_length : (t : Told) → length (speed t) ≤ 20
unfolding speed
speed_length Told.Unknown = omega arith
speed_length (Told.Kmh v) = decimal_length v

figure_length : (m : Number) → length (figure m) ≤ 20
unfolding figure
figure_length Number.None = omega arith
figure_length (Number.Figure m) = decimal_length m

speeds_length : (known : Known) → length (speeds known) ≤ 86
unfolding speeds
speeds_length known = simp length-append (omega (arith, speed_length known.main, speed_length known.target, figure_length known.number))

-- What is shown has at most 384 bytes.
pub state_length : (number count kept : ℕ) (ride : Ride) → length (state number count kept ride) ≤ 384
unfolding state
state_length number count kept ride =
    simp length-append (omega (arith, place_length number count kept ride.odometer, group_length ride.group, linking_length ride.known.linking, speeds_length ride.known))
