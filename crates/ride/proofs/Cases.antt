-- The cases of the definitions, each from an equation of what they go by.
-- Assumes nothing.
use Prim.Native.Nat.{ℕ, ◌+◌, ◌-◌, ◌*◌, ◌/◌, ◌<◌}
use native.Mathlib.Omega.{arith}
use mathlib.Core.Path.{◌≡◌, refl, ap, ◌∙◌}
use mathlib.Core.Bool.{Bool, true, false}
use mathlib.Core.List.{List, [], ◌∷◌}
use lib.Dec.{ltb}
use lib.ListN.{get_or}
use borrow.Author.Tests.{ne_eqb}
use Rattle.words.specs.Answer.{Outcome, refuses}
use Rattle.group.specs.declared.Balise.{Balise}
use Rattle.group.specs.declared.Group.{Group}
use Rattle.group.specs.declared.Number.{Number}
use Rattle.group.specs.declared.Told.{Told}
use Rattle.group.specs.declared.Content.{Content}
use Rattle.group.specs.declared.Message.{Message}
use Rattle.group.specs.Judge.{judge}
use Rattle.ride.specs.declared.Linking.{Linking}
use Rattle.ride.specs.declared.Known.{Known}
use Rattle.ride.specs.declared.Seen.{Seen}
use Rattle.ride.specs.declared.Ride.{Ride}
use Rattle.ride.specs.declared.closing.GroupVerdict.{GroupVerdict}
use Rattle.ride.specs.State.{no_balise, no_group, is_open_meant, nothing_known}
use Rattle.ride.specs.Linking.{mark_at, mark_of, is_overdue, missed_place}
use Rattle.ride.specs.Closing.{Closing, linking_from, main_from, known_from, known_after, mark_from, first_place, line_of, close, leave}
use Rattle.ride.specs.Step.{end, ended}
use Rattle.ride.specs.Inside.{Judgement, says_group_verdict}

-- ---- linking that is set

pub mark_set : (l : Linking) (D a place : ℕ) → l ≡ Linking.Set D a → mark_at D (place - a) ≡ mark_of l place
mark_set l D a place e = rw e

pub overdue_set : (l : Linking) (D a odometer : ℕ) → l ≡ Linking.Set D a → ltb (6 * D) (5 * (odometer - a)) ≡ is_overdue l odometer
overdue_set l D a odometer e = rw e

pub missed_set : (l : Linking) (D a : ℕ) → l ≡ Linking.Set D a → a + 6 * D / 5 ≡ missed_place l
missed_set l D a e = rw e

-- ---- what an accepted group says

pub main_kmh : (t : Told) (v : ℕ) (before : Told) → t ≡ Told.Kmh v → Told.Kmh v ≡ main_from t before
main_kmh t v before e = rw e

pub known_signal : (more : Content) (D : ℕ) (preset : Bool) (main target : Told) (place : ℕ) (number : Number) (known : Known)
    → more ≡ Content.Signal D preset main target
    → ◌≡◌ {A = Known} (record { linking = linking_from D preset place; main = main_from main known.main; target = target; number = number })
    (known_from more place number known)
known_signal more D preset main target place number known e =
    rw e

pub mark_signal : (more : Content) (D : ℕ) (preset : Bool) (main target : Told) (place : ℕ) (l : Linking) → more ≡ Content.Signal D preset main target
    → mark_of l place ≡ mark_from more place l
mark_signal more D preset main target place l e = rw e

-- ---- a judgement

pub first_place_law : (bs : List Balise) (b : Balise) → b.place ≡ 0 → (get_or bs 0 b).place ≡ (get_or bs 0 no_balise).place
first_place_law [] b e = e
first_place_law (x ∷ bs) b e = refl

-- the verdict on a group with this judgement
abbrev pub verdict_on : Group → Known → Outcome Message → Judgement
verdict_on g known judged = record { line = line_of g known.linking judged; known = known_after judged known }

-- a refused group's line shows its first place, and nothing is known then
pub faulted : (g : Group) (before after : Known) (seen : Seen) (n : ℕ) → 0 < n → after ≡ nothing_known → seen.place ≡ first_place g
    → says_group_verdict (record { fault = n; seen = seen; known = after }) ≡ verdict_on g before (refuses n)
unfolding says_group_verdict
faulted g before after seen n h e f = rw (ne_eqb n 0 (omega (arith, h)), e, f)

-- a group closes with the verdict on it
pub closed_with : (g : Group) (known : Known) (v : GroupVerdict) (c : Closing) → says_group_verdict v ≡ verdict_on g known (judge g)
    → c ≡ record { lines = (says_group_verdict v).line ∷ []; closed = g; group = no_group; known = v.known } → c ≡ close g known
unfolding close says_group_verdict
closed_with g known v c e h = h ∙ ap (λ (w : Judgement). record { lines = w.line ∷ []; closed = g; group = no_group; known = w.known }) e

-- ---- the end

pub end_open : (ride : Ride) (c : Closing) → is_open_meant ride.group ≡ true → c ≡ close ride.group ride.known → ended ride.odometer c ≡ end ride
unfolding end
end_open ride c e h = rw (e, h)

pub end_none : (ride : Ride) (c : Closing) → is_open_meant ride.group ≡ false → c ≡ leave ride.group ride.known → ended ride.odometer c ≡ end ride
unfolding end
end_none ride c e h = rw (e, h)
