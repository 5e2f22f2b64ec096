-- The version in force among some in order: it is one of them, not above the asked place, and the
-- highest such; its force ends after that place.
-- Assumes nothing.
use Prim.Native.Nat.{ℕ, zero, suc, ◌<◌, ◌≤◌}
use mathlib.Core.Path.{◌≡◌, refl}
use mathlib.Core.Bool.{Bool, true, false}
use mathlib.Core.List.{List, [], ◌∷◌}
use native.Mathlib.Omega.{arith}
use borrow.Author.Tests.{leb-true, leb-false}
use lib.Dec.{leb}
use lib.ListN.{length, get_or}
use Rattle.words.specs.Answer.{gives, pick}
use Rattle.settings.specs.declared.Version.{Version}
use Rattle.settings.specs.declared.Held.{Held}
use Rattle.settings.specs.Versions.{highest, kept}
use Rattle.settings.specs.Store.{no_version, all_follow}
use Rattle.settings.specs.At.{ending, holds, held_from}
use Rattle.settings.specs.Laws.{version_in}
use Rattle.settings.proofs.Following.{follow_split}
use Rattle.settings.proofs.Holding.{from_above}

-- One of them.
pub record Among (w : Version) (vs : List Version) (held : Held) : Type 0 where
  pub number : ℕ
  pub of_these : number < suc (length vs)
  pub is : version_in held ≡ get_or (w ∷ vs) number no_version

among_by : (b : Bool) (w x : Version) (vs : List Version) (h : Held) → Among x vs h → Among w (x ∷ vs) (pick b h (holds w x.place))
among_by true w x vs h a = record { number = suc a.number; of_these = omega arith; is = a.is }
among_by false w x vs h a = record { number = 0; of_these = omega arith; is = refl }

pub among : (w : Version) (vs : List Version) (place : ℕ) → Among w vs (held_from w vs place)
unfolding held_from
among w [] place = record { number = 0; of_these = omega arith; is = refl }
among w (x ∷ vs) place = among_by (leb x.place place) w x vs (held_from x vs place) (among x vs place)

-- Not above the asked place, which lies before the end of its force.
above_by : (b : Bool) (w x : Version) (h : Held) (place : ℕ) → leb x.place place ≡ b → w.place ≤ place → (x.place ≤ place → h.from ≤ place) → (pick b h (holds w x.place)).from ≤ place
above_by true w x h place e low rest = rest (leb-true x.place place e)
above_by false w x h place e low rest = low

pub not_above : (w : Version) (vs : List Version) (place : ℕ) → w.place ≤ place → (held_from w vs place).from ≤ place
unfolding held_from
not_above w [] place h = h
not_above w (x ∷ vs) place h = above_by (leb x.place place) w x (held_from x vs place) place refl h (λ low. not_above x vs place low)

before_by : (b : Bool) (w x : Version) (h : Held) (place : ℕ) → leb x.place place ≡ b → place < h.until → place < (pick b h (holds w x.place)).until
before_by true w x h place e rest = rest
before_by false w x h place e rest = leb-false x.place place e

pub before_end : (w : Version) (vs : List Version) (place : ℕ) → place ≤ highest → place < (held_from w vs place).until
unfolding held_from
before_end w [] place h = omega arith
before_end w (x ∷ vs) place h = before_by (leb x.place place) w x (held_from x vs place) place refl (before_end x vs place h)

-- Its force ends at the latest after the highest place.
ends_by : (b : Bool) (w x : Version) (h : Held) → x.place ≤ highest → h.until ≤ ending → (pick b h (holds w x.place)).until ≤ ending
ends_by true w x h low rest = rest
ends_by false w x h low rest = omega arith

pub ends : (w : Version) (vs : List Version) (place : ℕ) → all_follow w.place vs ≡ gives kept → (held_from w vs place).until ≤ ending
unfolding held_from
ends w [] place h = omega arith
ends w (x ∷ vs) place h =
    let rest = follow_split w.place x vs h in
    ends_by (leb x.place place) w x (held_from x vs place) rest.0.within (ends x vs place rest.1)

-- They rise.
rise : (w : Version) (vs : List Version) (i : ℕ) → all_follow w.place vs ≡ gives kept → i < suc (length vs) → w.place ≤ (get_or (w ∷ vs) i no_version).place
rise w vs zero h e = omega arith
rise w [] (suc i) h e = absurd (omega arith)
rise w (x ∷ vs) (suc i) h e =
    let rest = follow_split w.place x vs h in
    let less : i < suc (length vs) = omega arith in
    omega (arith, rest.0.above, rise x vs i rest.1 less)

-- No other of them that is not above the asked place is above it.
such_by : (b : Bool) (w x : Version) (h : Held) (place p : ℕ) → leb x.place place ≡ b → x.place ≤ p → p ≤ place → (p ≤ place → p ≤ h.from) → p ≤ (pick b h (holds w x.place)).from
such_by true w x h place p e high low rest = rest low
such_by false w x h place p e high low rest = absurd (omega (arith, leb-false x.place place e))

pub highest_such : (w : Version) (vs : List Version) (place i : ℕ) → all_follow w.place vs ≡ gives kept → i < suc (length vs) → (get_or (w ∷ vs) i no_version).place ≤ place
    → (get_or (w ∷ vs) i no_version).place ≤ (held_from w vs place).from
unfolding held_from
highest_such w vs place zero h e low = from_above w vs place h
highest_such w [] place (suc i) h e low = absurd (omega arith)
highest_such w (x ∷ vs) place (suc i) h e low =
    let rest = follow_split w.place x vs h in
    let less : i < suc (length vs) = omega arith in
    such_by (leb x.place place) w x (held_from x vs place) place (get_or (x ∷ vs) i no_version).place refl (rise x vs i rest.1 less) low
    (λ l. highest_such x vs place i rest.1 less l)
