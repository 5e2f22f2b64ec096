-- Entries that lie more than twice the tolerance apart: a group lies within the tolerance of one of
-- them at most.
-- Assumes nothing.
use Prim.Native.Nat.{ℕ, zero, suc, ◌+◌, ◌*◌, ◌≤◌, ◌<◌}
use native.Mathlib.Omega.{arith}
use mathlib.Core.Path.{◌≡◌, refl, sym, ap, ◌∙◌}
use mathlib.Core.Bool.{Bool, true, false, ◌&&◌}
use mathlib.Core.List.{List, [], ◌∷◌}
use lib.Dec.{eqb, leb, ltb}
use lib.ListN.{length, get_or}
use borrow.Author.Tests.{leb-true, ltb-true, lt-leb}
use Rattle.group_rows.specs.declared.Kind.{Kind}
use Rattle.acceptance.specs.declared.Entry.{Entry}
use Rattle.acceptance.specs.Plan.{number_of, no_entry, is_beyond, apart}
use Rattle.acceptance.specs.Taking.{within, is_for}
use Rattle.words.proofs.Never.{cannot_be}

pub and_left : (a b : Bool) → (a && b) ≡ true → a ≡ true
and_left true b e = refl
and_left false b e = e

pub and_right : (a b : Bool) → (a && b) ≡ true → b ≡ true
and_right true b e = e
and_right false b e = cannot_be cc

pub and_false : (a b : Bool) → b ≡ false → (a && b) ≡ false
and_false true b e = e
and_false false b e = refl

-- What the tests of a group that fits say of its place.
module _ (tolerance place : ℕ) (kind : Kind) (e : Entry) (fits : is_for tolerance place kind e ≡ true) where
  near : within tolerance e.place place ≡ true
  near = and_right (eqb (number_of e.kind) (number_of kind)) (within tolerance e.place place) fits

  pub not_beyond : place ≤ e.place + tolerance
  not_beyond = leb-true place (e.place + tolerance) (and_right (leb e.place (place + tolerance)) (leb place (e.place + tolerance)) near)

-- A group that lies before an entry by more than the tolerance is not for it.
pub too_far : (tolerance place : ℕ) (kind : Kind) (e : Entry) → place + tolerance < e.place → is_for tolerance place kind e ≡ false
too_far tolerance place kind e h =
    and_false (eqb (number_of e.kind) (number_of kind)) (within tolerance e.place place)
    (ap (λ (b : Bool). b && leb place (e.place + tolerance)) (lt-leb e.place (place + tolerance) h))

-- The entries after one at this place.
abbrev pub Follow : ℕ → ℕ → List Entry → Type 0
Follow tolerance p es = (is_beyond tolerance p es && apart tolerance es) ≡ true

pub apart_follow : (tolerance : ℕ) (e : Entry) (es : List Entry) → apart tolerance (e ∷ es) ≡ true → Follow tolerance e.place es
unfolding apart
apart_follow tolerance e es h = h

pub rest_apart : (tolerance : ℕ) (e : Entry) (es : List Entry) → apart tolerance (e ∷ es) ≡ true → apart tolerance es ≡ true
unfolding apart
rest_apart tolerance e es h = and_right (is_beyond tolerance e.place es) (apart tolerance es) h

-- The first of them lies beyond, and the others follow it.
pub beyond : (tolerance p : ℕ) (e : Entry) (es : List Entry) → Follow tolerance p (e ∷ es) → p + 2 * tolerance < e.place
beyond tolerance p e es h = ltb-true (p + 2 * tolerance) e.place (and_left (ltb (p + 2 * tolerance) e.place) (apart tolerance (e ∷ es)) h)

pub follow_on : (tolerance p : ℕ) (e : Entry) (es : List Entry) → Follow tolerance p (e ∷ es) → Follow tolerance e.place es
follow_on tolerance p e es h = apart_follow tolerance e es (and_right (ltb (p + 2 * tolerance) e.place) (apart tolerance (e ∷ es)) h)

-- A group that lies not beyond this place and the tolerance is for none of them.
pub none_follow : (tolerance place : ℕ) (kind : Kind) (p : ℕ) (es : List Entry) → Follow tolerance p es → place ≤ p + tolerance
    → (i : ℕ) → i < length es → is_for tolerance place kind (get_or es i no_entry) ≡ false
none_follow tolerance place kind p [] f h i k = absurd (omega arith)
none_follow tolerance place kind p (e ∷ es) f h zero k = too_far tolerance place kind e (omega (arith, beyond tolerance p e es f))
none_follow tolerance place kind p (e ∷ es) f h (suc i) k =
    none_follow tolerance place kind e.place es (follow_on tolerance p e es f) (omega (arith, beyond tolerance p e es f)) i (omega arith)

never : {A : Type 0} → true ≡ false → A
never e = cannot_be cc

-- A group is for one entry at most.
pub only_one : (tolerance place : ℕ) (kind : Kind) (es : List Entry) → apart tolerance es ≡ true → (i j : ℕ) → i < length es → j < length es
    → is_for tolerance place kind (get_or es i no_entry) ≡ true → is_for tolerance place kind (get_or es j no_entry) ≡ true → i ≡ j
only_one tolerance place kind [] a i j h k p q = absurd (omega arith)
only_one tolerance place kind (e ∷ es) a zero zero h k p q = refl
only_one tolerance place kind (e ∷ es) a zero (suc j) h k p q =
    never (sym q ∙ none_follow tolerance place kind e.place es (apart_follow tolerance e es a) (not_beyond tolerance place kind e p) j (omega arith))
only_one tolerance place kind (e ∷ es) a (suc i) zero h k p q =
    never (sym p ∙ none_follow tolerance place kind e.place es (apart_follow tolerance e es a) (not_beyond tolerance place kind e q) i (omega arith))
only_one tolerance place kind (e ∷ es) a (suc i) (suc j) h k p q =
    ap suc (only_one tolerance place kind es (rest_apart tolerance e es a) i j (omega arith) (omega arith) p q)
