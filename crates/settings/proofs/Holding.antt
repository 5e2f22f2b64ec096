-- The places from which and until which a version is in force are true: within them asking again
-- gives the same. Whoever goes over many places holds a version so (`Holding`), and asks only where
-- a place lies outside.
-- Assumes nothing.
use Prim.Native.Nat.{ℕ, ◌<◌, ◌≤◌}
use mathlib.Core.Path.{◌≡◌, refl, sym, ap, ◌∙◌}
use mathlib.Core.Bool.{Bool, true, false, ◌||◌}
use mathlib.Core.List.{List, [], ◌∷◌}
use native.Mathlib.Omega.{arith}
use borrow.Author.Tests.{le-leb, lt-leb, leb-false, ltb-false, eqb-true}
use lib.Dec.{eqb, leb, ltb}
use Rattle.words.specs.Answer.{Outcome, gives, refuses, pick}
use Rattle.settings.specs.declared.Version.{Version}
use Rattle.settings.specs.declared.Store.{Store}
use Rattle.settings.specs.declared.Held.{Held}
use Rattle.settings.specs.Versions.{then, allowed, highest, Kept, kept, settings_of}
use Rattle.settings.specs.Store.{versions_of, all_follow, in_order_meant, judged}
use Rattle.settings.specs.At.{holds, held_from, held_among, held_at, asked, leaves, held_or, hold, held_for}
use Rattle.settings.proofs.Counts.{in_order}
use Rattle.settings.proofs.Following.{never, same, first_kept, follow_split, gap_good}
use Rattle.words.proofs.Never.{cannot_be}

-- ---- among some versions

-- What is in force among a version and those that follow it is not in force before that version.
from_by : (b : Bool) (v w : Version) (h : Held) → v.place < w.place → w.place ≤ h.from → v.place ≤ (pick b h (holds v w.place)).from
from_by true v w h less rest = omega arith
from_by false v w h less rest = omega arith

pub from_above : (v : Version) (vs : List Version) (place : ℕ) → all_follow v.place vs ≡ gives kept → v.place ≤ (held_from v vs place).from
unfolding held_from
from_above v [] place h = omega arith
from_above v (w ∷ vs) place h =
    let rest = follow_split v.place w vs h in
    from_by (leb w.place place) v w (held_from w vs place) rest.0.above (from_above w vs place rest.1)

-- Any place between is answered alike.
between_by : (b : Bool) (v w : Version) (h g : Held) (other : ℕ) → w.place ≤ h.from → (h.from ≤ other → other < h.until → g ≡ h)
    → (pick b h (holds v w.place)).from ≤ other → other < (pick b h (holds v w.place)).until
    → pick (leb w.place other) g (holds v w.place) ≡ pick b h (holds v w.place)
between_by true v w h g other from rest low high =
    let reached : w.place ≤ other = omega arith in
    rw (le-leb w.place other reached) (rest low high)
between_by false v w h g other from rest low high = rw (lt-leb w.place other high)

pub between : (v : Version) (vs : List Version) (place other : ℕ) → all_follow v.place vs ≡ gives kept
    → (held_from v vs place).from ≤ other → other < (held_from v vs place).until → held_from v vs other ≡ held_from v vs place
unfolding held_from
between v [] place other h low high = refl
between v (w ∷ vs) place other h low high =
    let rest = follow_split v.place w vs h in
    between_by (leb w.place place) v w (held_from w vs place) (held_from w vs other) other (from_above w vs place rest.1)
    (λ l u. between w vs place other rest.1 l u) low high

-- Its gap is allowed.
gap_pick : (b : Bool) (v w : Version) (h : Held) → allowed v.gap ≡ true → allowed h.gap ≡ true → allowed (pick b h (holds v w.place)).gap ≡ true
gap_pick true v w h g rest = rest
gap_pick false v w h g rest = g

gap_from : (v : Version) (vs : List Version) (place : ℕ) → allowed v.gap ≡ true → all_follow v.place vs ≡ gives kept → allowed (held_from v vs place).gap ≡ true
unfolding held_from
gap_from v [] place g h = g
gap_from v (w ∷ vs) place g h =
    let rest = follow_split v.place w vs h in
    gap_pick (leb w.place place) v w (held_from w vs place) g
    (gap_from w vs place (gap_good w.gap w.s w.t rest.0.settings) rest.1)

-- ---- in a store

-- The first version and those that follow, of versions in order.
order_by : (b : Bool) (v : Version) (o : Outcome Kept) → eqb v.place 0 ≡ b → pick b o (refuses 24) ≡ gives kept → (eqb v.place 0 ≡ true) × (o ≡ gives kept)
order_by true v o e h = (e, h)
order_by false v o e h = never _ kept 24 h

pub record Opened (v : Version) (vs : List Version) : Type 0 where
  pub first : v.place ≡ 0
  pub settings : settings_of v.gap v.s v.t ≡ gives kept
  pub others : all_follow v.place vs ≡ gives kept

pub opened_of : (v : Version) (vs : List Version) → in_order_meant (v ∷ vs) ≡ gives kept → Opened v vs
unfolding in_order_meant
opened_of v vs h =
    let zero = order_by (eqb v.place 0) v (then (settings_of v.gap v.s v.t) λ k. all_follow 0 vs) refl h in
    let two = first_kept (settings_of v.gap v.s v.t) (all_follow 0 vs) zero.1 in
    let first : v.place ≡ 0 = eqb-true v.place 0 zero.0 in
    record { first = first; settings = two.0; others = ap (λ (n : ℕ). all_follow n vs) first ∙ two.1 }

pub no_versions : (A : Type 0) → in_order_meant [] ≡ gives kept → A
unfolding in_order_meant
no_versions A h = never A kept 19 h

-- A version held: any place within its own is answered by it, and its gap is allowed.
pub record Holding (store : Store) (held : Held) : Type 0 where
  pub alike : (other : ℕ) → held.from ≤ other → other < held.until → held_at store other ≡ held
  pub gap : allowed held.gap ≡ true

among : (vs : List Version) (place : ℕ) → in_order_meant vs ≡ gives kept
    → ((other : ℕ) → (held_among vs place).from ≤ other → other < (held_among vs place).until → held_among vs other ≡ held_among vs place)
    × (allowed (held_among vs place).gap ≡ true)
among [] place h = no_versions _ h
among (v ∷ vs) place h =
    let o = opened_of v vs h in
    (λ other low high. between v vs place other o.others low high, gap_from v vs place (gap_good v.gap v.s v.t o.settings) o.others)

-- What is in force at a place of a store without a fault is held.
pub holding_at : (store : Store) (place : ℕ) → judged store ≡ gives kept → Holding store (held_at store place)
unfolding held_at
holding_at store place h =
    let a = among (versions_of store) place (in_order store h) in
    record { alike = a.0; gap = a.1 }

-- ---- from one place to the next

asked_by : (b : Bool) (store : Store) (held : Held) (place : ℕ) → ltb highest place ≡ b → judged store ≡ gives kept → Holding store held
    → Holding store (held_or held (pick b (refuses 18) (gives (held_at store place))))
asked_by true store held place e h hold = hold
asked_by false store held place e h hold = holding_at store place h

keeps_by : (b : Bool) (store : Store) (held : Held) (place : ℕ) → judged store ≡ gives kept → Holding store held → Holding store (pick b (hold store held place) held)
unfolding hold asked
keeps_by true store held place h hold = rw h (asked_by (ltb highest place) store held place refl h hold)
keeps_by false store held place h hold = hold

-- It stays so.
pub keeps : (store : Store) (held : Held) (place : ℕ) → judged store ≡ gives kept → Holding store held → Holding store (held_for store held place)
unfolding held_for
keeps store held place h hold = keeps_by (leaves held place) store held place h hold

-- A place at which a version is not left lies within its own.
pub within : (b c : Bool) (held : Held) (place : ℕ) → ltb place held.from ≡ b → leb held.until place ≡ c → (b || c) ≡ false
    → (held.from ≤ place) × (place < held.until)
within true c held place eb ec h = cannot_be cc
within false true held place eb ec h = cannot_be cc
within false false held place eb ec h = (ltb-false place held.from eb, leb-false held.until place ec)

gap_by_asking : (b : Bool) (store : Store) (held : Held) (place : ℕ) → leaves held place ≡ b → judged store ≡ gives kept → Holding store held → ltb highest place ≡ false
    → pick b (hold store held place) held ≡ held_at store place
unfolding leaves hold asked
gap_by_asking true store held place e h hold low = rw (h, low)
gap_by_asking false store held place e h hold low =
    let w = within (ltb place held.from) (leb held.until place) held place refl refl e in
    sym (hold.alike place w.0 w.1)

-- And it is the version in force at each place that can be asked.
pub held_is : (store : Store) (held : Held) (place : ℕ) → judged store ≡ gives kept → Holding store held → ltb highest place ≡ false
    → held_for store held place ≡ held_at store place
unfolding held_for
held_is store held place h hold low = gap_by_asking (leaves held place) store held place refl h hold low

-- A store that was asked, and one that was not.
pub asked_for : (store : Store) (held next : Held) (place : ℕ) → leaves held place ≡ true → next ≡ hold store held place → next ≡ held_for store held place
unfolding held_for
asked_for store held next place e h = rw e h

pub stays_for : (store : Store) (held next : Held) (place : ℕ) → leaves held place ≡ false → next ≡ held → next ≡ held_for store held place
unfolding held_for
stays_for store held next place e h = rw e h

-- ---- what an asking tells of the store

asked_gives : (o : Outcome Kept) (b : Bool) (h g : Held) → then o (λ k. pick {A = Outcome Held} b (refuses 18) (gives h)) ≡ gives g → (o ≡ gives kept) × (b ≡ false) × (g ≡ h)
asked_gives (refuses m) b h g e = cannot_be cc
asked_gives (gives k) true h g e = cannot_be cc
asked_gives (gives k) false h g e = (ap gives (same k), refl, cc)

pub held_given : (store : Store) (place : ℕ) (g : Held) → asked store place ≡ gives g → (judged store ≡ gives kept) × (ltb highest place ≡ false) × (g ≡ held_at store place)
unfolding asked
held_given store place g e = asked_gives (judged store) (ltb highest place) (held_at store place) g e

asked_refuses : (o : Outcome Kept) (h : Held) (n : ℕ) → then o (λ k. gives h) ≡ refuses n → o ≡ refuses n
asked_refuses (refuses m) h n e = let same : m ≡ n = cc in ap refuses same
asked_refuses (gives k) h n e = cannot_be cc

-- Place 0 is refused for the store's sake alone.
pub store_refused : (store : Store) (n : ℕ) → asked store 0 ≡ refuses n → judged store ≡ refuses n
unfolding asked
store_refused store n e = asked_refuses (judged store) (held_at store 0) n e
