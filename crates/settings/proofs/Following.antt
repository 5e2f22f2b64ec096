-- Versions that may follow one another: what the judgement of a store says of each.
-- Assumes nothing.
use Prim.Native.Nat.{ℕ, ◌<◌, ◌≤◌}
use mathlib.Core.Path.{◌≡◌, refl, ap}
use mathlib.Core.Bool.{Bool, true, false}
use mathlib.Core.List.{List, ◌∷◌}
use borrow.Author.Tests.{leb-false, ltb-false}
use lib.Dec.{leb, ltb}
use Rattle.words.specs.Answer.{Outcome, gives, refuses, pick}
use Rattle.telegram.specs.Sync.{good_pair}
use Rattle.settings.specs.declared.Version.{Version}
use Rattle.settings.specs.Versions.{then, allowed, highest, Kept, kept, settings_of, follows}
use Rattle.settings.specs.Store.{all_follow}
use Rattle.words.proofs.Never.{cannot_be}

pub never : (A : Type 0) (k : Kept) (n : ℕ) → ◌≡◌ {A = Outcome Kept} (refuses n) (gives k) → A
never A k n e = cannot_be cc

pub same : (k : Kept) → k ≡ kept
same kept = refl

-- One thing kept after another: both are.
pub first_kept : (o p : Outcome Kept) → (then o λ k. p) ≡ gives kept → (o ≡ gives kept) × (p ≡ gives kept)
first_kept (gives k) p e = (ap gives (same k), e)
first_kept (refuses n) p e = never _ kept n e

-- A version that may follow.
pub record Next (last : ℕ) (v : Version) : Type 0 where
  pub above : last < v.place
  pub within : v.place ≤ highest
  pub settings : settings_of v.gap v.s v.t ≡ gives kept

next_by : (b c : Bool) (last : ℕ) (v : Version) → ltb highest v.place ≡ b → leb v.place last ≡ c
    → pick {A = Outcome Kept} b (refuses 18) (pick c (refuses 24) (gives kept)) ≡ gives kept → (last < v.place) × (v.place ≤ highest)
next_by true c last v eb ec h = never _ kept 18 h
next_by false true last v eb ec h = never _ kept 24 h
next_by false false last v eb ec h = (leb-false v.place last ec, ltb-false highest v.place eb)

pub next_is : (last : ℕ) (v : Version) → follows last v ≡ gives kept → Next last v
unfolding follows
next_is last v h =
    let two = first_kept (settings_of v.gap v.s v.t) (pick {A = Outcome Kept} (ltb highest v.place) (refuses 18) (pick (leb v.place last) (refuses 24) (gives kept))) h in
    let places = next_by (ltb highest v.place) (leb v.place last) last v refl refl two.1 in
    record { above = places.0; within = places.1; settings = two.0 }

-- The first of those that follow, and the rest.
pub follow_split : (last : ℕ) (v : Version) (vs : List Version) → all_follow last (v ∷ vs) ≡ gives kept → Next last v × (all_follow v.place vs ≡ gives kept)
unfolding all_follow
follow_split last v vs h =
    let two = first_kept (follows last v) (all_follow v.place vs) h in
    (next_is last v two.0, two.1)

gap_by : (b : Bool) (o : Outcome Rattle.telegram.specs.Sync.Good) → (then o λ g. pick b (gives kept) (refuses 19)) ≡ gives kept → b ≡ true
gap_by b (refuses n) h = never _ kept n h
gap_by true (gives g) h = refl
gap_by false (gives g) h = never _ kept 19 h

pub gap_good : (gap s t : ℕ) → settings_of gap s t ≡ gives kept → allowed gap ≡ true
unfolding settings_of
gap_good gap s t h = gap_by (allowed gap) (good_pair s t) h
