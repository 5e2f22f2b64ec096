-- The versions of a store, one after the other.
-- Assumes nothing.
use Prim.Native.Nat.{ℕ, zero, suc, ◌+◌, ◌<◌, ◌≤◌}
use mathlib.Core.Path.{◌≡◌, sym, ap, ◌∙◌}
use mathlib.Core.Bool.{true, false}
use mathlib.Core.List.{List, [], ◌∷◌, map}
use native.Mathlib.Numerals.{add-one}
use native.Mathlib.Omega.{arith}
use lib.Dec.{leb}
use lib.ListN.{length, take, drop, get_or, length-map}
use lib.Seq.{drop-cons, get_or-take, length-take-le}
use Rattle.words.specs.Answer.{gives, refuses}
use Rattle.settings.specs.declared.Version.{Version}
use Rattle.settings.specs.Versions.{kept, follows}
use Rattle.settings.specs.Store.{no_version, all_follow}
use Rattle.settings.specs.At.{ending, holds, held_from, held_among}

-- Past the end nothing is left.
past : (l : List Version) (i : ℕ) → length l ≤ i → drop i l ≡ []
past [] i h = lib.Seq.drop-nil i
past (x ∷ l) zero h = absurd (native.Mathlib.Nat.not-suc-le-zero h)
past (x ∷ l) (suc i) h = past l i (native.Mathlib.Nat.le_of_suc-le-suc h)

-- The array of a store has 32 places.
pub unmapped : {B : Type 0} (f : Version → B) (l : List Version) → length (map f l) ≡ 32 → length l ≡ 32
unmapped f l e = sym (length-map l f) ∙ e

module _ (l : List Version) (n : ℕ) (long : length l ≡ 32) (few : n ≤ 32) where
  many : length (take n l) ≡ n
  many =
      let e : n ≤ length l = omega arith in
      length-take-le n l e

  -- Before the end of the first n, the next one and what follows.
  pub next_of : (i : ℕ) → i < n → drop i (take n l) ≡ get_or l i no_version ∷ drop (i + 1) (take n l)
  next_of i h =
      let e : i < length (take n l) = omega (arith, many) in
      rw (add-one, ← get_or-take n l i no_version h) (drop-cons (take n l) i no_version e)

  -- At the end nothing is left.
  pub none_of : (i : ℕ) → n ≤ i → drop i (take n l) ≡ []
  none_of i h =
      let e : length (take n l) ≤ i = omega (arith, many) in
      past (take n l) i e

  -- The first of at least one.
  pub first_of : 1 ≤ n → take n l ≡ get_or l 0 no_version ∷ drop 1 (take n l)
  first_of h =
      let e : 0 < n = omega arith in
      next_of 0 e

  -- ---- each follows the one before

  pub follow_next : (last i : ℕ) → i < n → follows last (get_or l i no_version) ≡ gives kept
      → all_follow last (drop i (take n l)) ≡ all_follow (get_or l i no_version).place (drop (i + 1) (take n l))
  unfolding all_follow
  follow_next last i h e = rw (next_of i h, e)

  pub follow_bad : (last i m : ℕ) → i < n → follows last (get_or l i no_version) ≡ refuses m → refuses m ≡ all_follow last (drop i (take n l))
  unfolding all_follow
  follow_bad last i m h e = rw (next_of i h, e)

  pub follow_end : (last i : ℕ) → n ≤ i → gives kept ≡ all_follow last (drop i (take n l))
  unfolding all_follow
  follow_end last i h = rw (none_of i h)

  -- ---- the next one takes its place, or it stays

  pub held_next : (v : Version) (place i : ℕ) → i < n → leb (get_or l i no_version).place place ≡ true
      → held_from v (drop i (take n l)) place ≡ held_from (get_or l i no_version) (drop (i + 1) (take n l)) place
  unfolding held_from
  held_next v place i h e = rw (next_of i h, e)

  pub held_here : (v : Version) (place i : ℕ) → i < n → leb (get_or l i no_version).place place ≡ false
      → holds v (get_or l i no_version).place ≡ held_from v (drop i (take n l)) place
  unfolding held_from
  held_here v place i h e = rw (next_of i h, e)

  pub held_last : (v : Version) (place i : ℕ) → n ≤ i → holds v ending ≡ held_from v (drop i (take n l)) place
  unfolding held_from
  held_last v place i h = rw (none_of i h)

  pub held_first : (place : ℕ) → 1 ≤ n → held_from (get_or l 0 no_version) (drop 1 (take n l)) place ≡ held_among (take n l) place
  held_first place h = ap (λ (vs : List Version). held_among vs place) (sym (first_of h))
