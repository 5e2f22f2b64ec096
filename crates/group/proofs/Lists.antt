-- The first n of a list, from i on.
-- Assumes nothing.
use Prim.Native.Nat.{ℕ, zero, suc, ◌+◌, ◌<◌, ◌≤◌}
use mathlib.Core.Path.{◌≡◌}
use mathlib.Core.List.{List, [], ◌∷◌}
use native.Mathlib.Numerals.{add-one}
use native.Mathlib.Omega.{arith}
use lib.ListN.{length, take, drop, get_or}
use lib.Seq.{drop-cons, get_or-take, length-take-le}

module _ {A : Type 0} where
  -- Past the end nothing is left.
  pub from_end : (l : List A) (i : ℕ) → length l ≤ i → drop i l ≡ []
  from_end [] i h = lib.Seq.drop-nil i
  from_end (x ∷ l) zero h = absurd (native.Mathlib.Nat.not-suc-le-zero h)
  from_end (x ∷ l) (suc i) h = from_end l i (native.Mathlib.Nat.le_of_suc-le-suc h)

  -- Before it, the next one and what follows.
  pub from_next : (l : List A) (n i : ℕ) (d : A) → n ≤ length l → i < n → drop i (take n l) ≡ get_or l i d ∷ drop (i + 1) (take n l)
  from_next l n i d hn hi =
      let long : length (take n l) ≡ n = length-take-le n l hn in
      let hi' : i < length (take n l) = omega arith in
      rw (add-one, ← get_or-take n l i d hi) (drop-cons (take n l) i d hi')

  -- The first n of five are n.
  pub long_take : (p : List A) (n : ℕ) → length p ≡ 5 → n ≤ 5 → length (take n p) ≡ n
  long_take p n long few =
      let e : n ≤ length p = omega arith in
      length-take-le n p e
