-- Looking for a balise of category c from balise i of the first n on: one balise, and the rest.
-- Assumes nothing.
use Prim.Native.Nat.{ℕ, suc, ◌+◌, ◌<◌, ◌≤◌}
use mathlib.Core.Path.{◌≡◌, refl, ap, ◌∙◌}
use mathlib.Core.Bool.{Bool, true, false, ◌&&◌}
use mathlib.Core.List.{List, [], ◌∷◌}
use native.Mathlib.Numerals.{add-one}
use native.Mathlib.Omega.{arith}
use lib.ListN.{length, take, drop, get_or}
use Rattle.group_rows.specs.declared.Placed.{Placed}
use Rattle.std.specs.Prelude.{Option, Some, None}
use Rattle.words.specs.Answer.{pick}
use Rattle.group_rows.specs.declared.Kind.{Kind}
use Rattle.group_rows.specs.Row.{any, is_category, Found, none, found, first}
use Rattle.group_rows.proofs.Figures.{meets_any}
use Rattle.group_rows.proofs.Leads.{blank}
use Rattle.group.proofs.Lists.{from_next, from_end, long_take}
use Rattle.group_reason.specs.declared.figures.Sought.{Sought}
use Rattle.group.specs.Distance.{is_preset, no_increase}
use Rattle.group.specs.Judge.{y_of, z_of}
use Rattle.group.specs.Inside.{says_sought}
use Rattle.group_reason.specs.Explain.{index_of, why_distance, why_present}
use Rattle.group_reason.specs.Inside.{sought_from, why_of}

module _ (c : ℕ) (p : List Placed) (n : ℕ) (long : length p ≡ 5) (few : n ≤ 5) where
  rest_next : (i : ℕ) → i < n → drop i (take n p) ≡ get_or p i blank ∷ drop (i + 1) (take n p)
  rest_next i h = let e : n ≤ length p = omega arith in from_next p n i blank e h

  pub sought_yes : (i : ℕ) → i < n → is_category c (get_or p i blank).part ≡ true
      → sought_from c i (drop i (take n p))
      ≡ record { balise = i; found = Some (get_or p i blank) }
  unfolding sought_from
  sought_yes i h e = rw (rest_next i h, e)

  pub sought_no : (i : ℕ) → i < n → is_category c (get_or p i blank).part ≡ false
      → sought_from c i (drop i (take n p)) ≡ sought_from c (i + 1) (drop (i + 1) (take n p))
  unfolding sought_from
  sought_no i h e = rw (rest_next i h, e, add-one i)

  pub sought_none : (i : ℕ) → n ≤ i → sought_from c i (drop i (take n p)) ≡ record { balise = i; found = None }
  unfolding sought_from
  sought_none i h =
      let e : length (take n p) ≡ n = long_take p n long few in
      let f : length (take n p) ≤ i = omega arith in
      rw (from_end (take n p) i f)

-- ---- what is found

-- A balise that was looked for, as it is found.
abbrev one_of : Found → Option Placed
one_of none = None
one_of (found b) = Some b

one_of_is : (f : Found) → says_sought (one_of f) ≡ f
one_of_is none = refl
one_of_is (found b) = refl

abbrev as_sought : ℕ → Found → Sought
as_sought i f = record { balise = i; found = one_of f }

pub sought_is : (c i : ℕ) (bs : List Placed) → sought_from c i bs ≡ as_sought (i + index_of c bs) (first (any c) bs)
unfolding sought_from index_of first
sought_is c i [] = let e : i ≡ i + 0 = omega arith in ap (λ (k : ℕ). as_sought k none) e
sought_is c i (b ∷ bs) = rw (meets_any c b.part) (go (is_category c b.part) (sought_is c (suc i) bs))
  where
    go : (so : Bool) → sought_from c (suc i) bs ≡ as_sought (suc i + index_of c bs) (first (any c) bs)
        → pick so (as_sought i (found b)) (sought_from c (suc i) bs) ≡ as_sought (i + pick so 0 (suc (index_of c bs))) (pick so (found b) (first (any c) bs))
    go true h = let e : i ≡ i + 0 = omega arith in ap (λ (k : ℕ). as_sought k (found b)) e
    go false h = let e : suc i + index_of c bs ≡ i + suc (index_of c bs) = omega arith in h ∙ ap (λ (k : ℕ). as_sought k (first (any c) bs)) e

-- the first of all has the index 0
from_first : (c : ℕ) (bs : List Placed) → sought_from c 0 bs ≡ as_sought (index_of c bs) (first (any c) bs)
from_first c bs = let e : 0 + index_of c bs ≡ index_of c bs = omega arith in sought_is c 0 bs ∙ ap (λ (k : ℕ). as_sought k (first (any c) bs)) e

-- From the 9 and the 14 as they were found.
pub of_warning : (bs : List Placed) → why_of false (sought_from 9 0 bs) (sought_from 14 0 bs) ≡ why_present Kind.Warning 0 bs
unfolding why_distance
of_warning bs = rw (from_first 9 bs, from_first 14 bs, one_of_is (first (any 9) bs), one_of_is (first (any 14) bs))

pub of_signal : (az : ℕ) (bs : List Placed) → why_of (is_preset (y_of (says_sought (sought_from 9 0 bs).found)) && no_increase az) (sought_from 9 0 bs) (sought_from 14 0 bs) ≡ why_present Kind.Signal az bs
unfolding why_distance
of_signal az bs = rw (from_first 9 bs, from_first 14 bs, one_of_is (first (any 9) bs), one_of_is (first (any 14) bs))
