-- Looking for a balise of category c among the first m of five: the first one, and the others.
-- Assumes nothing.
use Prim.Native.Nat.{ℕ, suc, ◌-◌, ◌<◌, ◌≤◌}
use mathlib.Core.Path.{◌≡◌, ap, ◌∙◌}
use mathlib.Core.Bool.{true, false}
use mathlib.Core.List.{List, ◌∷◌}
use native.Mathlib.Omega.{arith}
use lib.ListN.{length, take, get_or}
use Rattle.group_rows.specs.declared.Placed.{Placed}
use Rattle.group_rows.specs.Row.{any, is_category, none, found, first}
use Rattle.group_rows.proofs.Figures.{meets_any}
use Rattle.group_rows.proofs.Ahead.{onward, first_then}
use Rattle.group_rows.proofs.Leads.{blank}

module _ (c : ℕ) (q : List Placed) (m : ℕ) (five : length q ≡ 5) (few : m ≤ 5) (some : 0 < m) where
  split : take m q ≡ get_or q 0 blank ∷ take (m - 1) (onward q)
  split =
      let e : m ≡ suc (m - 1) = omega arith in
      let h : m - 1 < 5 = omega arith in
      ap (λ (k : ℕ). take k q) e ∙ first_then q (m - 1) blank five h

  pub first_yes : is_category c (get_or q 0 blank).part ≡ true → first (any c) (take m q) ≡ found (get_or q 0 blank)
  unfolding first
  first_yes e = rw (split, meets_any c (get_or q 0 blank).part ∙ e)

  pub first_no : is_category c (get_or q 0 blank).part ≡ false → first (any c) (take m q) ≡ first (any c) (take (m - 1) (onward q))
  unfolding first
  first_no e = rw (split, meets_any c (get_or q 0 blank).part ∙ e)

pub first_none : (c : ℕ) (q : List Placed) (m : ℕ) → m ≤ 0 → first (any c) (take m q) ≡ none
unfolding first
first_none c q m h = let e : m ≡ 0 = omega arith in rw e
