-- Table DF and the signal speeds: each entry of the constant tables gives what document 01's tables
-- give, by one computation over all entries.
-- Assumes nothing.
use Prim.Native.Nat.{ℕ, zero, suc, ◌^◌, ◌<◌, ◌≤◌}
use mathlib.Core.Path.{◌≡◌, refl, ap, subst}
use mathlib.Core.Bool.{Bool, true, false, ◌&&◌, ◌||◌}
use mathlib.Core.List.{List, [], ◌∷◌}
use native.Mathlib.Nat.{not-suc-le-zero, le_of_suc-le-suc}
use native.Mathlib.Omega.{arith}
use borrow.Author.Tests.{ne_eqb, le-leb, lt-leb}
use lib.Dec.{T, eqb, leb, ltb, ltb→lt, eqb→eq}
use lib.IntN.{ℤ, pos, negsuc, nat_abs, ◌+ℤ◌, ◌*ℤ◌}
use lib.Signed.{mag, non_neg}
use lib.ListN.{length, get_or}
use mir.Syntax.{w32}
use mir.Val.{SFits, Fits, to_z, of_z}
use Rattle.words.specs.Answer.{Outcome, gives, refuses, pick}
use Rattle.group.specs.Distance.{Column, columns, in_table, distance}
use Rattle.group.specs.declared.Told.{Told}
use Rattle.group.specs.Speed.{speeds, nth, signal_speed}
use Rattle.group.proofs.Grid.{grid, grid_at}

-- ---- table DF as the code holds it

abbrev pub bases : List ℕ
bases = 0 ∷ 1750 ∷ 3500 ∷ 5250 ∷ 7000 ∷ 10500 ∷ 14000 ∷ 21000 ∷ 35000 ∷ 49000 ∷ 63000 ∷ 77000 ∷ 91000 ∷ 105000 ∷ 7500 ∷ []

abbrev pub steps : List ℤ
steps =
    pos 125 ∷ pos 125 ∷ pos 125 ∷ pos 125 ∷ pos 250 ∷ pos 250 ∷ pos 500 ∷ pos 1000 ∷ pos 1000 ∷ pos 1000 ∷ pos 1000 ∷ pos 1000 ∷ pos 1000
    ∷ pos 1000 ∷ negsuc 499 ∷ []

-- The base, the signed product, and their sum, as the code works them out.
abbrev pub base_at : ℕ → ℕ
base_at by = get_or bases by 0

abbrev pub product : ℕ → ℕ → ℤ
product by figure = to_z w32 (of_z w32 (get_or steps by (pos 0))) *ℤ to_z w32 figure

abbrev pub sum : ℕ → ℕ → ℤ
sum by figure = to_z w32 (base_at by) +ℤ to_z w32 (of_z w32 (product by figure))

abbrev pub result : ℕ → ℕ → ℤ
result by figure = to_z w32 (of_z w32 (sum by figure))

-- ---- what is tested of each entry, and what follows

abbrev gives_this : ℕ → Outcome ℕ → Bool
gives_this d (gives x) = eqb d x
gives_this d (refuses n) = false

gives_this_law : (d : ℕ) (o : Outcome ℕ) → T (gives_this d o) → gives d ≡ o
gives_this_law d (gives x) t = ap gives (eqb→eq d x t)
gives_this_law d (refuses n) t = absurd t

-- A number that is worked out for each entry fits, by one computation.
all_fit : (z : ℕ → ℕ → ℤ) → T (grid (λ b f. ltb (mag (z b f)) (2 ^ 31)) 15 15)
    → (by figure : ℕ) → by < 15 → figure < 15 → SFits w32 (z by figure)
all_fit z t by figure hb hf =
    record { sfits = ltb→lt (mag (z by figure)) (2 ^ 31) (grid_at (λ b f. ltb (mag (z b f)) (2 ^ 31)) 15 15 t by figure hb hf) }

-- It is what document 01's table gives; figure 0 has no distance.
abbrev right : ℕ → ℕ → Bool
right by figure = eqb figure 0 || gives_this (nat_abs (result by figure)) (distance by figure)

all_right : T (grid right 15 15)
unfolding distance
all_right = tt

or_right : (a b : Bool) → a ≡ false → T (a || b) → T b
or_right true b e t = absurd (subst T e tt)
or_right false b e t = t

module _ (by figure : ℕ) (hb : by < 15) (hf : figure < 15) where
  pub base_fits : SFits w32 (pos (base_at by))
  base_fits = all_fit (λ b f. pos (base_at b)) tt by figure hb hf

  pub product_fits : SFits w32 (product by figure)
  product_fits = all_fit product tt by figure hb hf

  pub sum_fits : SFits w32 (sum by figure)
  sum_fits = all_fit sum tt by figure hb hf

  pub natural : T (non_neg (result by figure)) × Fits w32 (nat_abs (result by figure))
  natural = (
    grid_at (λ b f. non_neg (result b f)) 15 15 tt by figure hb hf,
    record { fits = ltb→lt (nat_abs (result by figure)) (2 ^ 32) (grid_at (λ b f. ltb (nat_abs (result b f)) (2 ^ 32)) 15 15 tt by figure hb hf) },
  )

  pub entry_right : 1 ≤ figure → gives (nat_abs (result by figure)) ≡ distance by figure
  entry_right h =
      let ne : figure ≡ 0 → ⊥ = omega arith in
      gives_this_law (nat_abs (result by figure)) (distance by figure)
      (or_right (eqb figure 0) (gives_this (nat_abs (result by figure)) (distance by figure))
      (ne_eqb figure 0 ne) (grid_at right 15 15 all_right by figure hb hf))

-- ---- outside the table

out_of_table : (cs : List Column) (by figure : ℕ) → length cs ≤ by → in_table cs by figure ≡ refuses 15
out_of_table [] by figure h = refl
out_of_table (c ∷ cs) zero figure h = absurd (not-suc-le-zero h)
out_of_table (c ∷ cs) (suc by) figure h = out_of_table cs by figure (le_of_suc-le-suc h)

pub no_column : (by figure : ℕ) → 14 < by → distance by figure ≡ refuses 15
unfolding distance
no_column by figure h = rw (out_of_table columns by figure h) (same (leb 1 figure && leb figure 14))
  where
    same : (b : Bool) → pick {A = Outcome ℕ} b (refuses 15) (refuses 15) ≡ refuses 15
    same true = refl
    same false = refl

pub figure_zero : (by figure : ℕ) → figure < 1 → distance by figure ≡ refuses 15
unfolding distance
figure_zero by figure h = rw (lt-leb 1 figure h)

pub figure_above : (by figure : ℕ) → 14 < figure → distance by figure ≡ refuses 15
unfolding distance
figure_above by figure h =
    let one : 1 ≤ figure = omega arith in
    rw (le-leb 1 figure one, lt-leb figure 14 h)

-- ---- the speeds

told_in : (vs : List ℕ) (figure : ℕ) → figure < length vs → nth vs figure ≡ Told.Kmh (get_or vs figure 0)
told_in [] figure h = absurd (not-suc-le-zero h)
told_in (v ∷ vs) zero h = refl
told_in (v ∷ vs) (suc figure) h = told_in vs figure (le_of_suc-le-suc h)

told_out : (vs : List ℕ) (figure : ℕ) → length vs ≤ figure → nth vs figure ≡ Told.Unknown
told_out [] figure h = refl
told_out (v ∷ vs) zero h = absurd (not-suc-le-zero h)
told_out (v ∷ vs) (suc figure) h = told_out vs figure (le_of_suc-le-suc h)

pub speed_in : (figure : ℕ) → figure < 14 → signal_speed figure ≡ Told.Kmh (get_or speeds figure 0)
unfolding signal_speed
speed_in figure h = told_in speeds figure h

pub speed_out : (figure : ℕ) → 14 ≤ figure → signal_speed figure ≡ Told.Unknown
unfolding signal_speed
speed_out figure h = told_out speeds figure h
