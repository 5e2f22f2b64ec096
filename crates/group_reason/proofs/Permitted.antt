-- Balises that open a permitted group, as the matcher stopped early says, do so: some more make a
-- group that fits a row.
-- Assumes nothing.
use mathlib.Core.Path.{◌≡◌, refl, ◌∙◌}
use mathlib.Core.Bool.{Bool, true, ◌&&◌, ◌||◌}
use mathlib.Core.List.{List, [], ◌∷◌, ◌++◌}
use native.Mathlib.Omega.{arith}
use lib.Dec.{leb}
use borrow.Author.Tests.{leb-true, le-leb}
use Rattle.group_rows.specs.declared.Direction.{Direction}
use Rattle.group_rows.specs.declared.Placed.{Placed}
use Rattle.group_rows.specs.Row.{Row, row, Fit, misfit, fit, fit_row_meant, fit_rows}
use Rattle.group_rows.specs.Rows.{present, opposite, how_many, fit_in}
use Rattle.group_rows.specs.Fitting.{rows_for}
use Rattle.group_rows.specs.Opening.{Opens, are_sendable}
use Rattle.group_rows.proofs.Bools.{both, false_true}
use Rattle.group_reason.specs.Opening.{opens_members, opens_rows, is_opening}
use Rattle.group_reason.proofs.Endings.{ending, fillable, ending_fits, ending_numbers, ending_sendable, has_a, fits_row}
use Rattle.group_reason.proofs.Openings.{or_cases, or_first, or_second, is_fit, or_fit, many_append}

-- Every row calls a balise A, and can be filled.
abbrev whole : List Row → Bool
whole [] = true
whole (row kind ms ∷ rs) = (has_a ms && fillable ms) && whole rs

-- Balises that can be, without a 12, that make these a group of one of the rows.
record Ended (rs : List Row) (bs : List Placed) : Type 0 where
  more : List Placed
  numbers : how_many 12 more ≡ 0
  sendable : are_sendable more ≡ true
  fits_one : is_fit (fit_rows rs (bs ++ more)) ≡ true

rows_end : (rs : List Row) (bs : List Placed) → whole rs ≡ true → opens_rows rs bs ≡ true → Ended rs bs
unfolding opens_rows fit_rows
rows_end [] bs t e = false_true e
rows_end (row kind ms ∷ rs) bs t e =
    let h = both (has_a ms && fillable ms) (whole rs) t in
    let a = both (has_a ms) (fillable ms) h.0 in
    or_cases (opens_members ms bs) (opens_rows rs bs) e
    (λ q. record {
      more = ending ms bs;
      numbers = ending_numbers ms bs a.1;
      sendable = ending_sendable ms bs a.1;
      fits_one =
          or_fit (fit_row_meant (row kind ms) (bs ++ ending ms bs)) (fit_rows rs (bs ++ ending ms bs))
          ∙ or_first (is_fit (fit_row_meant (row kind ms) (bs ++ ending ms bs))) (is_fit (fit_rows rs (bs ++ ending ms bs)))
          (fits_row kind ms (bs ++ ending ms bs) a.0 (ending_fits ms bs a.1 q));
    })
    (λ q. let r = rows_end rs bs h.1 q in record {
      more = r.more;
      numbers = r.numbers;
      sendable = r.sendable;
      fits_one =
          or_fit (fit_row_meant (row kind ms) (bs ++ r.more)) (fit_rows rs (bs ++ r.more))
          ∙ or_second (is_fit (fit_row_meant (row kind ms) (bs ++ r.more))) (is_fit (fit_rows rs (bs ++ r.more))) r.fits_one;
    })

-- The balises open a permitted group, with some that can be.
abbrev pub Opened : List Placed → Type 0
Opened bs = (o : Opens bs) × (are_sendable o.more ≡ true)

opens_by : (way : Direction) (bs : List Placed) → leb (how_many 12 bs) 1 ≡ true → Ended (rows_for way) bs → Opened bs
unfolding fit_in
opens_by way bs few d = go (fit_rows (rows_for way) (bs ++ d.more)) refl d.fits_one
  where
    once : leb (how_many 12 (bs ++ d.more)) 1 ≡ true
    once = le-leb (how_many 12 (bs ++ d.more)) 1 (omega (arith, leb-true (how_many 12 bs) 1 few, many_append 12 bs d.more, d.numbers))

    go : (f : Fit) → fit_rows (rows_for way) (bs ++ d.more) ≡ f → is_fit f ≡ true → Opened bs
    go misfit q e = false_true e
    go (fit kind a) q e = (record { more = d.more; way = way; kind = kind; a = a; fits = rw (once, q) }, d.sendable)

-- Balises that are found to open a permitted group do so.
pub real_opening : (bs : List Placed) → is_opening bs ≡ true → Opened bs
unfolding is_opening
real_opening bs e =
    let h = both (leb (how_many 12 bs) 1) (opens_rows present bs || opens_rows opposite bs) e in
    or_cases (opens_rows present bs) (opens_rows opposite bs) h.1
    (λ q. opens_by Direction.Present bs h.0 (rows_end present bs refl q))
    (λ q. opens_by Direction.Opposite bs h.0 (rows_end opposite bs refl q))
