-- At most so many flips in forty bits in a row, sync words included, are too few for a false place,
-- where every wrong offset costs more with the equal bit where it is.
-- Assumes nothing.
use mathlib.Core.Path.{◌≡◌, ap, ◌∙◌}
use mathlib.Core.Bool.{true}
use mathlib.Core.List.{List}
use Prim.Native.Nat.{ℕ, suc, ◌+◌, ◌≤◌, ◌<◌}
use native.Mathlib.Omega.{arith}
use lib.Dec.{T}
use Rattle.words.specs.Plain.{among}
use Rattle.words.proofs.Ranges.{upto}
use Rattle.balise_line.specs.Line.{OneBalise, sum, flips, line_bit, flips_at}
use Rattle.balise_line.specs.Forty.{EqualBit, AtMostInForty}
use Rattle.balise_line.proofs.Offsets.{dear_among, among_dear}
use Rattle.balise_line.proofs.Window.{flips_split, flips_part}
use Rattle.balise_line.proofs.TooFew.{TooFew, paid, outer_flips, paid_once}
use Rattle.balise_line.proofs.EqualBit.{at_equal}

-- (Up to three flips leave every word of a telegram refused or as it was sent.)
pub forty_few : (ks : List ℕ) {most : ℕ} (o : OneBalise) (k : ℕ) → among k ks ≡ true → EqualBit o k → AtMostInForty most o
    → T (upto (dear_among ks (suc most)) 8) → most ≤ 3 → TooFew o
unfolding flips_at
forty_few ks {most} o k is equal few dearer small =
    record {
      weight = 1;
      least = suc most;
      outer = λ p l h. let f = few p l h in outer (line_bit o p) (omega arith);
      false_costs = λ e l but-one. among_dear ks (suc most) dearer e l (ap (λ (m : ℕ). among m ks) (at_equal o k e l but-one equal) ∙ is);
      inner = λ p l h straight. let f = few p l h in inner (line_bit o p) (omega arith);
    }
  where
    outer : (q : ℕ) → flips o q 40 ≤ most → sum (paid o 1 q) 8 < suc most
    outer q f =
        let a : flips o q 40 ≡ flips o q 32 + flips o (q + 32) 8 = flips_split o q 32 8 in
        let b : flips o q 8 ≤ flips o q 32 = flips_part o q q 32 8 (omega arith) (omega arith) in
        let g : sum (paid o 1 q) 8 ≤ flips o q 8 + flips o (q + 32) 8 = outer_flips o 1 q (paid_once o q) in
        omega arith

    inner : (q : ℕ) → flips o q 40 ≤ most → flips o (q + 8) 24 ≤ 3
    inner q f =
        let a : flips o (q + 8) 24 ≤ flips o q 40 = flips_part o q (q + 8) 40 24 (omega arith) (omega arith) in
        omega arith
