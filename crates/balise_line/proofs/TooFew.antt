-- Too few flips for a false place: what any hypothesis on the flips has to come to for every place
-- to be a true one with the words sent.
-- Assumes nothing.
use mathlib.Core.Path.{◌≡◌, refl, subst}
use mathlib.Core.Bool.{Bool, true, false}
use Prim.Native.Nat.{ℕ, ◌+◌, ◌*◌, ◌/◌, ◌%◌, ◌≤◌, ◌<◌}
use native.Mathlib.Omega.{arith}
use lib.Dec.{T, leb}
use borrow.Author.Tests.{leb-false}
use Rattle.words.specs.Answer.{pick}
use Rattle.balise_line.specs.Line.{OneBalise, FewFlips, flip, sum, flips, data_flips, line_bit}
use Rattle.balise_line.proofs.Sums.{sum_le, sum_both, not_at}
use Rattle.balise_line.proofs.Round.{pattern}
use Rattle.balise_line.proofs.Offsets.{weigh, dear, four}
use Rattle.balise_line.proofs.Window.{flips_part, sync_quiet, with_syncs}

-- what the flips at the bits i of two bytes count, the first from line bit q on, the second 32 bits
-- later; a flip of a sync bit counts w times
unfoldable pub paid : OneBalise → ℕ → ℕ → ℕ → ℕ
paid o w q i = weigh w ((q + i) % 32) * (flip o (q + i) + flip o (q + 32 + i))

-- Of any forty bits of the stretch the two outer bytes have less than a false place costs, with
-- this pair's equal bit; and a telegram has at most three flipped data bits.
pub record TooFew (o : OneBalise) : Type 0 where
  pub weight : ℕ
  pub least : ℕ
  pub outer : (p : ℕ) → o.start ≤ p → p + 40 ≤ o.start + o.len → sum (paid o weight (line_bit o p)) 8 < least
  pub false_costs : (e : ℕ) → e < 8 → ((i : ℕ) → i < 8 → pattern o i ≡ not_at e i) → T (dear weight least e)
  pub inner : (p : ℕ) → o.start ≤ p → p + 40 ≤ o.start + o.len → line_bit o p % 32 ≡ 0 → flips o (line_bit o p + 8) 24 ≤ 3

-- If no flip counts more than once, what the two bytes count is their flips at most.
pub outer_flips : (o : OneBalise) (w q : ℕ) → ((i : ℕ) → paid o w q i ≤ flip o (q + i) + flip o (q + 32 + i))
    → sum (paid o w q) 8 ≤ flips o q 8 + flips o (q + 32) 8
unfolding flips
outer_flips o w q once =
    let few : sum (paid o w q) 8 ≤ sum (λ i. flip o (q + i) + flip o (q + 32 + i)) 8 = sum_le (paid o w q) (λ i. flip o (q + i) + flip o (q + 32 + i)) 8 (λ i l. once i) in
    subst (λ (v : ℕ). sum (paid o w q) 8 ≤ v) (sum_both (λ i. flip o (q + i)) (λ i. flip o (q + 32 + i)) 8) few

-- A flip that counts once.
pub paid_once : (o : OneBalise) (q i : ℕ) → paid o 1 q i ≤ flip o (q + i) + flip o (q + 32 + i)
unfolding paid weigh
paid_once o q i = go (leb 8 ((q + i) % 32))
  where
    go : (t : Bool) → pick t 1 1 * (flip o (q + i) + flip o (q + 32 + i)) ≤ flip o (q + i) + flip o (q + 32 + i)
    go true = omega arith
    go false = omega arith

-- Demand 3's hypothesis comes to it: no sync bit flips, so each may count four.
pub few_flips_few : (o : OneBalise) → FewFlips o → TooFew o
unfolding data_flips paid weigh
few_flips_few o quiet =
    record {
      weight = 4;
      least = 4;
      outer = λ p l h. outer (line_bit o p);
      false_costs = λ e l is. four e l;
      inner = λ p l h straight. inner (line_bit o p) straight;
    }
  where
    once : (q i : ℕ) → paid o 4 q i ≤ flip o (q + i) + flip o (q + 32 + i)
    once q i = go (leb 8 ((q + i) % 32)) refl
      where
        go : (t : Bool) → leb 8 ((q + i) % 32) ≡ t → pick t 1 4 * (flip o (q + i) + flip o (q + 32 + i)) ≤ flip o (q + i) + flip o (q + 32 + i)
        go true is = omega arith
        go false is =
            let low : (q + i) % 32 < 8 = leb-false 8 ((q + i) % 32) is in
            let low' : (q + 32 + i) % 32 < 8 = omega arith in
            let here : flip o (q + i) ≡ 0 = sync_quiet o quiet (q + i) low in
            let there : flip o (q + 32 + i) ≡ 0 = sync_quiet o quiet (q + 32 + i) low' in
            omega arith

    outer : (q : ℕ) → sum (paid o 4 q) 8 < 4
    outer q =
        let k : ℕ = q / 32 in
        let low : 32 * k ≤ q = omega arith in
        let high : q + 8 ≤ 32 * k + 40 = omega arith in
        let low' : 32 * (k + 1) ≤ q + 32 = omega arith in
        let high' : q + 32 + 8 ≤ 32 * (k + 1) + 40 = omega arith in
        let a : flips o q 8 ≤ flips o (32 * k) 40 = flips_part o (32 * k) q 40 8 low high in
        let b : flips o (q + 32) 8 ≤ flips o (32 * (k + 1)) 40 = flips_part o (32 * (k + 1)) (q + 32) 40 8 low' high' in
        let c : flips o (32 * k) 40 ≡ data_flips o k = with_syncs o quiet k in
        let d : flips o (32 * (k + 1)) 40 ≡ data_flips o (k + 1) = with_syncs o quiet (k + 1) in
        let f = quiet.few k in
        let g : sum (paid o 4 q) 8 ≤ flips o q 8 + flips o (q + 32) 8 = outer_flips o 4 q (once q) in
        omega arith

    inner : (q : ℕ) → q % 32 ≡ 0 → flips o (q + 8) 24 ≤ 3
    inner q straight =
        let k : ℕ = q / 32 in
        let part : flips o (q + 8) 24 ≤ data_flips o k = flips_part o (32 * k + 8) (q + 8) 24 24 (omega arith) (omega arith) in
        let f = quiet.few k in
        omega arith
