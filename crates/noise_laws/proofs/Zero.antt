-- Two places whose words are zeroes, and whose ends lie in the quiet line: the balise's own words
-- have too few ones to be anything else.
-- Assumes nothing.
use Prim.Native.Nat.{ℕ, zero, suc, ◌+◌, ◌-◌, ◌≤◌, ◌<◌}
use mathlib.Core.Path.{◌≡◌, refl, sym, ap, ap₂, ◌∙◌}
use mathlib.Core.Bool.{true}
use mathlib.Core.List.{List}
use native.Mathlib.Omega.{arith}
use Rattle.words.specs.Answer.{gives}
use Rattle.telegram.specs.Stretch.{bit_at}
use Rattle.telegram.specs.Place.{words_at, accepted}
use Rattle.telegram.proofs.Taken.{part_taken}
use Rattle.balise_line.specs.Line.{OneBalise, Proper, repeated, sent_bit, line_bit, unequal, sum}
use Rattle.balise_line.proofs.Sums.{sum_split, sum_ext, unequal_lt}
use Rattle.contact_laws.specs.Zeroes.{zeroes_in}
use Rattle.noise_laws.specs.Pass.{line_at, flipped, flips_in, NoisyPass}
use Rattle.noise_laws.proofs.Flips.{flips_split, zeroes_flips}
use Rattle.noise_laws.proofs.Inside.{one_after, sent_there}
use Rattle.noise_laws.proofs.Tests.{zs}
use Rattle.noise_laws.proofs.Near.{near_sent}
use Rattle.noise_laws.proofs.Spread.{sum_most, spread}

-- The zeroes of a part of the line, as a sum.
pub zeroes_sum : (b : List ℕ) (a n : ℕ) → zeroes_in b a n ≡ sum (λ i. 1 - bit_at b (a + i)) n
unfolding zeroes_in sum
zeroes_sum b a zero = refl
zeroes_sum b a (suc n) = ap (λ (k : ℕ). k + (1 - bit_at b (a + n))) (zeroes_sum b a n)

all_one : (f : ℕ → ℕ) (n : ℕ) → ((i : ℕ) → i < n → f i ≡ 1) → sum f n ≡ n
unfolding sum
all_one f zero one = refl
all_one f (suc n) one = omega (arith, all_one f n (λ i l. one i (omega arith)), one n (omega arith))

-- The first place begins at bit p and has k bits of the quiet line; the second is d bits on.
module _ (o : OneBalise) (proper : Proper o) (most from to : ℕ) (pass : NoisyPass most o from to) (three : most ≤ 3) (p d k : ℕ)
    (low : o.start ≤ p) (at : p + 40 ≡ o.start + o.len + k) (top : k + d ≤ 15) (room : p + d + 40 ≤ to) (high : 8 ≤ d) where
  abbrev b : List ℕ
  b = o.buffer

  abbrev r : ℕ → ℕ
  r i = bit_at b (p + i)

  -- how many bits of the second place are the balise's
  abbrev n : ℕ
  n = 40 - k - d

  -- line bit of the first place's X
  abbrev q : ℕ
  q = line_bit o p + 8

  module _ (none : (i : ℕ) → 8 ≤ i → i < 32 + d → r i ≡ 0) (one : 1 ≤ zs r (32 + d) 8) where
    -- In the quiet line the zeroes are flips.
    quiet_zeroes : k + d - 7 ≤ zeroes_in b (p + d + n) (k + d)
    unfolding zs
    quiet_zeroes =
        let f : ℕ → ℕ = λ i. 1 - bit_at b (p + d + n + i) in
        let m = k + d - 8 in
        let e : m + 8 ≡ k + d = omega arith in
        let first : sum f m ≡ m =
        all_one f m (λ i l. let u : p + d + n + i ≡ p + (40 - k + i) = omega arith in ap (λ (j : ℕ). 1 - bit_at b j) u ∙ ap (λ (j : ℕ). 1 - j) (none (40 - k + i) (omega arith) (omega arith))) in
        let last : sum (λ i. f (m + i)) 8 ≡ sum (λ i. 1 - r (32 + d + i)) 8 =
        sum_ext (λ i. f (m + i)) (λ i. 1 - r (32 + d + i)) 8 (λ i l. let u : p + d + n + (m + i) ≡ p + (32 + d + i) = omega arith in ap (λ (j : ℕ). 1 - bit_at b j) u) in
        so (zeroes_in b (p + d + n) (k + d)) (sum f m) (sum (λ i. f (m + i)) 8) (sum (λ i. 1 - r (32 + d + i)) 8)
        (zeroes_sum b (p + d + n) (k + d) ∙ ap (sum f) (sym e) ∙ sum_split f m 8) first last one
      where
        so : (all x y z : ℕ) → all ≡ x + y → x ≡ k + d - 8 → y ≡ z → 1 ≤ z → k + d - 7 ≤ all
        so all x y z h i j l = omega arith

    -- In the balise's part the ones sent are.
    ones_sent : sum (λ i. unequal 0 (sent_bit o (q + (d - 8 + i)))) n ≡ flips_in (line_at o) b (p + d) n
    unfolding flips_in flipped
    ones_sent =
        sum_ext (λ i. unequal 0 (sent_bit o (q + (d - 8 + i)))) (λ i. unequal (bit_at b (p + d + i)) (line_at o (p + d + i))) n
        (λ i l. let u : p + d + i ≡ p + (d + i) = omega arith in
        let v : q + (d - 8 + i) ≡ line_bit o p + (d + i) = omega arith in
        sym (ap₂ unequal (ap (bit_at b) u ∙ none (d + i) (omega arith) (omega arith)) (ap (line_at o) u ∙ sent_there o p (d + i) low (omega arith) ∙ ap (sent_bit o) (sym v))))

    few_sent : sum (λ i. unequal 0 (sent_bit o (q + i))) 32 ≤ 2
    few_sent =
        let f : ℕ → ℕ = λ i. unequal 0 (sent_bit o (q + i)) in
        let g : ℕ → ℕ = λ i. f (d - 8 + i) in
        let e : d - 8 + (n + k) ≡ 32 = omega arith in
        let e' : n + (k + d) ≡ 40 = omega arith in
        let cut = ap (sum f) (sym e) ∙ sum_split f (d - 8) (n + k) in
        let cut' = sum_split g n k in
        let front = sum_most f (d - 8) (λ i. unequal_lt 0 (sent_bit o (q + i))) in
        let back = sum_most (λ i. g (n + i)) k (λ i. unequal_lt 0 (sent_bit o (q + (d - 8 + (n + i))))) in
        let window = pass.few (p + d) (omega (arith, pass.from_low)) room in
        let split = ap (flips_in (line_at o) b (p + d)) (sym e') ∙ flips_split (line_at o) b (p + d) n (k + d) in
        let zeroes-cost = zeroes_flips (line_at o) b (p + d + n) (k + d) (λ i l. one_after o (p + d + n + i) (omega arith)) in
        so (sum f 32) (sum f (d - 8)) (sum g (n + k)) (sum g n) (sum (λ i. g (n + i)) k) (flips_in (line_at o) b (p + d) 40) (flips_in (line_at o) b (p + d) n)
        (flips_in (line_at o) b (p + d + n) (k + d)) (zeroes_in b (p + d + n) (k + d)) cut cut' front back window split zeroes-cost quiet_zeroes ones_sent
      where
        so : (all x y u v w s t zs : ℕ) → all ≡ x + y → y ≡ u + v → x ≤ d - 8 → v ≤ k → w ≤ most → w ≡ s + t → zs ≤ t → k + d - 7 ≤ zs → u ≡ s → all ≤ 2
        so all x y u v w s t zs h1 h2 h3 h4 h5 h6 h7 h8 h9 = omega arith

    pub zero_reads : accepted (words_at b p) ≡ true → words_at b p ≡ gives o.telegram
    zero_reads ok =
        let taken = part_taken b from (to - from) p 40 pass.taken (omega (arith, pass.from_low)) (omega (arith, pass.from_low)) in
        let spreads = spread o (λ j. 0) (λ j. refl) q in
        let same = sum_ext (λ i. unequal (bit_at b (p + (8 + i))) (bit_at (repeated o) (8 + i))) (λ i. unequal 0 (bit_at (repeated o) (8 + i))) 24
        (λ i l. ap (λ (x : ℕ). unequal x (bit_at (repeated o) (8 + i))) (none (8 + i) (omega arith) (omega arith))) in
        near_sent o proper p taken (omega (arith, spreads, same, few_sent)) ok
