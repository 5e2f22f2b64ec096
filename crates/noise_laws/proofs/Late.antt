-- Two places alike, eight bits apart, that end in the quiet line with three zeroes there, where
-- three flips are allowed: all flips are spent at their end, so what the balise sent stands before
-- it.
-- Assumes nothing.
use Prim.Native.Nat.{ℕ, ◌+◌, ◌-◌, ◌*◌, ◌%◌, ◌≤◌, ◌<◌}
use mathlib.Core.Path.{◌≡◌, sym, ap, ◌∙◌}
use mathlib.Core.Logic.{◌⊎◌, inl, inr}
use mathlib.Core.Bool.{true}
use mathlib.Core.List.{List}
use native.Mathlib.Omega.{arith}
use lib.ListN.{get_or}
use Rattle.words.specs.Answer.{gives}
use Rattle.telegram.specs.Stretch.{bit_at}
use Rattle.telegram.specs.Place.{words_at, accepted}
use Rattle.telegram.proofs.Window.{bit_lt}
use Rattle.telegram.proofs.Taken.{part_taken}
use Rattle.balise_line.specs.Line.{OneBalise, Proper, repeated, sent_bit, line_bit, unequal, sum}
use Rattle.balise_line.proofs.Sums.{sum_split, sum_ext, sum_none, none_sum, unequal_lt, unequal_none, unequal_same, not_at}
use Rattle.balise_line.proofs.Wrong.{Bytes}
use Rattle.noise_laws.specs.Pass.{line_at, flipped, flips_in, NoisyPass}
use Rattle.noise_laws.specs.Reading.{allowed}
use Rattle.noise_laws.proofs.Flips.{flips_split, zeroes_flips}
use Rattle.noise_laws.proofs.Inside.{one_after, sent_there}
use Rattle.noise_laws.proofs.Rounds.{repeats}
use Rattle.noise_laws.proofs.Tests.{spelt, is_short, zs}
use Rattle.noise_laws.proofs.Near.{near_sent}
use Rattle.noise_laws.proofs.Spread.{sum_most, spread}
use Rattle.noise_laws.proofs.Zero.{zeroes_sum}
use Rattle.noise_laws.proofs.Eighth.{at_most_three, same_round}

module _ (o : OneBalise) (proper : Proper o) (most from to : ℕ) (pass : NoisyPass most o from to) (three : most ≤ 3) (p k : ℕ)
    (low : o.start ≤ p) (at : p + 40 ≡ o.start + o.len + k) (k-pos : 1 ≤ k) (k-top : k ≤ 7) (room : p + 48 ≤ to) where
  abbrev b : List ℕ
  b = o.buffer

  abbrev r : ℕ → ℕ
  r i = bit_at b (p + i)

  -- line bit of the first place
  abbrev q : ℕ
  q = line_bit o p

  module _ (x_short : is_short (spelt r 8 8) ≡ true) (e : ℕ) (e-low : e < 8) (three-allowed : 3 ≤ get_or allowed e 0) (differ : (i : ℕ) → i < 8 → unequal (r i) (r (32 + i)) ≡ not_at e i)
      (per : (i : ℕ) → i < 24 → r (8 + (i + 8)) ≡ r (8 + i)) (last : (i : ℕ) → i < 8 → r (40 + i) ≡ r i) (many : 3 ≤ zs r 39 9) (few : zs r 39 9 ≤ most) where
    -- Before the last nine bits nothing is flipped.
    none_flipped : flips_in (line_at o) b (p + 8) 31 ≡ 0
    unfolding zs
    none_flipped =
        let window = pass.few (p + 8) (omega (arith, pass.from_low)) (omega arith) in
        let u : p + 8 + 31 ≡ p + 39 = omega arith in
        let same = sum_ext (λ i. 1 - r (39 + i)) (λ i. 1 - bit_at b (p + 39 + i)) 9 (λ i l. let v : p + (39 + i) ≡ p + 39 + i = omega arith in ap (λ (j : ℕ). 1 - bit_at b j) v) in
        let cost = zeroes_flips (line_at o) b (p + 39) 9 (λ i l. one_after o (p + 39 + i) (omega arith)) in
        omega (arith, window, flips_split (line_at o) b (p + 8) 31 9, ap (λ (j : ℕ). flips_in (line_at o) b j 9) u, same, zeroes_sum b (p + 39) 9, cost, many, three)

    unflipped : (i : ℕ) → 8 ≤ i → i < 39 → r i ≡ line_at o (p + i)
    unfolding flips_in flipped
    unflipped i up down =
        let j = i - 8 in
        let u : p + 8 + j ≡ p + i = omega arith in
        unequal_none (r i) (line_at o (p + i)) (sym (ap (λ (x : ℕ). unequal (bit_at b x) (line_at o x)) u) ∙ sum_none (λ i. unequal (bit_at b (p + 8 + i)) (line_at o (p + 8 + i))) 31 none_flipped j (omega arith))

    as_sent : (i : ℕ) → 8 ≤ i → i < 40 - k → r i ≡ sent_bit o (q + i)
    as_sent i up down = unflipped i up (omega arith) ∙ sent_there o p i low (omega arith)

    quiet : (i : ℕ) → 40 - k ≤ i → i < 39 → r i ≡ 1
    quiet i up down = unflipped i (omega arith) down ∙ one_after o (p + i) (omega arith)

    -- With the sync words in the one order or the other.
    module _ (n : ℕ) (n-low : n < 64) (n_is : n % 8 ≡ q % 8)
        (first_word : (j i : ℕ) → i < 8 → (n + j) % 64 ≡ i → sent_bit o (q + j) ≡ r i) (second_word : (j i : ℕ) → i < 8 → (n + j) % 64 ≡ 32 + i → sent_bit o (q + j) ≡ r (32 + i)) where
      repeats_eight : (i : ℕ) → i < 32 → r (8 + i) ≡ r (8 + i % 8)
      repeats_eight i l = repeats r 8 8 24 per (omega arith) i (omega arith)

      exactly : zs r 39 9 ≡ 3
      exactly = omega (arith, many, few, three)

      k_three : k ≤ 3
      k_three = at_most_three r (λ i. bit_lt b (p + i)) x_short e e-low three-allowed differ repeats_eight last exactly (λ j. sent_bit o (q + j)) n k n-low k-pos k-top first_word second_word as_sent quiet

      round_so : (i : ℕ) → i < 24 → r (8 + (8 + i + 7 * (n % 8)) % 8) ≡ r (8 + i)
      round_so = same_round r (λ i. bit_lt b (p + i)) x_short e e-low three-allowed differ repeats_eight last exactly (λ j. sent_bit o (q + j)) n k n-low k-pos k-top first_word second_word as_sent quiet

      -- the line that repeats the word
      abbrev c : ℕ → ℕ
      c j = r (8 + (j + 7 * (q % 8)) % 8)

      c_again : (j : ℕ) → c (j + 32) ≡ c j
      c_again j = let u : (j + 32 + 7 * (q % 8)) % 8 ≡ (j + 7 * (q % 8)) % 8 = omega arith in ap (λ (x : ℕ). r (8 + x)) u

      -- It is what was received from the first X on,
      c_there : (i : ℕ) → i < 32 → c (q + 8 + i) ≡ r (8 + i)
      c_there i l = let u : (q + 8 + i + 7 * (q % 8)) % 8 ≡ i % 8 = omega arith in ap (λ (x : ℕ). r (8 + x)) u ∙ sym (repeats_eight i l)

      -- and so it is at a telegram's beginning.
      c_here : (i : ℕ) → i < 24 → c (8 + i) ≡ r (8 + i)
      c_here i l = ap (λ (x : ℕ). r (8 + (8 + i + 7 * x) % 8)) (sym n_is) ∙ round_so i l

      few_differ : sum (λ i. unequal (c (q + 8 + i)) (sent_bit o (q + 8 + i))) 32 ≤ k
      few_differ =
          let f : ℕ → ℕ = λ i. unequal (c (q + 8 + i)) (sent_bit o (q + 8 + i)) in
          let u : 32 - k + k ≡ 32 = omega arith in
          let front = none_sum f (32 - k) (λ i l. unequal_same (c (q + 8 + i)) (sent_bit o (q + 8 + i)) (let v : q + (8 + i) ≡ q + 8 + i = omega arith in c_there i (omega arith) ∙ as_sent (8 + i) (omega arith) (omega arith) ∙ ap (sent_bit o) v)) in
          let back = sum_most (λ i. f (32 - k + i)) k (λ i. unequal_lt (c (q + 8 + (32 - k + i))) (sent_bit o (q + 8 + (32 - k + i)))) in
          so (sum f 32) (sum f (32 - k)) (sum (λ i. f (32 - k + i)) k) (ap (sum f) (sym u) ∙ sum_split f (32 - k) k) front back
        where
          so : (all x y : ℕ) → all ≡ x + y → x ≡ 0 → y ≤ k → all ≤ k
          so all x y h i j = omega arith

      reads_so : accepted (words_at b p) ≡ true → words_at b p ≡ gives o.telegram
      reads_so ok =
          let taken = part_taken b from (to - from) p 40 pass.taken (omega (arith, pass.from_low)) (omega (arith, pass.from_low)) in
          let same = sum_ext (λ i. unequal (bit_at b (p + (8 + i))) (bit_at (repeated o) (8 + i))) (λ i. unequal (c (8 + i)) (bit_at (repeated o) (8 + i))) 24
          (λ i l. ap (λ (x : ℕ). unequal x (bit_at (repeated o) (8 + i))) (sym (c_here i l))) in
          near_sent o proper p taken (so (sum (λ i. unequal (bit_at b (p + (8 + i))) (bit_at (repeated o) (8 + i))) 24) (sum (λ i. unequal (c (8 + i)) (bit_at (repeated o) (8 + i))) 24)
          (sum (λ i. unequal (c (q + 8 + i)) (sent_bit o (q + 8 + i))) 32) same (spread o c c_again (q + 8)) few_differ k_three) ok
        where
          so : (x y z : ℕ) → x ≡ y → y ≤ z → z ≤ k → k ≤ 3 → x ≤ 3
          so x y z h i j l = omega arith

    pub late_reads : Bytes o proper p 0 32 ⊎ Bytes o proper p 32 0 → accepted (words_at b p) ≡ true → words_at b p ≡ gives o.telegram
    unfolding sent_bit
    late_reads (inl is) ok =
        reads_so (q % 64) (omega arith) (omega arith)
        (λ j i l at_i. let u : (q + j) % 64 ≡ 0 + i = omega arith in ap (bit_at (repeated o)) u ∙ sym (is i l).0)
        (λ j i l at_i. let u : (q + j) % 64 ≡ 32 + i = omega arith in let v : p + 32 + i ≡ p + (32 + i) = omega arith in ap (bit_at (repeated o)) u ∙ sym (is i l).1 ∙ ap (bit_at b) v) ok
    late_reads (inr is) ok =
        reads_so ((q + 32) % 64) (omega arith) (omega arith)
        (λ j i l at_i. let u : (q + j) % 64 ≡ 32 + i = omega arith in ap (bit_at (repeated o)) u ∙ sym (is i l).0)
        (λ j i l at_i. let u : (q + j) % 64 ≡ 0 + i = omega arith in let v : p + 32 + i ≡ p + (32 + i) = omega arith in ap (bit_at (repeated o)) u ∙ sym (is i l).1 ∙ ap (bit_at b) v) ok
