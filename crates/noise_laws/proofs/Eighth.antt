-- Two places alike, eight bits apart, with the sync words swapped and three flips all at their end:
-- every word of both is the one sync word, and what the balise sent is the same words.
-- Assumes nothing.
use Prim.Native.Nat.{ℕ, suc, ◌+◌, ◌-◌, ◌*◌, ◌%◌, ◌≤◌, ◌<◌}
use mathlib.Core.Path.{◌≡◌, refl, sym, ap, ap₂, ◌∙◌, subst}
use mathlib.Core.Bool.{Bool, true, false}
use mathlib.Core.List.{List}
use native.Mathlib.Omega.{arith}
use lib.Dec.{T, eqb, eqb→eq, leb, leb→le, ltb}
use lib.ListN.{get_or}
use borrow.Author.Tests.{eq-eqb, eqb-true, eqb-false, ltb-true, ltb-false, le-leb}
use Rattle.words.specs.Answer.{pick}
use Rattle.words.proofs.Ranges.{both, both_left, both_right, upto, below}
use Rattle.balise_line.specs.Line.{unequal, sum}
use Rattle.balise_line.proofs.Sums.{sum_ext, sum_split, unequal_same, unequal_none, not_at}
use Rattle.contact_laws.proofs.Fair.{all_upto}
use Rattle.noise_laws.specs.Reading.{allowed}
use Rattle.noise_laws.proofs.Every.{every, list_of, of_every, at_list}
use Rattle.noise_laws.proofs.Rounds.{spelt_alike}
use Rattle.noise_laws.proofs.Tests.{spelt, is_short, zs, bits_of}
use Rattle.noise_laws.proofs.Overlap.{then_so}

-- The one sync word is w, the other differs from it in every bit but e.
abbrev other_bit : ℕ → (ℕ → ℕ) → ℕ → ℕ
other_bit e w i = pick (eqb i e) (w i) (1 - w i)

-- Bit j of what the balise repeats, where it is a sync bit: the other word first.
abbrev sync_bit : ℕ → (ℕ → ℕ) → ℕ → ℕ
sync_bit e w j = pick (ltb j 8) (other_bit e w j) (w (j - 32))

-- Whether bit i of the first place, received as it was sent, can be a sync bit of the line: the
-- place begins with line bit n.
abbrev can_be : ℕ → (ℕ → ℕ) → ℕ → ℕ → Bool
can_be e w n i = pick (ltb ((n + i) % 32) 8) (eqb (sync_bit e w ((n + i) % 64)) (w (i % 8))) true

-- k bits of the first place lie in the quiet line, and the rest is received as it was sent. Then k
-- is at most three, and the line repeats w with every byte that it sends. Only where three flips
-- are allowed, and three zeroes are at the end.
round_test : ℕ → (ℕ → ℕ) → ℕ → ℕ → Bool
round_test e w k n =
    pick (upto (λ i. can_be e w n (8 + i)) (32 - k)) (both (leb k 3) (upto (λ i. eqb (w ((8 + i + 7 * (n % 8)) % 8)) (w i)) 8)) true

end_test : ℕ → (ℕ → ℕ) → ℕ → Bool
end_test e w k = pick (upto (λ j. eqb (w (6 - j)) 1) (k - 1)) (upto (round_test e w k) 64) true

word_test : ℕ → List ℕ → Bool
word_test e l = pick (is_short (spelt (bits_of l) 0 8)) (pick (eqb (1 - bits_of l 7 + sum (λ i. 1 - other_bit e (bits_of l) i) 8) 3) (upto (λ k. end_test e (bits_of l) (suc k)) 7) true) true

equal_test : ℕ → Bool
equal_test e = pick (leb 3 (get_or allowed e 0)) (every 8 (word_test e)) true

equal_tested : (e : ℕ) → e < 8 → T (equal_test e)
unfolding equal_test word_test end_test round_test is_short spelt sum
equal_tested e l = below equal_test 8 tt e l

module _ (r : ℕ → ℕ) (bits : (i : ℕ) → r i < 2) (x_short : is_short (spelt r 8 8) ≡ true) (e : ℕ) (e-low : e < 8) (three : 3 ≤ get_or allowed e 0)
    (differ : (i : ℕ) → i < 8 → unequal (r i) (r (32 + i)) ≡ not_at e i) (per : (i : ℕ) → i < 32 → r (8 + i) ≡ r (8 + i % 8))
    (last : (i : ℕ) → i < 8 → r (40 + i) ≡ r i) (tail : zs r 39 9 ≡ 3)
    (sent : ℕ → ℕ) (n k : ℕ) (n-low : n < 64) (k-pos : 1 ≤ k) (k-top : k ≤ 7)
    (first_word : (j i : ℕ) → i < 8 → (n + j) % 64 ≡ i → sent j ≡ r i) (second_word : (j i : ℕ) → i < 8 → (n + j) % 64 ≡ 32 + i → sent j ≡ r (32 + i))
    (as_sent : (i : ℕ) → 8 ≤ i → i < 40 - k → r i ≡ sent i) (quiet : (i : ℕ) → 40 - k ≤ i → i < 39 → r i ≡ 1) where
  abbrev w : ℕ → ℕ
  w = bits_of (list_of r 8 8)

  w_is : (i : ℕ) → i < 8 → w i ≡ r (8 + i)
  w_is i l = at_list r 8 8 i l

  w_mod : (i : ℕ) → 8 ≤ i → i < 40 → w (i % 8) ≡ r i
  w_mod i low high =
      let u : i % 8 ≡ (i - 8) % 8 = omega arith in
      let v : 8 + (i - 8) ≡ i = omega arith in
      w_is (i % 8) (omega arith) ∙ ap (λ (j : ℕ). r (8 + j)) u ∙ sym (per (i - 8) (omega arith)) ∙ ap r v

  second_is : (i : ℕ) → i < 8 → w i ≡ r (32 + i)
  second_is i l = let u : i ≡ (32 + i) % 8 = omega arith in ap w u ∙ w_mod (32 + i) (omega arith) (omega arith)

  other_is : (i : ℕ) → i < 8 → other_bit e w i ≡ r i
  unfolding not_at
  other_is i l = go (eqb i e) refl
    where
      go : (t : Bool) → eqb i e ≡ t → pick t (w i) (1 - w i) ≡ r i
      go true q =
          second_is i l ∙ sym (unequal_none (r i) (r (32 + i)) (differ i l ∙ unequal_same i e (eqb-true i e q)))
      go false q =
          let ne : i ≡ e → ⊥ = eqb-false i e q in
          let is = second_is i l in
          let a : r i ≡ r (32 + i) → ⊥ = λ same. ne (unequal_none i e (sym (differ i l) ∙ unequal_same (r i) (r (32 + i)) same)) in
          let x = bits i in
          let y = bits (32 + i) in
          turned (w i) (r i) (r (32 + i)) is x y a
        where
          turned : (v x y : ℕ) → v ≡ y → x < 2 → y < 2 → (x ≡ y → ⊥) → 1 - v ≡ x
          turned v x y is lx ly ne = omega arith

  can_be_law : (i : ℕ) → 8 ≤ i → i < 40 - k → can_be e w n i ≡ true
  can_be_law i low high = go (ltb ((n + i) % 32) 8) refl
    where
      there : (n + i) % 32 < 8 → (t : Bool) → ltb ((n + i) % 64) 8 ≡ t → pick t (other_bit e w ((n + i) % 64)) (w ((n + i) % 64 - 32)) ≡ w (i % 8)
      there sync true q =
          let j = (n + i) % 64 in
          let l = ltb-true j 8 q in
          other_is j l ∙ sym (first_word i j l refl) ∙ sym (as_sent i low high) ∙ sym (w_mod i low (omega arith))
      there sync false q =
          let j = (n + i) % 64 in
          let up = ltb-false j 8 q in
          let at : j ≡ 32 + (j - 32) = omega arith in
          second_is (j - 32) (omega arith) ∙ sym (second_word i (j - 32) (omega arith) at) ∙ sym (as_sent i low high) ∙ sym (w_mod i low (omega arith))

      go : (t : Bool) → ltb ((n + i) % 32) 8 ≡ t → pick t (eqb (sync_bit e w ((n + i) % 64)) (w (i % 8))) true ≡ true
      go true q = eq-eqb (sync_bit e w ((n + i) % 64)) (w (i % 8)) (there (ltb-true ((n + i) % 32) 8 q) (ltb ((n + i) % 64) 8) refl)
      go false q = refl

  tail_is : 1 - w 7 + sum (λ i. 1 - other_bit e w i) 8 ≡ 3
  unfolding zs sum
  tail_is =
      ap₂ ◌+◌ (ap (λ (x : ℕ). 1 - x) (second_is 7 (omega arith)) ∙ sym one) (sum_ext (λ i. 1 - other_bit e w i) (λ i. 1 - r (39 + (1 + i))) 8 (λ i l. let u : 40 + i ≡ 39 + (1 + i) = omega arith in ap (λ (x : ℕ). 1 - x) (other_is i l ∙ sym (last i l) ∙ ap r u)))
      ∙ sym (sum_split (λ i. 1 - r (39 + i)) 1 8) ∙ tail
    where
      one : sum (λ i. 1 - r (39 + i)) 1 ≡ 1 - r 39
      one = let u : 0 + (1 - r 39) ≡ 1 - r 39 = omega arith in u

  got : T (both (leb k 3) (upto (λ i. eqb (w ((8 + i + 7 * (n % 8)) % 8)) (w i)) 8))
  unfolding equal_test word_test end_test round_test
  got =
      let short : spelt w 0 8 ≡ spelt r 8 8 = spelt_alike w r 0 8 8 (λ i l. let u : 0 + i ≡ i = omega arith in ap w u ∙ w_is i l) in
      let all = then_so (leb 3 (get_or allowed e 0)) (every 8 (word_test e)) (equal_tested e e-low) (le-leb 3 (get_or allowed e 0) three) in
      let mine = of_every r bits 8 8 (word_test e) all in
      let ending = upto (λ k. end_test e w (suc k)) 7 in
      let a = then_so (is_short (spelt w 0 8)) (pick (eqb (1 - w 7 + sum (λ i. 1 - other_bit e w i) 8) 3) ending true) mine (ap is_short short ∙ x_short) in
      let c = then_so (eqb (1 - w 7 + sum (λ i. 1 - other_bit e w i) 8) 3) ending a (eq-eqb (1 - w 7 + sum (λ i. 1 - other_bit e w i) 8) 3 tail_is) in
      let kk = k - 1 in
      let is : suc kk ≡ k = omega arith in
      let at-k = subst (λ (j : ℕ). T (end_test e w j)) is (below (λ k. end_test e w (suc k)) 7 c kk (omega arith)) in
      let ones = all_upto (λ j. eqb (w (6 - j)) 1) (k - 1) (λ j l. eq-eqb (w (6 - j)) 1 (second_is (6 - j) (omega arith) ∙ quiet (32 + (6 - j)) (omega arith) (omega arith))) in
      let at_n = then_so (upto (λ j. eqb (w (6 - j)) 1) (k - 1)) (upto (round_test e w k) 64) at-k ones in
      then_so (upto (λ i. can_be e w n (8 + i)) (32 - k)) (both (leb k 3) (upto (λ i. eqb (w ((8 + i + 7 * (n % 8)) % 8)) (w i)) 8)) (below (round_test e w k) 64 at_n n n-low)
      (all_upto (λ i. can_be e w n (8 + i)) (32 - k) (λ i l. can_be_law (8 + i) (omega arith) (omega arith)))

  pub at_most_three : k ≤ 3
  at_most_three = leb→le k 3 (both_left (leb k 3) (upto (λ i. eqb (w ((8 + i + 7 * (n % 8)) % 8)) (w i)) 8) got)

  -- The bytes that the balise sends are the words received.
  pub same_round : (i : ℕ) → i < 24 → r (8 + (8 + i + 7 * (n % 8)) % 8) ≡ r (8 + i)
  same_round i l =
      let j = i % 8 in
      let u : (8 + i + 7 * (n % 8)) % 8 ≡ (8 + j + 7 * (n % 8)) % 8 = omega arith in
      let here = eqb→eq (w ((8 + j + 7 * (n % 8)) % 8)) (w j) (below (λ i. eqb (w ((8 + i + 7 * (n % 8)) % 8)) (w i)) 8 (both_right (leb k 3) (upto (λ i. eqb (w ((8 + i + 7 * (n % 8)) % 8)) (w i)) 8) got) j (omega arith)) in
      ap (λ (x : ℕ). r (8 + x)) u ∙ sym (w_is ((8 + j + 7 * (n % 8)) % 8) (omega arith)) ∙ here ∙ w_is j (omega arith) ∙ sym (per i (omega arith))
