-- A place inside the balise's bits reads the telegram sent. At a telegram's beginning its words are
-- those sent; one bit before or after it all allowed flips are spent on the sync words, so the
-- words stand as they were sent, one bit apart; anywhere else it costs more flips than are allowed.
-- Assumes nothing.
use Prim.Native.Nat.{ℕ, zero, suc, ◌+◌, ◌-◌, ◌*◌, ◌/◌, ◌%◌, ◌≤◌, ◌<◌}
use mathlib.Core.Path.{◌≡◌, refl, sym, ap, ap₂, ◌∙◌, subst}
use mathlib.Core.Logic.{◌⊎◌, inl, inr}
use mathlib.Core.Bool.{Bool, true, false, ◌||◌}
use mathlib.Core.List.{List}
use native.Mathlib.Omega.{arith}
use lib.Dec.{eqb, leb, leb→le}
use lib.ListN.{get_or}
use borrow.Author.Tests.{eqb-true}
use Rattle.words.specs.Answer.{gives, pick}
use Rattle.words.proofs.Ranges.{upto, below}
use Rattle.telegram.specs.Stretch.{bit_at, bits_at, inside}
use Rattle.telegram.specs.Telegram.{Received, telegram}
use Rattle.telegram.specs.Place.{are_syncs, words_at, accepted, is_place}
use Rattle.telegram.proofs.Window.{bit_lt}
use Rattle.telegram.proofs.Taken.{part_taken}
use Rattle.balise_line.specs.Line.{OneBalise, Proper, repeated, sent_bit, line_bit, unequal, flip, flips, flips_at, sum}
use Rattle.balise_line.specs.Forty.{EqualBit, AtMostInForty}
use Rattle.balise_line.proofs.Sums.{sum_le, none_sum, unequal_lt, not_at, Missing, one_missing}
use Rattle.balise_line.proofs.Telegrams.{taken}
use Rattle.balise_line.proofs.Round.{pattern, seven, data_sent, word_x, word_y, word_z}
use Rattle.balise_line.proofs.Offsets.{weigh, apart, cost}
use Rattle.balise_line.proofs.Window.{unflipped_bit, flips_split, no_flip}
use Rattle.balise_line.proofs.TooFew.{paid, outer_flips, paid_once}
use Rattle.balise_line.proofs.Places.{place_parts, or_parts}
use Rattle.balise_line.proofs.Sent.{same_words_law, read_as_sent}
use Rattle.balise_line.proofs.Wrong.{as_syncs, pays}
use Rattle.balise_line.proofs.Stretch.{as_sent}
use Rattle.balise_line.proofs.EqualBit.{at_equal}
use Rattle.noise_laws.specs.Reading.{allowed}
use Rattle.noise_laws.proofs.Rounds.{spelt_alike}
use Rattle.noise_laws.proofs.Tests.{spelt}
use Rattle.noise_laws.proofs.Words.{spelt_bits}
use Rattle.noise_laws.proofs.Shift.{one_apart}
use Rattle.noise_laws.proofs.Near.{near_sent}

-- Whether an offset is one bit after a telegram's beginning, or one before the next.
abbrev is_next : ℕ → Bool
is_next r = eqb r 1 || eqb r 31

-- By the equal bit e, from 0: a wrong offset costs more flips than allowed, one beside as many.
offset_test : ℕ → Bool
offset_test e = upto (λ r. leb (get_or allowed e 0 + pick (is_next (suc r)) 0 1) (sum (cost 1 e (suc r)) 8)) 31

offsets_tested : (e r : ℕ) → e < 8 → r < 31 → get_or allowed e 0 + pick (is_next (suc r)) 0 1 ≤ sum (cost 1 e (suc r)) 8
unfolding offset_test cost weigh apart sum not_at unequal
offsets_tested e r e-low r_low =
    leb→le (get_or allowed e 0 + pick (is_next (suc r)) 0 1) (sum (cost 1 e (suc r)) 8)
    (below (λ r. leb (get_or allowed e 0 + pick (is_next (suc r)) 0 1) (sum (cost 1 e (suc r)) 8)) 31 (below offset_test 8 tt e e-low) r r_low)

pub at_most_three : (e : ℕ) → e < 8 → get_or allowed e 0 ≤ 3
at_most_three e l = leb→le (get_or allowed e 0) 3 (below (λ e. leb (get_or allowed e 0) 3) 8 tt e l)

sent_lt : (o : OneBalise) (j : ℕ) → sent_bit o j < 2
unfolding sent_bit
sent_lt o j = bit_lt (repeated o) (j % 64)

module _ (o : OneBalise) (proper : Proper o) (p : ℕ) (low : o.start ≤ p) (high : p + 40 ≤ o.start + o.len) where
  abbrev b : List ℕ
  b = o.buffer

  abbrev r : ℕ → ℕ
  r i = bit_at b (p + i)

  abbrev q : ℕ
  q = line_bit o p

  taken_here : inside b p 40 ≡ true
  taken_here = part_taken b o.start o.len p 40 proper.taken (omega arith) (omega arith)

  -- Words whose bits are those of a line f.
  word_of : (f : ℕ → ℕ) (a : ℕ) (c : List ℕ) (s : ℕ) → ((i : ℕ) → i < 24 → bit_at c (s + (8 + i)) ≡ f (a + i)) → (d : ℕ) → d ≤ 16 → bits_at c (s + (8 + d)) 8 ≡ spelt f (a + d) 8
  word_of f a c s is d top =
      sym (spelt_bits c s (8 + d) 8)
      ∙ spelt_alike (λ i. bit_at c (s + i)) f (8 + d) (a + d) 8
      (λ i l. let u : s + (8 + d + i) ≡ s + (8 + (d + i)) = omega arith in
      let v : a + (d + i) ≡ a + d + i = omega arith in
      ap (bit_at c) u ∙ is (d + i) (omega arith) ∙ ap f v)

  module _ (f : ℕ → ℕ) (bits : (i : ℕ) → f i < 2) where
    received_so : (a : ℕ) → ((i : ℕ) → i < 24 → r (8 + i) ≡ f (a + i)) → words_at b p ≡ telegram (spelt f (a + 0) 8) (spelt f (a + 8) 8) (spelt f (a + 16) 8)
    received_so a is = same_words_law o p (word_of f a b p is 0 (omega arith)) (word_of f a b p is 8 (omega arith)) (word_of f a b p is 16 (omega arith))

    sent_so : (a : ℕ) → ((i : ℕ) → i < 24 → bit_at (repeated o) (0 + (8 + i)) ≡ f (a + i)) → telegram (spelt f (a + 0) 8) (spelt f (a + 8) 8) (spelt f (a + 16) 8) ≡ gives o.telegram
    sent_so a is =
        ap₂ (λ (g : ℕ → Received) (k : ℕ). g k)
        (ap₂ telegram (sym (word_of f a (repeated o) 0 is 0 (omega arith)) ∙ word_x o proper) (sym (word_of f a (repeated o) 0 is 8 (omega arith)) ∙ word_y o proper))
        (sym (word_of f a (repeated o) 0 is 16 (omega arith)) ∙ word_z o proper)
        ∙ proper.valid

    -- All zeroes, received and sent.
    both_zero : (a c : ℕ) → a ≤ 1 → c ≤ 1 → ((i : ℕ) → i < 24 → r (8 + i) ≡ f (a + i)) → ((i : ℕ) → i < 24 → bit_at (repeated o) (0 + (8 + i)) ≡ f (c + i)) → ((i : ℕ) → i < 25 → f i ≡ 0)
        → accepted (words_at b p) ≡ true → words_at b p ≡ gives o.telegram
    unfolding unequal
    both_zero a c a-low c-low received sent none ok =
        let nothing = none_sum (λ i. unequal (r (8 + i)) (bit_at (repeated o) (8 + i))) 24
        (λ i l. let u : 8 + i ≡ 0 + (8 + i) = omega arith in
        ap₂ unequal (received i l ∙ none (a + i) (omega arith)) (ap (bit_at (repeated o)) u ∙ sent i l ∙ none (c + i) (omega arith))) in
        near_sent o proper p taken_here (omega (arith, nothing)) ok

    -- One bit late, and one bit early.
    one_late : ((i : ℕ) → i < 24 → r (8 + i) ≡ f (1 + i)) → ((i : ℕ) → i < 24 → bit_at (repeated o) (0 + (8 + i)) ≡ f (0 + i)) → accepted (words_at b p) ≡ true → words_at b p ≡ gives o.telegram
    one_late received sent ok =
        let m = taken (words_at b p) ok in
        both_zero 1 0 (omega arith) (omega arith) received sent (one_apart f bits o.telegram m.0 (sent_so 0 sent) (sym (received_so 1 received) ∙ m.1)) ok

    one_early : ((i : ℕ) → i < 24 → r (8 + i) ≡ f (0 + i)) → ((i : ℕ) → i < 24 → bit_at (repeated o) (0 + (8 + i)) ≡ f (1 + i)) → accepted (words_at b p) ≡ true → words_at b p ≡ gives o.telegram
    one_early received sent ok =
        let m = taken (words_at b p) ok in
        both_zero 0 1 (omega arith) (omega arith) received sent (one_apart f bits m.0 o.telegram (sym (received_so 0 received) ∙ m.1) (sent_so 1 sent)) ok

  -- Next to a telegram's beginning, with no data bit flipped.
  beside : (q % 32 ≡ 1) ⊎ (q % 32 ≡ 31) → flips o (q + 8) 24 ≡ 0 → accepted (words_at b p) ≡ true → words_at b p ≡ gives o.telegram
  beside where_is none ok = go where_is
    where
      received : (i : ℕ) → i < 24 → r (8 + i) ≡ sent_bit o (q + (8 + i))
      received i l =
          let u : q + (8 + i) ≡ q + 8 + i = omega arith in
          unflipped_bit o p low high (8 + i) (omega arith) (ap (flip o) u ∙ no_flip o (q + 8) 24 none i l)

      at : (k j i : ℕ) → i < 24 → j ≡ 32 * k + (8 + i) → bit_at (repeated o) (0 + (8 + i)) ≡ sent_bit o j
      at k j i l e = let u : 0 + (8 + i) ≡ 8 + i = omega arith in ap (bit_at (repeated o)) u ∙ sym (ap (sent_bit o) e ∙ data_sent o k (8 + i) (omega arith) (omega arith))

      go : (q % 32 ≡ 1) ⊎ (q % 32 ≡ 31) → words_at b p ≡ gives o.telegram
      go (inl late) =
          let f : ℕ → ℕ = λ j. sent_bit o (q + 7 + j) in
          one_late f (λ i. sent_lt o (q + 7 + i))
          (λ i l. let u : q + (8 + i) ≡ q + 7 + (1 + i) = omega arith in received i l ∙ ap (sent_bit o) u)
          (λ i l. at (q / 32) (q + 7 + (0 + i)) i l (omega arith)) ok
      go (inr early) =
          let f : ℕ → ℕ = λ j. sent_bit o (q + 8 + j) in
          one_early f (λ i. sent_lt o (q + 8 + i))
          (λ i l. let u : q + (8 + i) ≡ q + 8 + (0 + i) = omega arith in received i l ∙ ap (sent_bit o) u)
          (λ i l. at (q / 32 + 1) (q + 8 + (1 + i)) i l (omega arith)) ok

  module _ (k : ℕ) (equal : EqualBit o k) (few : flips o q 40 ≤ get_or allowed (k - 1) 0) (syncs : are_syncs o.s o.t (bits_at b p 8) (bits_at b (p + 32) 8) ≡ true)
      (ok : accepted (words_at b p) ≡ true) where
    -- the equal bit, counted from 0
    missing : Missing (pattern o) 8
    unfolding pattern
    missing = one_missing (pattern o) (λ i. unequal_lt (bit_at (repeated o) (0 + i)) (bit_at (repeated o) (32 + i))) 7 (seven o proper)

    allowed_here : flips o q 40 ≤ get_or allowed missing.at 0
    allowed_here =
        let is : suc missing.at ≡ k = at_equal o k missing.at missing.within missing.is equal in
        let e : k - 1 ≡ missing.at = omega arith in
        subst (λ (j : ℕ). flips o q 40 ≤ get_or allowed j 0) e few

    parts : flips o q 40 ≡ flips o q 8 + flips o (q + 8) 24 + flips o (q + 32) 8
    parts =
        let u : q + 8 + 24 ≡ q + 32 = omega arith in
        omega (arith, flips_split o q 32 8, flips_split o q 8 24, ap (λ (j : ℕ). flips o j 8) u)

    -- What the two outer bytes cost is paid.
    paid_for : sum (cost 1 missing.at (q % 32)) 8 ≤ flips o q 8 + flips o (q + 32) 8
    paid_for =
        omega (arith, sum_le (cost 1 missing.at (q % 32)) (paid o 1 q) 8 (pays o proper p low high (as_syncs o proper p syncs) missing.at missing.is 1), outer_flips o 1 q (paid_once o q))

    pub inner_reads : words_at b p ≡ gives o.telegram
    inner_reads = go (q % 32) refl
      where
        three : get_or allowed missing.at 0 ≤ 3
        three = at_most_three missing.at missing.within

        elsewhere : (n : ℕ) → q % 32 ≡ suc n → (t : Bool) → is_next (suc n) ≡ t → words_at b p ≡ gives o.telegram
        elsewhere n is t next = by t next cost_there
          where
            cost_there : get_or allowed missing.at 0 + pick (is_next (suc n)) 0 1 ≤ flips o q 8 + flips o (q + 32) 8
            cost_there =
                let wants = offsets_tested missing.at n missing.within (omega arith) in
                let same : sum (cost 1 missing.at (q % 32)) 8 ≡ sum (cost 1 missing.at (suc n)) 8 = ap (λ (j : ℕ). sum (cost 1 missing.at j) 8) is in
                omega (arith, wants, same, paid_for)

            by : (t : Bool) → is_next (suc n) ≡ t → get_or allowed missing.at 0 + pick (is_next (suc n)) 0 1 ≤ flips o q 8 + flips o (q + 32) 8 → words_at b p ≡ gives o.telegram
            by false e h =
                let more = subst (λ (t : Bool). get_or allowed missing.at 0 + pick t 0 1 ≤ flips o q 8 + flips o (q + 32) 8) e h in
                absurd (omega (arith, more, parts, allowed_here))
            by true e h =
                let more = subst (λ (t : Bool). get_or allowed missing.at 0 + pick t 0 1 ≤ flips o q 8 + flips o (q + 32) 8) e h in
                beside (side (or_parts (eqb (suc n) 1) (eqb (suc n) 31) e)) (omega (arith, more, parts, allowed_here)) ok
              where
                side : (eqb (suc n) 1 ≡ true) ⊎ (eqb (suc n) 31 ≡ true) → (q % 32 ≡ 1) ⊎ (q % 32 ≡ 31)
                side (inl s) = inl (is ∙ eqb-true (suc n) 1 s)
                side (inr s) = inr (is ∙ eqb-true (suc n) 31 s)

        go : (n : ℕ) → q % 32 ≡ n → words_at b p ≡ gives o.telegram
        go zero is = read_as_sent o proper p (as_sent o proper p low high is (omega (arith, parts, allowed_here, three)) ok)
        go (suc n) is = elsewhere n is (is_next (suc n)) refl

-- So every place inside the balise's bits does.
pub inside_reads : (o : OneBalise) → Proper o → (k : ℕ) → EqualBit o k → AtMostInForty (get_or allowed (k - 1) 0) o
    → (c l p : ℕ) → o.start ≤ p → p + 40 ≤ o.start + o.len → is_place o.buffer c l o.s o.t p ≡ true → words_at o.buffer p ≡ gives o.telegram
unfolding flips_at
inside_reads o proper k equal few c l p low high place =
    let h = place_parts o.buffer c l o.s o.t p place in
    inner_reads o proper p low high k equal (few p low high) h.1 h.2
