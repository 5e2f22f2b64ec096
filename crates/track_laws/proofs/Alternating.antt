-- What is unreadable: 55 hex, so zeroes and ones in turn. One contact opens and closes over it, and
-- it is refused with 8.
-- Assumes nothing.
use Prim.Native.Nat.{ℕ, zero, suc, ◌+◌, ◌-◌, ◌%◌, ◌≤◌, ◌<◌}
use mathlib.Core.Path.{◌≡◌, refl, sym, ap, ◌∙◌, subst}
use mathlib.Core.Bool.{Bool, true, false}
use mathlib.Core.List.{List}
use native.Mathlib.Omega.{arith}
use lib.Dec.{eqb, ltb}
use lib.ListN.{length}
use borrow.Author.Tests.{ltb-true, ltb-false, eq-eqb}
use Rattle.words.specs.Answer.{Outcome, gives, refuses, pick}
use Rattle.telegram.specs.Stretch.{bit_at, bits_at, inside}
use Rattle.telegram.specs.Sync.{is_good}
use Rattle.telegram.specs.Place.{is_place, places}
use Rattle.balise_line.specs.Line.{unequal, sum}
use Rattle.balise_line.proofs.Bits.{differing_bits}
use Rattle.balise_line.proofs.Places.{place_parts}
use Rattle.contact.specs.Judge.{Contact, marker, is_marker, judge}
use Rattle.contact.proofs.MarkerRule.{marker_is}
use Rattle.contact_laws.specs.Zeroes.{zeroes_in}
use Rattle.contact_laws.proofs.Walk.{Still}
use Rattle.contact_laws.proofs.Passes.{Passed, passes}
use Rattle.contact_laws.proofs.Few.{one_listed, few_judged}
use Rattle.contact_laws.proofs.Sixty.{syncs_differ}

-- Bits that are alike do not differ; where the second is a one they differ if the first is none.
alike : (x y v : ℕ) → x ≡ y → unequal x y ≤ 1 - v
unfolding unequal
alike x y v same = simp (eq-eqb _ _ same) (omega arith)

most : (x y : ℕ) → unequal x y ≤ 1
unfolding unequal
most x y = go (eqb x y)
  where
    go : (t : Bool) → pick t 0 1 ≤ 1
    go true = omega arith
    go false = omega arith

with_one : (x y v : ℕ) → x ≡ v → y ≡ 1 → v < 2 → unequal x y ≤ 1 - v
with_one x y zero is one low = omega (arith, most x y)
with_one x y (suc zero) is one low = alike x y 1 (is ∙ sym one)
with_one x y (suc (suc v)) is one low = absurd (omega arith)

small_sum : (u v w : ℕ) → u ≤ 1 - w % 2 → v ≤ 1 - (w + 1) % 2 → u + v ≤ 1
small_sum u v w a c = omega arith

four_pairs : (a b c d e f g h : ℕ) → a + b ≤ 1 → c + d ≤ 1 → e + f ≤ 1 → g + h ≤ 1 → 0 + a + b + c + d + e + f + g + h ≤ 4
four_pairs a b c d e f g h k l m n = omega arith

module _ (b : List ℕ) (start : ℕ) (turns : (i : ℕ) → i < 96 → bit_at b (start + i) ≡ i % 2) (quiet_after : (k : ℕ) → k < 12 → bit_at b (start + 96 + k) ≡ 1) where
  -- Of two bits in a row one is a zero.
  half : (m j : ℕ) → m + (j + j) ≤ 96 → zeroes_in b (start + m) (j + j) ≡ j
  unfolding zeroes_in
  half m zero room = refl
  half m (suc j) room =
      let e : suc j + suc j ≡ suc (suc (j + j)) = omega arith in
      let n = j + j in
      let f : start + m + n ≡ start + (m + n) = omega arith in
      let g : start + m + suc n ≡ start + (m + suc n) = omega arith in
      let one = ap (bit_at b) f ∙ turns (m + n) (omega arith) in
      let two = ap (bit_at b) g ∙ turns (m + suc n) (omega arith) in
      ap (zeroes_in b (start + m)) e ∙ omega (arith, one, two, half m j (omega arith))

  pub many : (m : ℕ) → m + 16 ≤ 96 → 5 ≤ zeroes_in b (start + m) 16
  many m room = omega (arith, half m 8 room)

  pub over_it : (h end : ℕ) → Still h → start + 96 + 12 ≤ end → Passed b h start 96 end (0 + 15)
  over_it h end still room =
      let e : start + 0 ≡ start = omega arith in
      passes b h start 96 end still many quiet_after room 0 (omega arith) (omega (arith, half 0 8 (omega arith)))

  -- ---- its contact, from bit o of it on and with e of the ones after it

  module _ (o e : ℕ) (o-low : o ≤ 15) (e-low : e ≤ 11) (s t : ℕ) (good : is_good s t ≡ true) where
    -- Two bytes 32 bits apart, of which the first begins at bit q, differ in four bits at most:
    -- where the second has a one for the first's zero.
    unlike : (p q i : ℕ) → p ≡ start + q → q + 40 ≤ 107 → i < 8 → unequal (bit_at b (p + i)) (bit_at b (p + 32 + i)) ≤ 1 - (q + i) % 2
    unlike p q i is high less = go (ltb (q + 32 + i) 96) refl
      where
        near : bit_at b (p + i) ≡ (q + i) % 2
        near = let f : p + i ≡ start + (q + i) = omega arith in ap (bit_at b) f ∙ turns (q + i) (omega arith)

        go : (x : Bool) → ltb (q + 32 + i) 96 ≡ x → unequal (bit_at b (p + i)) (bit_at b (p + 32 + i)) ≤ 1 - (q + i) % 2
        go true e =
            let l = ltb-true (q + 32 + i) 96 e in
            let f : p + 32 + i ≡ start + (q + 32 + i) = omega arith in
            let far : bit_at b (p + 32 + i) ≡ (q + 32 + i) % 2 = ap (bit_at b) f ∙ turns (q + 32 + i) l in
            let same : (q + 32 + i) % 2 ≡ (q + i) % 2 = omega arith in
            alike (bit_at b (p + i)) (bit_at b (p + 32 + i)) ((q + i) % 2) (near ∙ sym (far ∙ same))
        go false e =
            let h = ltb-false (q + 32 + i) 96 e in
            let k = q + 32 + i - 96 in
            let f : p + 32 + i ≡ start + 96 + k = omega arith in
            let far : bit_at b (p + 32 + i) ≡ 1 = ap (bit_at b) f ∙ quiet_after k (omega arith) in
            with_one (bit_at b (p + i)) (bit_at b (p + 32 + i)) ((q + i) % 2) near far (omega arith)

    -- Of two bits in a row one at most.
    one_of_two : (p q i : ℕ) → p ≡ start + q → q + 40 ≤ 107 → i + 1 < 8
        → unequal (bit_at b (p + i)) (bit_at b (p + 32 + i)) + unequal (bit_at b (p + (i + 1))) (bit_at b (p + 32 + (i + 1))) ≤ 1
    one_of_two p q i is high less =
        small_sum (unequal (bit_at b (p + i)) (bit_at b (p + 32 + i))) (unequal (bit_at b (p + (i + 1))) (bit_at b (p + 32 + (i + 1)))) (q + i)
        (unlike p q i is high (omega arith)) (let e : q + (i + 1) ≡ q + i + 1 = omega arith in subst (λ (v : ℕ). unequal (bit_at b (p + (i + 1))) (bit_at b (p + 32 + (i + 1))) ≤ 1 - v % 2) e (unlike p q (i + 1) is high (omega arith)))

    few_differ : (p : ℕ) → start ≤ p → p + 40 ≤ start + 107 → sum (λ i. unequal (bit_at b (p + i)) (bit_at b (p + 32 + i))) 8 ≤ 4
    unfolding sum
    few_differ p low high =
        let q = p - start in
        let is : p ≡ start + q = omega arith in
        let within : q + 40 ≤ 107 = omega arith in
        four_pairs (unequal (bit_at b (p + 0)) (bit_at b (p + 32 + 0))) (unequal (bit_at b (p + 1)) (bit_at b (p + 32 + 1)))
        (unequal (bit_at b (p + 2)) (bit_at b (p + 32 + 2))) (unequal (bit_at b (p + 3)) (bit_at b (p + 32 + 3)))
        (unequal (bit_at b (p + 4)) (bit_at b (p + 32 + 4))) (unequal (bit_at b (p + 5)) (bit_at b (p + 32 + 5)))
        (unequal (bit_at b (p + 6)) (bit_at b (p + 32 + 6))) (unequal (bit_at b (p + 7)) (bit_at b (p + 32 + 7)))
        (one_of_two p q 0 is within (omega arith)) (one_of_two p q 2 is within (omega arith)) (one_of_two p q 4 is within (omega arith)) (one_of_two p q 6 is within (omega arith))

    no_place : (p : ℕ) → start + o ≤ p → is_place b (start + o) (96 + e - o) s t p ≡ true → ⊥
    no_place p low is =
        let h = place_parts b (start + o) (96 + e - o) s t p is in
        let high : p + 40 ≤ start + 107 = omega (arith, h.0) in
        let seven = syncs_differ s t (bits_at b p 8) (bits_at b (p + 32) 8) good h.1 in
        omega (arith, seven, differing_bits b b p (p + 32) 8, few_differ p (omega arith) high)

    none : length (places b (start + o) (96 + e - o) s t) ≤ 1
    unfolding places
    none = one_listed (is_place b (start + o) (96 + e - o) s t) (start + o) (96 + e - o) (λ p q low mid high f g. no_place p low f)

    -- Of the last thirteen bits, the first two are zeroes in a marker.
    no_marker : is_marker b (start + o) (96 + e - o) ≡ false
    no_marker = go (is_marker b (start + o) (96 + e - o)) refl
      where
        go : (x : Bool) → is_marker b (start + o) (96 + e - o) ≡ x → x ≡ false
        go false is = refl
        go true is =
            let m = marker_is b (start + o) (96 + e - o) is in
            let i = 96 + e - o - 12 in
            let j = 96 + e - o - 13 in
            let at_i : start + o + i ≡ start + (84 + e) = omega arith in
            let at_j : start + o + j ≡ start + (83 + e) = omega arith in
            let few = m.few in
            let one : (84 + e) % 2 ≡ 0 = sym (ap (bit_at b) at_i ∙ turns (84 + e) (omega arith)) ∙ m.zeroes_first i (omega arith) in
            let two : (83 + e) % 2 ≡ 0 = sym (ap (bit_at b) at_j ∙ turns (83 + e) (omega arith)) ∙ m.zeroes_first j (omega arith) in
            absurd (omega (arith, one, two))

    pub refused_8 : inside b (start + o) (96 + e - o) ≡ true → judge b (start + o) (96 + e - o) s t ≡ refuses 8
    refused_8 taken =
        few_judged b (start + o) (96 + e - o) s t good taken none ∙ ap (λ (x : Bool). pick {A = Outcome Contact} x (gives marker) (refuses 8)) no_marker
