-- A marker with at most two flips in forty bits is never read. A place's outer bytes differ in
-- seven bits, and over the marker every one is a flip; so a place has to end in the quiet line. Of
-- two alike the bits would repeat, where zeroes are followed by ones.
-- Assumes nothing.
use Prim.Native.Nat.{ℕ, ◌+◌, ◌-◌, ◌≤◌, ◌<◌}
use mathlib.Core.Path.{◌≡◌, refl, sym, ap, ◌∙◌, subst}
use mathlib.Core.Logic.{◌⊎◌, inl, inr}
use mathlib.Core.Bool.{Bool, true, false, ◌&&◌}
use mathlib.Core.List.{List}
use native.Mathlib.Omega.{arith}
use lib.Dec.{eqb, leb}
use borrow.Author.Tests.{leb-true, leb-false, eqb-true}
use Rattle.telegram.specs.Stretch.{bit_at, bits_at}
use Rattle.telegram.specs.Sync.{is_good}
use Rattle.telegram.specs.Place.{are_syncs}
use Rattle.telegram.specs.declared.Telegram.{Telegram}
use Rattle.telegram.proofs.Window.{bit_lt}
use Rattle.telegram.proofs.Taken.{part_taken}
use Rattle.balise_line.specs.Line.{unequal, sum}
use Rattle.balise_line.proofs.Sums.{sum_le, sum_ext, sum_both, none_sum, unequal_same}
use Rattle.balise_line.proofs.Bits.{same_bits, differing_bits}
use Rattle.balise_line.proofs.Places.{and_parts, or_parts, place_parts}
use Rattle.contact.specs.Contacts.{Contacts, contact, quiet, refused}
use Rattle.contact_laws.specs.Zeroes.{zeroes_in}
use Rattle.contact_laws.proofs.Over.{listened}
use Rattle.contact_laws.proofs.Sixty.{syncs_differ}
use Rattle.noise_laws.specs.Pass.{flips_in}
use Rattle.noise_laws.specs.Marker.{marker_at, NoisyMarker, NeverRead, MarkerNeverRead}
use Rattle.noise_laws.proofs.Flips.{zeroes_flips, any_few, flips_split}
use Rattle.noise_laws.proofs.Where.{AllWithin, within_record}
use Rattle.noise_laws.proofs.Between.{between}
use Rattle.noise_laws.proofs.Two.{Two, two_alike}
use Rattle.noise_laws.proofs.Apart.{d, r, q_is, all_again}
use Rattle.noise_laws.proofs.Rounds.{repeats}
use Rattle.noise_laws.proofs.Zero.{zeroes_sum}
use Rattle.noise_laws.proofs.MarkerLine.{differ_one, turned, same_rest, one_before, one_after, ones_flips}

module _ (b : List ℕ) (start len from to : ℕ) (noisy : NoisyMarker 2 b start len from to) where
  abbrev line : ℕ → ℕ
  line = marker_at start len

  module _ (long : from + 40 ≤ to) (c l s t : ℕ) (good : is_good s t ≡ true) (low : start ≤ c) (high : c + l ≤ start + len + 15) (room : c + l ≤ to) (m : Telegram) (two : Two b c l s t m) where
    abbrev p : ℕ
    p = two.p

    abbrev q : ℕ
    q = two.q

    abbrev bit_of : ℕ → ℕ
    bit_of = r b c l s t m two

    abbrev apart : ℕ
    apart = d b c l s t m two

    lies : q + 40 ≤ c + l
    lies = (place_parts b c l s t q two.q_place).0

    begins : start ≤ p
    begins = omega (arith, two.low)

    ahead : p < q
    ahead = two.order

    few : (a n : ℕ) → start ≤ a → n ≤ 40 → a + n ≤ to → flips_in line b a n ≤ 2
    few a n up short fits = any_few line b 2 from to noisy.few long a n (omega (arith, noisy.from_low)) short fits

    -- Over the marker at most two of eight bits are ones.
    two_ones : (a : ℕ) → start ≤ a → a + 8 ≤ start + len → sum (λ i. bit_at b (a + i)) 8 ≤ 2
    two_ones a up down = omega (arith, ones_flips b start len a 8 up down, few a 8 up (omega arith) (omega (arith, noisy.to_high)))

    -- Seven bits of a place's outer bytes differ, so seven of them are ones.
    seven : sum (λ i. unequal (bit_of i) (bit_of (32 + i))) 8 ≡ 7
    seven =
        sum_ext (λ i. unequal (bit_of i) (bit_of (32 + i))) (λ i. unequal (bit_at b (p + i)) (bit_at b (p + 32 + i))) 8
        (λ i l. let e : p + (32 + i) ≡ p + 32 + i = omega arith in ap (λ (j : ℕ). unequal (bit_at b (p + i)) (bit_at b j)) e)
        ∙ sym (differing_bits b b p (p + 32) 8) ∙ syncs_differ s t (bits_at b p 8) (bits_at b (p + 32) 8) good (place_parts b c l s t p two.p_place).1

    too_few : (f : ℕ → ℕ) → ((i : ℕ) → i < 8 → bit_of (32 + i) ≡ f i) → sum f 8 ≤ 2 → ⊥
    too_few f is ones =
        let each = sum_le (λ i. unequal (bit_of i) (bit_of (32 + i))) (λ i. bit_of i + bit_of (32 + i)) 8 (λ i l. differ_one (bit_of i) (bit_of (32 + i)) (bit_lt b (p + i)) (bit_lt b (p + (32 + i)))) in
        let same = sum_ext (λ i. bit_of (32 + i)) f 8 is in
        omega (arith, each, sum_both bit_of (λ i. bit_of (32 + i)) 8, two_ones p begins (omega (arith, lies, ahead)), same, ones, seven)

    -- A place that lies over the marker is none.
    not_inside : p + 40 ≤ start + len → ⊥
    not_inside down = too_few (λ i. bit_at b (p + 32 + i)) (λ i l. let e : p + (32 + i) ≡ p + 32 + i = omega arith in ap (bit_at b) e) (two_ones (p + 32) (omega arith) (omega arith))

    -- Nor are two whose sync words are swapped: the second begins over the marker.
    not_swapped : bits_at b (p + 32) 8 ≡ bits_at b q 8 → ⊥
    not_swapped same =
        too_few (λ i. bit_at b (q + i)) (λ i l. let e : p + (32 + i) ≡ p + 32 + i = omega arith in ap (bit_at b) e ∙ same_bits b b (p + 32) q 8 same i l) (two_ones q (omega (arith, begins, ahead)) (omega (arith, lies)))

    -- In the same order all bits repeat: where zeroes are followed by ones, each costs a flip; so
    -- they are one or two bits apart, and the sync words are equal.
    not_same : start + len < p + 40 → bits_at b p 8 ≡ bits_at b q 8 → bits_at b (p + 32) 8 ≡ bits_at b (q + 32) 8 → ⊥
    not_same past same_first same-last = none_differ (at_most_two)
      where
        again : (i : ℕ) → i < 40 → bit_of (0 + (i + apart)) ≡ bit_of (0 + i)
        again =
            all_again b c l s t m two
            (λ i less. sym (same_bits b b p q 8 same_first i less ∙ q_is b c l s t m two i))
            (λ i less. let e : p + 32 + i ≡ p + (32 + i) = omega arith in let f : q + 32 + i ≡ q + (32 + i) = omega arith in
            sym (ap (bit_at b) (sym e) ∙ same_bits b b (p + 32) (q + 32) 8 same-last i less ∙ ap (bit_at b) f ∙ q_is b c l s t m two (32 + i)))

        -- the last bits over the marker
        a : ℕ
        a = start + len - apart

        at_most_two : apart ≤ 2
        at_most_two =
            let f : ℕ → ℕ = λ i. bit_at b (a + i) in
            let e : a + apart ≡ start + len = omega (arith, ahead, lies) in
            let ones = ones_flips b start len a apart (omega (arith, lies)) (omega arith) in
            let zeroes = zeroes_flips line b (a + apart) apart (λ i l. one_after b start len (a + apart + i) (omega arith)) in
            let there = sum_ext (λ i. 1 - bit_at b (a + apart + i)) (λ i. 1 - f i) apart
            (λ i l. ap (λ (x : ℕ). 1 - x) (moved i l)) in
            let all = few a (apart + apart) (omega (arith, lies)) (omega (arith, lies)) (omega (arith, lies)) in
            so (sum f apart) (sum (λ i. 1 - f i) apart) (zeroes_in b (a + apart) apart) (sum (λ i. 1 - bit_at b (a + apart + i)) apart) (flips_in line b a apart) (flips_in line b (a + apart) apart) (flips_in line b a (apart + apart))
            (turned f apart (λ i. bit_lt b (a + i))) ones zeroes (zeroes_sum b (a + apart) apart) there (flips_split line b a apart apart) all
          where
            so : (x y z w u v k : ℕ) → x + y ≡ apart → x ≤ u → z ≤ v → z ≡ w → w ≡ y → k ≡ u + v → k ≤ 2 → apart ≤ 2
            so x y z w u v k h1 h2 h3 h4 h5 h6 h7 = omega arith

            moved : (i : ℕ) → i < apart → bit_at b (a + apart + i) ≡ bit_at b (a + i)
            moved i less =
                let j = a + i - p in
                let g : a + apart + i ≡ p + (0 + (j + apart)) = omega (arith, ahead, lies) in
                let h : p + (0 + j) ≡ a + i = omega (arith, ahead, lies) in
                ap (bit_at b) g ∙ again j (omega (arith, ahead, lies)) ∙ ap (bit_at b) h

        none_differ : apart ≤ 2 → ⊥
        none_differ small =
            let pos : 0 < apart = omega (arith, ahead) in
            let none = none_sum (λ i. unequal (bit_of i) (bit_of (32 + i))) 8 (λ i l. unequal_same (bit_of i) (bit_of (32 + i))
            (let u : 0 + i ≡ i = omega arith in
            let v : 0 + (32 + i) ≡ 32 + i = omega arith in
            sym (ap bit_of u) ∙ repeats bit_of 0 apart 40 again pos i (omega arith) ∙ ap (λ (x : ℕ). bit_of (0 + x)) (sym (same_rest apart i pos small)) ∙ sym (repeats bit_of 0 apart 40 again pos (32 + i) (omega arith)) ∙ ap bit_of v)) in
            omega (arith, none, seven)

    no_two : ⊥
    unfolding are_syncs
    no_two = go (leb (p + 40) (start + len)) refl
      where
        parts : (x y : ℕ) → are_syncs s t x y ≡ true → ((x ≡ s) × (y ≡ t)) ⊎ ((x ≡ t) × (y ≡ s))
        parts x y syncs = by (or_parts (eqb x s && eqb y t) (eqb x t && eqb y s) syncs)
          where
            by : ((eqb x s && eqb y t) ≡ true) ⊎ ((eqb x t && eqb y s) ≡ true) → ((x ≡ s) × (y ≡ t)) ⊎ ((x ≡ t) × (y ≡ s))
            by (inl e) = let h = and_parts (eqb x s) (eqb y t) e in inl (eqb-true x s h.0, eqb-true y t h.1)
            by (inr e) = let h = and_parts (eqb x t) (eqb y s) e in inr (eqb-true x t h.0, eqb-true y s h.1)

        late : start + len < p + 40 → ((bits_at b p 8 ≡ s) × (bits_at b (p + 32) 8 ≡ t)) ⊎ ((bits_at b p 8 ≡ t) × (bits_at b (p + 32) 8 ≡ s))
            → ((bits_at b q 8 ≡ s) × (bits_at b (q + 32) 8 ≡ t)) ⊎ ((bits_at b q 8 ≡ t) × (bits_at b (q + 32) 8 ≡ s)) → ⊥
        late past (inl x) (inl y) = not_same past (x.0 ∙ sym y.0) (x.1 ∙ sym y.1)
        late past (inr x) (inr y) = not_same past (x.0 ∙ sym y.0) (x.1 ∙ sym y.1)
        late past (inl x) (inr y) = not_swapped (x.1 ∙ sym y.0)
        late past (inr x) (inl y) = not_swapped (x.1 ∙ sym y.0)

        go : (u : Bool) → leb (p + 40) (start + len) ≡ u → ⊥
        go true e = not_inside (leb-true (p + 40) (start + len) e)
        go false e =
            late (leb-false (p + 40) (start + len) e) (parts (bits_at b p 8) (bits_at b (p + 32) 8) (place_parts b c l s t p two.p_place).1)
            (parts (bits_at b q 8) (bits_at b (q + 32) 8) (place_parts b c l s t q two.q_place).1)

  every : (w : Contacts) → AllWithin from to w → (from + 40 ≤ to → AllWithin start (start + len + 15) w) → NeverRead b w
  every (contact c l then rest) record-wide over = (
    λ s t good a called m first count is.
        let two = two_alike b c l s t m first count good (part_taken b from (to - from) c l noisy.taken (omega (arith, record-wide.0, record-wide.1)) (omega (arith, record-wide.0, record-wide.1))) a called is in
        let fits = (place_parts b c l s t two.p two.p_place).0 in
        let long : from + 40 ≤ to = omega (arith, fits, two.low, record-wide.0, record-wide.1) in
        let h = over long in
        no_two long c l s t good h.0 h.1 record-wide.1 m two,
    every rest record-wide.2 (λ long. (over long).2),
  )
  every quiet record-wide over = tt
  every (refused n) record-wide over = tt

pub marker_never_read : MarkerNeverRead
marker_never_read b start len from to noisy w l =
    let low = noisy.from_low in
    let high = noisy.to_high in
    every b start len from to noisy w (subst (AllWithin from to) (sym (listened b from to w l)) (within_record b from to (omega arith)))
    (λ long. subst (AllWithin start (start + len + 15)) (sym (listened b from to w l))
    (between (marker_at start len) b 2 from to start (start + len) noisy.few (omega arith) long (omega arith) (one_before b start len) (one_after b start len)))
