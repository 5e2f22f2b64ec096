-- No place that ends in the ones after the balise is false, where no sync word ends in four ones.
-- Assumes nothing.
use Prim.Native.Nat.{ℕ, zero, suc, ◌+◌, ◌-◌, ◌*◌, ◌%◌, ◌≤◌, ◌<◌}
use mathlib.Core.Path.{◌≡◌, refl, sym, ap, ap₂, ◌∙◌, subst}
use mathlib.Core.Logic.{◌⊎◌, inl, inr}
use mathlib.Core.Bool.{Bool, true, false, ◌&&◌}
use mathlib.Core.List.{List}
use native.Mathlib.Omega.{arith}
use lib.Dec.{T, leb, eqb, leb→le}
use borrow.Author.Tests.{leb-true, leb-false, eqb-true, eqb-false, eq-eqb}
use Rattle.words.specs.Answer.{pick}
use Rattle.words.proofs.Ranges.{both, upto, below}
use Rattle.telegram.specs.Stretch.{bit_at, bits_at}
use Rattle.telegram.specs.Place.{are_syncs}
use Rattle.telegram.proofs.Window.{cut}
use Rattle.balise_line.specs.Line.{OneBalise, Proper, repeated, sent_bit, unequal, line_bit}
use Rattle.balise_line.proofs.Sums.{not_at, unequal_lt, unequal_none, unequal_same, Missing, one_missing}
use Rattle.balise_line.proofs.Round.{pattern, seven}
use Rattle.balise_line.proofs.Offsets.{apart}
use Rattle.balise_line.proofs.Places.{and_parts, or_parts, place_parts}
use Rattle.balise_line.proofs.Wrong.{Bytes, outer_bits, as_syncs, sent_apart}
use Rattle.contact_laws.specs.Pass.{Pass}
use Rattle.contact_laws.specs.Heard.{ends_in_four_ones, NoFalse}
use Rattle.contact_laws.proofs.Sound.{received}

-- A wrong offset r, with k ones at the end of the place: the bits before them can only be as they
-- should if the sync words are equal in their bit e, and e - r too lies among the ones.
agree : ℕ → ℕ → ℕ → Bool
agree e r k = upto (λ i. eqb (not_at e i) (apart e ((r + i) % 32))) (8 - k)

only_late : ℕ → ℕ → ℕ → Bool
only_late e r k = pick (agree e r k) (leb (8 - k + r) e) true

late_ones : (e r k : ℕ) → e < 8 → r < 31 → k < 3 → T (only_late e (suc r) (suc k))
unfolding only_late agree not_at apart unequal
late_ones e r k e-low r_low k-low = below (λ k. only_late e (suc r) (suc k)) 3 (below (λ r. upto (λ k. only_late e (suc r) (suc k)) 3) 31 (below (λ e. upto (λ r. upto (λ k. only_late e (suc r) (suc k)) 3) 31) 8 tt e e-low) r r_low) k k-low

-- A test that holds of each number below n.
pub all_upto : (test : ℕ → Bool) (n : ℕ) → ((i : ℕ) → i < n → test i ≡ true) → upto test n ≡ true
all_upto test zero all = refl
all_upto test (suc n) all = ap₂ both (all n (omega arith)) (all_upto test n (λ i l. all i (omega arith)))

-- A byte whose last four bits are ones.
fifteen : (b : List ℕ) (p : ℕ) → ((i : ℕ) → i < 4 → bit_at b (p + 4 + i) ≡ 1) → bits_at b p 8 % 16 ≡ 15
unfolding bits_at
fifteen b p ones =
    let last : bits_at b (p + 4) 4 ≡ 15 = ap₂ (λ (u v : ℕ). u * 2 + v) (ap₂ (λ (u v : ℕ). u * 2 + v) (ap₂ (λ (u v : ℕ). (0 * 2 + u) * 2 + v) (ones 0 (omega arith)) (ones 1 (omega arith))) (ones 2 (omega arith))) (ones 3 (omega arith)) in
    omega (arith, cut b p 4 4, last)

module _ (o : OneBalise) (proper : Proper o) (from to : ℕ) (pass : Pass o from to) (p : ℕ) (low : o.start ≤ p) (past : o.start + o.len < p + 40)
    (lies : p + 40 ≤ o.start + o.len + 11) (syncs : are_syncs o.s o.t (bits_at o.buffer p 8) (bits_at o.buffer (p + 32) 8) ≡ true) where
  abbrev b : List ℕ
  b = o.buffer

  abbrev q : ℕ
  q = o.phase + (p - o.start)

  -- the ones at the end of the place
  abbrev k : ℕ
  k = p + 40 - (o.start + o.len)

  one_at : (i : ℕ) → o.start + o.len ≤ i → i < p + 40 → bit_at b i ≡ 1
  one_at i up down = pass.ones_after i up (omega (arith, pass.to_high))

  sent_at : (i : ℕ) → p + i < o.start + o.len → bit_at b (p + i) ≡ sent_bit o (q + i)
  sent_at i less =
      let here : p + i ≡ o.start + (p - o.start + i) = omega arith in
      let line : o.phase + (p - o.start + i) ≡ q + i = omega arith in
      ap (bit_at b) here ∙ received o pass.clean (p - o.start + i) (omega arith) ∙ ap (sent_bit o) line

  -- They are at most three.
  few : ends_in_four_ones o.s ≡ false → ends_in_four_ones o.t ≡ false → k ≤ 3
  unfolding ends_in_four_ones are_syncs
  few s-not t_not = go (leb k 3) refl
    where
      four : 4 ≤ k → bits_at b (p + 32) 8 % 16 ≡ 15
      four more = fifteen b (p + 32) (λ i l. one_at (p + 32 + 4 + i) (omega arith) (omega arith))

      not_so : (w : ℕ) → eqb (w % 16) 15 ≡ false → w ≡ bits_at b (p + 32) 8 → 4 ≤ k → k ≤ 3
      not_so w none is more =
          absurd (subst T (sym (eq-eqb (w % 16) 15 (ap (λ (x : ℕ). x % 16) is ∙ four more)) ∙ none) tt)

      by : 4 ≤ k → ((eqb (bits_at b p 8) o.s && eqb (bits_at b (p + 32) 8) o.t) ≡ true) ⊎ ((eqb (bits_at b p 8) o.t && eqb (bits_at b (p + 32) 8) o.s) ≡ true) → k ≤ 3
      by more (inl e) = not_so o.t t_not (sym (eqb-true (bits_at b (p + 32) 8) o.t (and_parts (eqb (bits_at b p 8) o.s) (eqb (bits_at b (p + 32) 8) o.t) e).1)) more
      by more (inr e) = not_so o.s s-not (sym (eqb-true (bits_at b (p + 32) 8) o.s (and_parts (eqb (bits_at b p 8) o.t) (eqb (bits_at b (p + 32) 8) o.s) e).1)) more

      go : (t : Bool) → leb k 3 ≡ t → k ≤ 3
      go true is = leb-true k 3 is
      go false is =
          by (leb-false k 3 is)
          (or_parts (eqb (bits_at b p 8) o.s && eqb (bits_at b (p + 32) 8) o.t) (eqb (bits_at b p 8) o.t && eqb (bits_at b (p + 32) 8) o.s) syncs)

  -- The bit in which the sync words are equal, e.
  module _ (e : ℕ) (e-low : e < 8) (but-one : (i : ℕ) → i < 8 → pattern o i ≡ not_at e i) where
    between_is : (i : ℕ) → i < 8 → unequal (bit_at b (p + i)) (bit_at b (p + 32 + i)) ≡ not_at e i
    between_is i l = as_syncs o proper p syncs i l ∙ but-one i l

    -- Before the ones the place is as the line is.
    as_line : (i : ℕ) → i < 8 - k → not_at e i ≡ apart e ((q % 32 + i) % 32)
    as_line i l =
        let later : p + 32 + i ≡ p + (32 + i) = omega arith in
        let line : q + (32 + i) ≡ q + i + 32 = omega arith in
        let same : (q + i) % 32 ≡ (q % 32 + i) % 32 = omega arith in
        sym (between_is i (omega arith))
        ∙ ap₂ unequal (sent_at i (omega arith)) (ap (bit_at b) later ∙ sent_at (32 + i) (omega arith) ∙ ap (sent_bit o) line)
        ∙ sent_apart o e but-one (q + i) ∙ ap (apart e) same

    -- Where e lies among the ones, it is a one of both sync words.
    one_of_both : 8 - k ≤ e → (bit_at (repeated o) (0 + e) ≡ 1) × (bit_at (repeated o) (32 + e) ≡ 1)
    unfolding pattern not_at
    one_of_both up = go (outer_bits o proper p syncs)
      where
        last : bit_at b (p + 32 + e) ≡ 1
        last = one_at (p + 32 + e) (omega arith) (omega arith)

        first : bit_at b (p + e) ≡ 1
        first =
            unequal_none (bit_at b (p + e)) (bit_at b (p + 32 + e)) (between_is e e-low ∙ unequal_same e e refl) ∙ last

        go : Bytes o proper p 0 32 ⊎ Bytes o proper p 32 0 → (bit_at (repeated o) (0 + e) ≡ 1) × (bit_at (repeated o) (32 + e) ≡ 1)
        go (inl is) = (sym (is e e-low).0 ∙ first, sym (is e e-low).1 ∙ last)
        go (inr is) = (sym (is e e-low).1 ∙ last, sym (is e e-low).0 ∙ first)

    -- A bit of the line that is the e-th of a sync word.
    sync_one : 8 - k ≤ e → (j : ℕ) → j % 32 ≡ e → sent_bit o j ≡ 1
    unfolding sent_bit
    sync_one up j is = go (eqb (j % 64) e) refl
      where
        go : (t : Bool) → eqb (j % 64) e ≡ t → bit_at (repeated o) (j % 64) ≡ 1
        go true same = let f : j % 64 ≡ 0 + e = omega (arith, eqb-true (j % 64) e same) in ap (bit_at (repeated o)) f ∙ (one_of_both up).0
        go false other =
            let ne : j % 64 ≡ e → ⊥ = eqb-false (j % 64) e other in
            let f : j % 64 ≡ 32 + e = omega arith in
            ap (bit_at (repeated o)) f ∙ (one_of_both up).1

    not_wrong : k ≤ 3 → (r : ℕ) → q % 32 ≡ suc r → ⊥
    unfolding only_late agree not_at
    not_wrong three r is =
        let all : agree e (suc r) k ≡ true = all_upto (λ i. eqb (not_at e i) (apart e ((suc r + i) % 32))) (8 - k)
        (λ i l. eq-eqb (not_at e i) (apart e ((suc r + i) % 32)) (as_line i l ∙ ap (λ (x : ℕ). apart e ((x + i) % 32)) is)) in
        let kk = k - 1 in
        let k_is : suc kk ≡ k = omega arith in
        let late : T (pick (agree e (suc r) k) (leb (8 - k + suc r) e) true) = subst (λ (x : ℕ). T (only_late e (suc r) x)) k_is (late_ones e r kk e-low (omega arith) (omega arith)) in
        let up : 8 - k + suc r ≤ e = leb→le (8 - k + suc r) e (subst (λ (x : Bool). T (pick x (leb (8 - k + suc r) e) true)) all late) in
        let i = e - suc r in
        let line : (q + i) % 32 ≡ e = omega arith in
        let here : bit_at b (p + i) ≡ 1 = sent_at i (omega arith) ∙ sync_one (omega arith) (q + i) line in
        let there : bit_at b (p + 32 + i) ≡ 1 = one_at (p + 32 + i) (omega arith) (omega arith) in
        let none : unequal i e ≡ 0 = sym (between_is i (omega arith)) ∙ unequal_same (bit_at b (p + i)) (bit_at b (p + 32 + i)) (here ∙ sym there) in
        let same : i ≡ e = unequal_none i e none in
        omega arith

pub no_false : (o : OneBalise) → Proper o → (from to : ℕ) → Pass o from to → ends_in_four_ones o.s ≡ false → ends_in_four_ones o.t ≡ false → NoFalse o
unfolding pattern line_bit
no_false o proper from to pass s-not t_not p low past place = only (q % 32) refl
  where
    parts : (p + 40 ≤ o.start + (o.len + 11)) × (are_syncs o.s o.t (bits_at o.buffer p 8) (bits_at o.buffer (p + 32) 8) ≡ true)
    parts = let h = place_parts o.buffer o.start (o.len + 11) o.s o.t p place in (h.0, h.1)

    q : ℕ
    q = o.phase + (p - o.start)

    lies : p + 40 ≤ o.start + o.len + 11
    lies = omega (arith, parts.0)

    m : Missing (pattern o) 8
    m = one_missing (pattern o) (λ i. unequal_lt (bit_at (repeated o) (0 + i)) (bit_at (repeated o) (32 + i))) 7 (seven o proper)

    only : (r : ℕ) → q % 32 ≡ r → q % 32 ≡ 0
    only zero is = is
    only (suc r) is =
        absurd (not_wrong o proper from to pass p low past lies parts.1 m.at m.within m.is
        (few o proper from to pass p low past lies parts.1 s-not t_not) r is)
