-- Every balise is audible or broken; and that one is audible, or has no false place, can be
-- computed.
-- Assumes nothing.
use Prim.Native.Nat.{ℕ, zero, suc, ◌+◌, ◌-◌, ◌%◌, ◌≤◌, ◌<◌}
use mathlib.Core.Path.{◌≡◌, refl, subst}
use mathlib.Core.Logic.{◌⊎◌, inl, inr}
use mathlib.Core.Bool.{Bool, true, false}
use native.Mathlib.Omega.{arith}
use lib.Dec.{T, leb, leb→le, ltb, eqb, eqb→eq}
use borrow.Author.Tests.{leb-true, leb-false, ltb-true, ltb-false}
use Rattle.words.specs.Answer.{pick}
use Rattle.words.proofs.Ranges.{upto, below}
use Rattle.telegram.specs.Place.{is_place}
use Rattle.balise_line.specs.Line.{OneBalise, line_bit}
use Rattle.balise_line.proofs.Places.{place_parts}
use Rattle.contact_laws.specs.Zeroes.{zeroes_sent, fewest, Audible, Broken}
use Rattle.contact_laws.specs.Heard.{NoFalse}
use Rattle.contact_laws.proofs.Below.{same_zeroes}

all_or_one : (f : ℕ → ℕ) (n : ℕ) → ((j : ℕ) → j < n → fewest ≤ f j) ⊎ ((j : ℕ) × (f j < fewest))
all_or_one f zero = inl (λ j l. omega arith)
all_or_one f (suc n) = go (leb fewest (f n)) refl (all_or_one f n)
  where
    last : fewest ≤ f n → ((j : ℕ) → j < n → fewest ≤ f j) → (j : ℕ) (t : Bool) → ltb j n ≡ t → j < suc n → fewest ≤ f j
    last five all j true q l = all j (ltb-true j n q)
    last five all j false q l =
        let up = ltb-false j n q in
        let same : n ≡ j = omega arith in
        subst (λ (k : ℕ). fewest ≤ f k) same five

    go : (t : Bool) → leb fewest (f n) ≡ t → ((j : ℕ) → j < n → fewest ≤ f j) ⊎ ((j : ℕ) × (f j < fewest)) → ((j : ℕ) → j < suc n → fewest ≤ f j) ⊎ ((j : ℕ) × (f j < fewest))
    go true q (inl all) = inl (λ j l. last (leb-true fewest (f n) q) all j (ltb j n) refl l)
    go true q (inr one) = inr one
    go false q r = let less = leb-false fewest (f n) q in inr (n, omega arith)

-- What holds of the 64 bits of a period holds of all.
pub by_period : (o : OneBalise) → ((j : ℕ) → j < 64 → fewest ≤ zeroes_sent o j 16) → Audible o
by_period o all j = omega (arith, all (j % 64) (omega arith), same_zeroes o j (j % 64) 16 (omega arith))

pub audible_or_broken : (o : OneBalise) → Audible o ⊎ Broken o
audible_or_broken o = by (all_or_one (λ j. zeroes_sent o j 16) 64)
  where
    by : ((j : ℕ) → j < 64 → fewest ≤ zeroes_sent o j 16) ⊎ Broken o → Audible o ⊎ Broken o
    by (inl all) = inl (by_period o all)
    by (inr one) = inr one

-- A definition that computes: whether it is audible.
pub audible_computed : (o : OneBalise) → T (upto (λ j. leb fewest (zeroes_sent o j 16)) 64) → Audible o
audible_computed o t = by_period o (λ j l. leb→le fewest (zeroes_sent o j 16) (below (λ j. leb fewest (zeroes_sent o j 16)) 64 t j l))

-- And whether no place that ends in the ones after the balise is false: there are eleven to try.
unfoldable pub fair_at : OneBalise → ℕ → Bool
fair_at o i = pick (is_place o.buffer o.start (o.len + 11) o.s o.t (o.start + o.len + i - 39)) (eqb (line_bit o (o.start + o.len + i - 39) % 32) 0) true

pub no_false_computed : (o : OneBalise) → 40 ≤ o.len → T (upto (fair_at o) 11) → NoFalse o
unfolding fair_at
no_false_computed o long t p low past place =
    let lies = (place_parts o.buffer o.start (o.len + 11) o.s o.t p place).0 in
    let i = p + 39 - (o.start + o.len) in
    let e : o.start + o.len + i - 39 ≡ p = omega arith in
    go (o.start + o.len + i - 39) e (below (fair_at o) 11 t i (omega arith))
  where
    go : (q : ℕ) → q ≡ p → T (pick (is_place o.buffer o.start (o.len + 11) o.s o.t q) (eqb (line_bit o q % 32) 0) true) → line_bit o p % 32 ≡ 0
    go q same ok =
        let here = subst (λ (x : ℕ). T (pick (is_place o.buffer o.start (o.len + 11) o.s o.t x) (eqb (line_bit o x % 32) 0) true)) same ok in
        eqb→eq (line_bit o p % 32) 0 (subst (λ (x : Bool). T (pick x (eqb (line_bit o p % 32) 0) true)) place here)
