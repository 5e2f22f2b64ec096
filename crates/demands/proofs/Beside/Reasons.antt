-- The reasons are true, and the balises that they count are those that joined.
-- Assumes nothing.
use Prim.Native.Nat.{ℕ, suc, ◌+◌, ◌<◌}
use native.Mathlib.Omega.{arith}
use mathlib.Core.Path.{◌≡◌, refl, ap, ◌∙◌}
use mathlib.Core.Bool.{Bool, true, false}
use lib.Dec.{ltb}
use borrow.Author.Tests.{ltb-true, ltb-false, lt-ltb, ne_eqb}
use Rattle.words.specs.Answer.{pick}
use Rattle.group.specs.declared.Group.{Group}
use Rattle.group.specs.declared.Heard.{Heard}
use Rattle.group_reason.specs.Reason.{balises, because}
use Rattle.group_reason.specs.Explain.{explain}
use Rattle.group_reason.proofs.Truths.{truths, explains_tied, judges_tied}
use Rattle.ride.specs.declared.Passed.{Passed}
use Rattle.ride.specs.declared.Ride.{Ride}
use Rattle.ride.specs.State.{no_group, is_open_meant}
use Rattle.ride.specs.Joining.{counted, join, take_up}
use Rattle.demands.specs.Reasons.{Joined, opened, after_another, joined, passed, up_to255, Reasons}
use Rattle.demands.proofs.Demand2.Riding.{riding}

-- One balise more is counted.
one_more : (k : ℕ) → counted (up_to255 k) ≡ up_to255 (suc k)
one_more k = go (ltb k 255) refl (ltb (suc k) 255) refl
  where
    go : (b : Bool) → ltb k 255 ≡ b → (c : Bool) → ltb (suc k) 255 ≡ c → counted (pick b k 255) ≡ pick c (suc k) 255
    go true e true f =
        let more : k + 1 ≡ suc k = omega arith in
        ap (λ (t : Bool). pick t (k + 1) 255) e ∙ more
    go true e false f =
        let last : k + 1 ≡ 255 = omega (arith, ltb-true k 255 e, ltb-false (suc k) 255 f) in
        ap (λ (t : Bool). pick t (k + 1) 255) e ∙ last
    go false e true f = absurd (omega (arith, ltb-false k 255 e, ltb-true (suc k) 255 f))
    go false e false f = refl

-- A balise that is taken up is counted on from the open group, or from nothing.
taken_up : (g : Group) (odometer : ℕ) (what : Passed) (heard : Heard) → what ≡ Passed.Balise heard → (take_up g odometer what).count ≡ counted (pick (is_open_meant g) g no_group).count
unfolding take_up join
taken_up g odometer what heard e = ap (λ (p : Passed). (take_up g odometer p).count) e

counts : (k : ℕ) (ride : Ride) → Joined k ride → ride.group.count ≡ up_to255 k
unfolding no_group take_up
counts k ride (opened o heard n e) =
    ap (λ (g : Group). g.count) (riding.opens o n).0 ∙ taken_up o.ride.group o.odometer o.passed heard e
    ∙ ap (λ (t : Bool). counted (pick t o.ride.group no_group).count) n.none
counts k ride (after_another o heard l e) = ap (λ (g : Group). g.count) (riding.leaves o l).0 ∙ taken_up no_group o.odometer o.passed heard e
counts k ride (joined {k = n} o heard before s e) =
    ap (λ (g : Group). g.count) (riding.joins o s).0 ∙ taken_up o.ride.group o.odometer o.passed heard e
    ∙ ap (λ (t : Bool). counted (pick t o.ride.group no_group).count) s.is_open
    ∙ ap counted (counts n o.ride before)
    ∙ one_more n
counts k ride (passed {k = n} o before s e) =
    ap (λ (g : Group). g.count) ((riding.joins o s).0 ∙ ap (take_up o.ride.group o.odometer) e) ∙ counts n o.ride before

-- ---- by the count

alone : (g : Group) → g.count ≡ 1 → explain g ≡ because 10 (balises 1)
unfolding explain
alone g e = rw e

above_five : (g : Group) → 5 < g.count → explain g ≡ because 11 (balises g.count)
unfolding explain
above_five g h = rw (ne_eqb g.count 1 (λ e. absurd (omega arith)), lt-ltb 5 g.count h)

more_than_five : (k : ℕ) → 5 < k → 5 < up_to255 k
more_than_five k h = go (ltb k 255)
  where
    go : (b : Bool) → 5 < pick b k 255
    go true = h
    go false = omega arith

pub reasons : Reasons
reasons = record {
  right = λ g r j e c. truths.right g r j (explains_tied g r e.0 e.1) (judges_tied g j c.0 c.1);
  none_if = λ g r j e c. truths.none_if g r j (explains_tied g r e.0 e.1) (judges_tied g j c.0 c.1);
  counts = counts;
  one = λ ride r j e. explains_tied ride.group r e.0 e.1 ∙ alone ride.group (counts 1 ride j);
  many = λ k ride r j h e.
      let n = counts k ride j in
      let more : 5 < ride.group.count = omega (arith, n, more_than_five k h) in
      explains_tied ride.group r e.0 e.1 ∙ above_five ride.group more ∙ ap (λ (m : ℕ). because 11 (balises m)) n;
}
