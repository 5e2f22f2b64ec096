-- A stretch with at most one place is not read.
-- Assumes nothing.
use Prim.Native.Nat.{ℕ, zero, suc, ◌+◌, ◌≤◌, ◌<◌}
use mathlib.Core.Path.{◌≡◌, refl, ap, ◌∙◌}
use mathlib.Core.Bool.{Bool, true, false}
use mathlib.Core.List.{List, [], ◌∷◌}
use native.Mathlib.Omega.{arith}
use lib.ListN.{length}
use Rattle.words.specs.Answer.{gives, refuses, pick}
use Rattle.telegram.specs.Stretch.{inside}
use Rattle.telegram.specs.Sync.{is_good}
use Rattle.telegram.specs.Place.{places, from, those}
use Rattle.telegram.specs.Survey.{all_as}
use Rattle.contact.specs.Judge.{marker, is_marker, judgement, judge}
use Rattle.contact_laws.proofs.Alike.{judged_taken}

module _ (test : ℕ → Bool) where
  none_listed : (a n : ℕ) → ((p : ℕ) → a ≤ p → p < a + n → test p ≡ true → ⊥) → those test (from a n) ≡ []
  unfolding those from
  none_listed a zero none = refl
  none_listed a (suc n) none = go (test a) refl (none_listed (a + 1) n (λ p low high. none p (omega arith) (omega arith)))
    where
      go : (t : Bool) → test a ≡ t → those test (from (a + 1) n) ≡ [] → pick t (a ∷ those test (from (a + 1) n)) (those test (from (a + 1) n)) ≡ []
      go true e rest = absurd (none a (omega arith) (omega arith) e)
      go false e rest = rest

  -- Where any two that pass the test are the same, at most one is listed.
  pub one_listed : (a n : ℕ) → ((p q : ℕ) → a ≤ p → p < q → q < a + n → test p ≡ true → test q ≡ true → ⊥) → length (those test (from a n)) ≤ 1
  unfolding those from
  one_listed a zero same = omega arith
  one_listed a (suc n) same = go (test a) refl (one_listed (a + 1) n (λ p q low mid high. same p q (omega arith) mid (omega arith)))
    where
      go : (t : Bool) → test a ≡ t → length (those test (from (a + 1) n)) ≤ 1 → length (pick t (a ∷ those test (from (a + 1) n)) (those test (from (a + 1) n))) ≤ 1
      go true e rest =
          let empty = none_listed (a + 1) n (λ q low high f. same a q (omega arith) (omega arith) (omega arith) e f) in
          let none = ap length empty in
          omega arith
      go false e rest = rest

module _ (b : List ℕ) (start len s t : ℕ) where
  of_few : (ps : List ℕ) → length ps ≤ 1 → judgement b start len ps ≡ pick (is_marker b start len) (gives marker) (refuses 8)
  unfolding judgement all_as
  of_few [] few = refl
  of_few (p ∷ []) few = refl
  of_few (p ∷ q ∷ ps) few = absurd (too_many ps few)
    where
      too_many : (l : List ℕ) → length (p ∷ q ∷ l) ≤ 1 → ⊥
      too_many l h = omega arith

  -- With at most one place it is a marker, or refused with 8.
  pub few_judged : is_good s t ≡ true → inside b start len ≡ true → length (places b start len s t) ≤ 1
      → judge b start len s t ≡ pick (is_marker b start len) (gives marker) (refuses 8)
  few_judged good taken few = judged_taken b start len s t good taken ∙ of_few (places b start len s t) few
