-- Which numbers are places of a stretch.
-- Assumes nothing.
use mathlib.Core.Path.{◌≡◌, refl, sym, ap, ap₂, ◌∙◌, subst}
use mathlib.Core.Logic.{◌⊎◌, inl, inr}
use mathlib.Core.Bool.{Bool, true, false, ◌&&◌, ◌||◌}
use mathlib.Core.List.{List, ◌∷◌}
use Prim.Native.Nat.{ℕ, zero, suc, ◌+◌, ◌≤◌, ◌<◌}
use native.Mathlib.Nat.{le_refl}
use native.Mathlib.Omega.{arith}
use lib.Dec.{T, eqb, leb}
use borrow.Author.Tests.{eqb-true, eqb-false, eq-eqb, le-leb, leb-true}
use Rattle.words.specs.Answer.{pick}
use Rattle.words.specs.Plain.{among}
use Rattle.telegram.specs.Stretch.{bits_at}
use Rattle.telegram.specs.Place.{are_syncs, words_at, accepted, is_place, from, those}
pub use Rattle.words.proofs.Linear.{and_parts}

pub and_true : {a b : Bool} → a ≡ true → b ≡ true → (a && b) ≡ true
and_true p q = ap₂ ◌&&◌ p q

pub or_parts : (a b : Bool) → (a || b) ≡ true → (a ≡ true) ⊎ (b ≡ true)
or_parts true b e = inl e
or_parts false b e = inr e

pub or_left : {a : Bool} (b : Bool) → a ≡ true → (a || b) ≡ true
or_left b e = ap (λ (t : Bool). t || b) e

pub or_right : (a : Bool) {b : Bool} → b ≡ true → (a || b) ≡ true
or_right true e = refl
or_right false e = e

-- What makes a place: it lies in the stretch, its outer bytes are the sync words, its words are
-- accepted.
module _ (b : List ℕ) (start len s t p : ℕ) where
  pub place_parts : is_place b start len s t p ≡ true
      → (p + 40 ≤ start + len) × (are_syncs s t (bits_at b p 8) (bits_at b (p + 32) 8) ≡ true) × (accepted (words_at b p) ≡ true)
  unfolding is_place
  place_parts e =
      let lies = leb (p + 40) (start + len) in
      let syncs = are_syncs s t (bits_at b p 8) (bits_at b (p + 32) 8) in
      let h = and_parts (lies && syncs) (accepted (words_at b p)) e in
      let g = and_parts lies syncs h.0 in
      (leb-true (p + 40) (start + len) g.0, g.1, h.1)

  pub parts_place : p + 40 ≤ start + len → are_syncs s t (bits_at b p 8) (bits_at b (p + 32) 8) ≡ true → accepted (words_at b p) ≡ true
      → is_place b start len s t p ≡ true
  unfolding is_place
  parts_place lies syncs words = and_true (and_true (le-leb (p + 40) (start + len) lies) syncs) words

module _ (test : ℕ → Bool) where
  -- one number more
  those_on : (p : ℕ) (ps : List ℕ) → those test (p ∷ ps) ≡ pick (test p) (p ∷ those test ps) (those test ps)
  unfolding those
  those_on p ps = refl

  -- What is listed by a test passes it, and lies in the range.
  pub listed : (p a n : ℕ) → among p (those test (from a n)) ≡ true → (a ≤ p) × (p < a + n) × (test p ≡ true)
  unfolding from those
  listed p a zero e = absurd (subst T (sym e) tt)
  listed p a (suc n) e = go (test a) refl (subst (λ (l : List ℕ). among p l ≡ true) (those_on a (from (a + 1) n)) e) (listed p (a + 1) n)
    where
      later : (a + 1 ≤ p) × (p < a + 1 + n) × (test p ≡ true) → (a ≤ p) × (p < a + suc n) × (test p ≡ true)
      later r =
          let l : a + 1 ≤ p = r.0 in
          let h : p < a + 1 + n = r.1 in
          (omega arith, omega arith, r.2)

      here : p ≡ a → test a ≡ true → (a ≤ p) × (p < a + suc n) × (test p ≡ true)
      here same is = (omega arith, omega arith, ap test same ∙ is)

      go : (t : Bool) → test a ≡ t → among p (pick (test a) (a ∷ those test (from (a + 1) n)) (those test (from (a + 1) n))) ≡ true
          → (among p (those test (from (a + 1) n)) ≡ true → (a + 1 ≤ p) × (p < a + 1 + n) × (test p ≡ true))
          → (a ≤ p) × (p < a + suc n) × (test p ≡ true)
      go false is e ih =
          later (ih (subst (λ (t : Bool). among p (pick t (a ∷ those test (from (a + 1) n)) (those test (from (a + 1) n))) ≡ true) is e))
      go true is e ih = by (or_parts (eqb p a) (among p (those test (from (a + 1) n))) (subst (λ (t : Bool). among p (pick t (a ∷ those test (from (a + 1) n)) (those test (from (a + 1) n))) ≡ true) is e))
        where
          by : (eqb p a ≡ true) ⊎ (among p (those test (from (a + 1) n)) ≡ true) → (a ≤ p) × (p < a + suc n) × (test p ≡ true)
          by (inl same) = here (eqb-true p a same) is
          by (inr r) = later (ih r)

  -- And what passes it in the range is listed.
  pub lists : (p a n : ℕ) → a ≤ p → p < a + n → test p ≡ true → among p (those test (from a n)) ≡ true
  unfolding from those
  lists p a zero l h is = absurd (omega arith)
  lists p a (suc n) l h is = go (eqb p a) refl (λ m. lists p (a + 1) n m (omega arith) is)
    where
      here : (t : Bool) → test p ≡ true → p ≡ a → test a ≡ t → among p (pick t (a ∷ those test (from (a + 1) n)) (those test (from (a + 1) n))) ≡ true
      here true is same so = or_left (among p (those test (from (a + 1) n))) (eq-eqb p a same)
      here false is same so = absurd (subst T (sym is ∙ ap test same ∙ so) tt)

      there : (t : Bool) → among p (those test (from (a + 1) n)) ≡ true → among p (pick t (a ∷ those test (from (a + 1) n)) (those test (from (a + 1) n))) ≡ true
      there true e = or_right (eqb p a) e
      there false e = e

      go : (t : Bool) → eqb p a ≡ t → (a + 1 ≤ p → among p (those test (from (a + 1) n)) ≡ true)
          → among p (pick (test a) (a ∷ those test (from (a + 1) n)) (those test (from (a + 1) n))) ≡ true
      go true same ih = here (test a) is (eqb-true p a same) refl
      go false other ih =
          let ne : p ≡ a → ⊥ = eqb-false p a other in
          there (test a) (ih (omega arith))

-- Tests that agree over a range list the same.
pub lists_alike : (test probe : ℕ → Bool) (a n : ℕ) → ((p : ℕ) → a ≤ p → p < a + n → test p ≡ probe p) → those test (from a n) ≡ those probe (from a n)
unfolding from those
lists_alike test probe a zero same = refl
lists_alike test probe a (suc n) same =
    ap₂ (λ (t : Bool) (l : List ℕ). pick t (a ∷ l) l) (same a (le_refl a) (omega arith))
    (lists_alike test probe (a + 1) n (λ p l h. same p (omega arith) (omega arith)))
