-- The places of a stretch taken together one after the other: so many are alike so far, and the
-- rest is ahead.
-- Assumes nothing.
use mathlib.Core.Path.{◌≡◌, sym, ap, ap₂, ◌∙◌}
use mathlib.Core.Bool.{Bool, true, false, ◌&&◌, and-false}
use mathlib.Core.List.{List, [], ◌∷◌}
use Prim.Native.Nat.{ℕ, zero, suc, ◌+◌, ◌-◌, ◌*◌, ◌/◌, ◌%◌, ◌^◌, ◌<◌}
use native.Mathlib.Nat.{not-suc-le-zero, le_of_suc-le-suc}
use native.Mathlib.Omega.{arith}
use lib.ListN.{length}
use borrow.Author.Tests.{eq-eqb, ne_eqb}
use Rattle.words.specs.Answer.{Outcome, gives, refuses, pick}
use Rattle.telegram.specs.Stretch.{bits_at}
use Rattle.telegram.specs.Place.{words_at}
use Rattle.telegram.specs.Survey.{same_words, all_as, Alike, alike, together}
use Rattle.telegram.proofs.Window.{x_word, y_word, z_word}
use Rattle.telegram.proofs.Places.{fits, ahead, ahead_here, ahead_not_here}

module _ (b : List ℕ) (first : ℕ) where
  -- n places are alike so far, `first` the first of them, and qs are ahead.
  abbrev pub so_far_meant : ℕ → List ℕ → Outcome Alike
  so_far_meant n qs = pick (all_as b first qs) (gives (alike (words_at b first) first (n + length qs))) (refuses 7)

  pub begins : (qs : List ℕ) → together b (first ∷ qs) ≡ so_far_meant 1 qs
  begins qs =
      let e : length (first ∷ qs) ≡ 1 + length qs = omega arith in
      ap (λ (n : ℕ). pick (all_as b first qs) (gives (alike (words_at b first) first n)) (refuses 7)) e

  pub one_alike : (n p : ℕ) (qs : List ℕ) → same_words b first p ≡ true → so_far_meant n (p ∷ qs) ≡ so_far_meant (n + 1) qs
  unfolding all_as
  one_alike n p qs same =
      let e : n + length (p ∷ qs) ≡ n + 1 + length qs = omega arith in
      ap₂ (λ (x : Bool) (m : ℕ). pick (x && all_as b first qs) (gives (alike (words_at b first) first m)) (refuses 7)) same e

  pub one_differs : (n p : ℕ) (qs : List ℕ) → same_words b first p ≡ false → so_far_meant n (p ∷ qs) ≡ refuses 7
  unfolding all_as
  one_differs n p qs other =
      ap (λ (x : Bool). pick (x && all_as b first qs) (gives (alike (words_at b first) first (n + length (p ∷ qs)))) (refuses 7)) other

  pub ends : (n : ℕ) → so_far_meant n [] ≡ gives (alike (words_at b first) first n)
  unfolding all_as
  ends n = let e : n + 0 ≡ n = omega arith in ap (λ (m : ℕ). gives (alike (words_at b first) first m)) e

-- Word k of the three in the forty bits v: X is 0, Y is 1, Z is 2.
abbrev pub word_in : ℕ → ℕ → ℕ
word_in v k = v / 2 ^ (24 - 8 * k) % 256

module _ (b : List ℕ) (p q : ℕ) where
  -- Two places whose three words are the same one by one have the same X, Y and Z.
  pub all_same : ((k : ℕ) → k < 3 → word_in (bits_at b p 40) k ≡ word_in (bits_at b q 40) k) → same_words b p q ≡ true
  unfolding same_words
  all_same same =
      let x = sym (x_word b p) ∙ same 0 (omega arith) ∙ x_word b q in
      let y = sym (y_word b p) ∙ same 1 (omega arith) ∙ y_word b q in
      let z = sym (z_word b p) ∙ same 2 (omega arith) ∙ z_word b q in
      simp (eq-eqb _ _ x, eq-eqb _ _ y, eq-eqb _ _ z)

  -- Two places of which one word differs do not.
  pub one_other : (k : ℕ) → k < 3 → (word_in (bits_at b p 40) k ≡ word_in (bits_at b q 40) k → ⊥) → same_words b p q ≡ false
  unfolding same_words
  one_other zero h other =
      let x : bits_at b (p + 8) 8 ≡ bits_at b (q + 8) 8 → ⊥ = λ e. other (x_word b p ∙ e ∙ sym (x_word b q)) in
      simp (ne_eqb _ _ x)
  one_other (suc zero) h other =
      let y : bits_at b (p + 16) 8 ≡ bits_at b (q + 16) 8 → ⊥ = λ e. other (y_word b p ∙ e ∙ sym (y_word b q)) in
      simp (ne_eqb _ _ y, and-false)
  one_other (suc (suc zero)) h other =
      let z : bits_at b (p + 24) 8 ≡ bits_at b (q + 24) 8 → ⊥ = λ e. other (z_word b p ∙ e ∙ sym (z_word b q)) in
      simp (ne_eqb _ _ z, and-false)
  one_other (suc (suc (suc k))) h other = absurd (not-suc-le-zero (le_of_suc-le-suc (le_of_suc-le-suc (le_of_suc-le-suc h))))

-- One offset more: p, whose forty bits are v, compared with `first`, whose forty bits are `kept`.
module _ (b : List ℕ) (s t stop first p n v kept : ℕ) (v-is : v ≡ bits_at b p 40) (kept-is : kept ≡ bits_at b first 40) (on : p < stop) where
  -- as many counted as m says
  counted : (m k : ℕ) → m ≡ k → so_far_meant b first k (ahead b s t stop (p + 1)) ≡ so_far_meant b first m (ahead b s t stop (p + 1))
  counted m k e = ap (λ (x : ℕ). so_far_meant b first x (ahead b s t stop (p + 1))) (sym e)

  pub turn_not_here : (m : ℕ) → m ≡ n → fits s t v ≡ false → so_far_meant b first n (ahead b s t stop p) ≡ so_far_meant b first m (ahead b s t stop (p + 1))
  turn_not_here m as_before e =
      ap (so_far_meant b first n) (ahead_not_here b s t stop p on (ap (fits s t) (sym v-is) ∙ e)) ∙ counted m n as_before

  pub turn_alike : (m : ℕ) → m ≡ n + 1 → fits s t v ≡ true → ((k : ℕ) → k < 3 → word_in v k ≡ word_in kept k)
      → so_far_meant b first n (ahead b s t stop p) ≡ so_far_meant b first m (ahead b s t stop (p + 1))
  turn_alike m more e same =
      let words = all_same b first p (λ k h. ap (λ (u : ℕ). word_in u k) (sym kept-is) ∙ sym (same k h) ∙ ap (λ (u : ℕ). word_in u k) v-is) in
      ap (so_far_meant b first n) (ahead_here b s t stop p on (ap (fits s t) (sym v-is) ∙ e)) ∙ one_alike b first n p (ahead b s t stop (p + 1)) words
      ∙ counted m (n + 1) more

  pub turn_differs : fits s t v ≡ true → (k : ℕ) → k < 3 → (word_in v k ≡ word_in kept k → ⊥)
      → so_far_meant b first n (ahead b s t stop p) ≡ refuses 7
  turn_differs e k h other =
      let words = one_other b first p k h (λ same. other (ap (λ (u : ℕ). word_in u k) v-is ∙ sym same ∙ ap (λ (u : ℕ). word_in u k) (sym kept-is))) in
      ap (so_far_meant b first n) (ahead_here b s t stop p on (ap (fits s t) (sym v-is) ∙ e)) ∙ one_differs b first n p (ahead b s t stop (p + 1)) words
