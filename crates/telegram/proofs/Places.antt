-- The places of a stretch one offset at a time: the first offset is one or not, and the rest is a
-- stretch one bit shorter.
-- Assumes nothing.
use mathlib.Core.Path.{◌≡◌, refl, ap, ap₂, ◌∙◌}
use mathlib.Core.Bool.{Bool, true, false, ◌&&◌}
use mathlib.Core.List.{List, [], ◌∷◌}
use Prim.Native.Nat.{ℕ, zero, suc, ◌+◌, ◌-◌, ◌/◌, ◌%◌, ◌^◌, ◌≤◌, ◌<◌}
use native.Mathlib.Omega.{arith}
use lib.Dec.{leb}
use borrow.Author.Tests.{le-leb, lt-leb}
use Rattle.words.specs.Answer.{pick}
use Rattle.telegram.specs.Stretch.{bits_at}
use Rattle.telegram.specs.Place.{are_syncs, accepted, words_at, is_place, from, those, places}
use Rattle.telegram.proofs.Window.{first_word, last_word, inner, inner_is}

-- Whether the forty bits v are a telegram between the sync words s and t.
abbrev pub fits : ℕ → ℕ → ℕ → Bool
fits s t v = are_syncs s t (v / 2 ^ 32) (v % 256) && accepted (inner v)

module _ (b : List ℕ) (s t : ℕ) where
  -- Which offsets pass depends on the stretch's end alone.
  same_end : (ps : List ℕ) (p l q m : ℕ) → p + l ≡ q + m → those (is_place b p l s t) ps ≡ those (is_place b q m s t) ps
  unfolding is_place
  same_end ps p l q m e =
      ap (λ (end : ℕ). those (λ k. leb (k + 40) end && are_syncs s t (bits_at b k 8) (bits_at b (k + 32) 8) && accepted (words_at b k)) ps) e

  -- One offset, and the rest.
  pub one_offset : (p l : ℕ) → places b p (suc l) s t
      ≡ pick (is_place b p (suc l) s t p) (p ∷ places b (p + 1) l s t) (places b (p + 1) l s t)
  unfolding places those from
  one_offset p l =
      let e : p + suc l ≡ p + 1 + l = omega arith in
      ap (λ (ps : List ℕ). pick (is_place b p (suc l) s t p) (p ∷ ps) ps) (same_end (from (p + 1) l) p (suc l) (p + 1) l e)

  -- An offset whose forty bits lie in the stretch is a place exactly if they fit.
  pub is_place_law : (p l : ℕ) → 40 ≤ l → is_place b p l s t p ≡ fits s t (bits_at b p 40)
  unfolding is_place
  is_place_law p l h =
      let inside : p + 40 ≤ p + l = omega arith in
      simp (le-leb _ _ inside, first_word b p, last_word b p, inner_is b p)

  pub here : (p l : ℕ) → 39 ≤ l → fits s t (bits_at b p 40) ≡ true → places b p (suc l) s t ≡ p ∷ places b (p + 1) l s t
  here p l h e =
      one_offset p l
      ∙ ap (λ (x : Bool). pick x (p ∷ places b (p + 1) l s t) (places b (p + 1) l s t)) (is_place_law p (suc l) (omega arith) ∙ e)

  pub not_here : (p l : ℕ) → 39 ≤ l → fits s t (bits_at b p 40) ≡ false → places b p (suc l) s t ≡ places b (p + 1) l s t
  not_here p l h e =
      one_offset p l
      ∙ ap (λ (x : Bool). pick x (p ∷ places b (p + 1) l s t) (places b (p + 1) l s t)) (is_place_law p (suc l) (omega arith) ∙ e)

  beyond : (p l : ℕ) → l < 40 → is_place b p l s t p ≡ false
  unfolding is_place
  beyond p l h =
      let over : p + l < p + 40 = omega arith in
      simp (lt-leb _ _ over)

  -- A stretch of fewer than forty bits has no place.
  pub too_short : (p l : ℕ) → l < 40 → places b p l s t ≡ []
  unfolding places those from
  too_short p zero h = refl
  too_short p (suc l) h =
      one_offset p l
      ∙ ap (λ (x : Bool). pick x (p ∷ places b (p + 1) l s t) (places b (p + 1) l s t)) (beyond p (suc l) h)
      ∙ too_short (p + 1) l (omega arith)

  -- The places from bit p on and before bit `stop`: the stretch ends 39 bits after `stop`.
  abbrev pub ahead : ℕ → ℕ → List ℕ
  ahead stop p = places b p (stop - p + 39) s t

  pub none_ahead : (stop p : ℕ) → stop ≤ p → ahead stop p ≡ []
  none_ahead stop p h = too_short p (stop - p + 39) (omega arith)

  pub ahead_here : (stop p : ℕ) → p < stop → fits s t (bits_at b p 40) ≡ true → ahead stop p ≡ p ∷ ahead stop (p + 1)
  ahead_here stop p h e =
      let l : stop - p + 39 ≡ suc (stop - (p + 1) + 39) = omega arith in
      ap (λ (k : ℕ). places b p k s t) l ∙ here p (stop - (p + 1) + 39) (omega arith) e

  pub ahead_not_here : (stop p : ℕ) → p < stop → fits s t (bits_at b p 40) ≡ false → ahead stop p ≡ ahead stop (p + 1)
  ahead_not_here stop p h e =
      let l : stop - p + 39 ≡ suc (stop - (p + 1) + 39) = omega arith in
      ap (λ (k : ℕ). places b p k s t) l ∙ not_here p (stop - (p + 1) + 39) (omega arith) e

  -- Whether the outer bytes of the forty bits from p on are the sync words.
  abbrev pub paired : ℕ → Bool
  paired p = are_syncs s t (bits_at b p 8) (bits_at b (p + 32) 8)

  -- Where they are not, no place begins.
  pub ahead_unpaired : (stop p : ℕ) → p < stop → paired p ≡ false → ahead stop p ≡ ahead stop (p + 1)
  ahead_unpaired stop p h e =
      let v = bits_at b p 40 in
      ahead_not_here stop p h
      (ap₂ (λ (x y : ℕ). are_syncs s t x y && accepted (inner v)) (first_word b p) (last_word b p) ∙ ap (λ (x : Bool). x && accepted (inner v)) e)
