-- The first sign, place by place, and the fields from there on.
-- Assumes nothing.
use mathlib.Core.Path.{◌≡◌, refl, sym, ap, ap₂, ◌∙◌, subst}
use mathlib.Core.Bool.{Bool, true, false}
use mathlib.Core.List.{List, [], ◌∷◌}
use Prim.Native.Nat.{ℕ, zero, suc, ◌+◌, ◌-◌, ◌≤◌, ◌<◌}
use native.Mathlib.Numerals.{add-one}
use native.Mathlib.Omega.{arith}
use lib.Dec.{eqb, ltb}
use lib.ListN.{length, get_or, take, drop, length-drop, drop_of_length-le}
use lib.Seq.{drop-cons, drop-drop}
use borrow.Author.Tests.{eq-eqb, ne_eqb, lt-ltb, le-ltb, ltb-true}
use Rattle.words.specs.Answer.{pick}
use Rattle.figures.specs.Fields.{before, place_of, after, has, start_of, first, Lies}

-- No more bytes stand before the sign than there are.
pub before_most : (sign : ℕ) (text : List ℕ) → before sign text ≤ length text
unfolding before
before_most sign [] = omega arith
before_most sign (b ∷ bs) = go (eqb b sign) (before_most sign bs)
  where
    go : (t : Bool) → before sign bs ≤ length bs → pick t 0 (suc (before sign bs)) ≤ suc (length bs)
    go true h = omega arith
    go false h = omega arith

module _ (sign : ℕ) (text : List ℕ) (i : ℕ) where
  -- At the sign nothing stands before it;
  pub at_sign : i < length text → get_or text i 0 ≡ sign → i + before sign (drop i text) ≡ i
  unfolding before
  at_sign h e =
      let none : before sign (drop i text) ≡ 0 = ap (before sign) (drop-cons text i 0 h) ∙ simp (eq-eqb _ _ e) in
      omega arith

  -- at any other byte the next decides;
  pub at_other : i < length text → (get_or text i 0 ≡ sign → ⊥) → i + before sign (drop i text) ≡ i + 1 + before sign (drop (i + 1) text)
  unfolding before
  at_other h e =
      let next : drop i text ≡ get_or text i 0 ∷ drop (i + 1) text = drop-cons text i 0 h ∙ ap (λ (k : ℕ). get_or text i 0 ∷ drop k text) (sym (add-one i)) in
      let one : before sign (drop i text) ≡ suc (before sign (drop (i + 1) text)) = ap (before sign) next ∙ simp (ne_eqb _ _ e) in
      omega arith

  -- and at the end none is left.
  pub at_end : length text ≤ i → i + before sign (drop i text) ≡ i
  unfolding before
  at_end h =
      let none : before sign (drop i text) ≡ 0 = ap (before sign) (drop_of_length-le text h) in
      omega arith

module _ (sign : ℕ) (text : List ℕ) (at k : ℕ) (in-text : at ≤ length text) where
  -- what stands after the first sign from `at` on
  rest : after sign (drop at text) ≡ drop (place_of text at sign + 1) text
  unfolding after place_of
  rest =
      let e : at + suc (before sign (drop at text)) ≡ at + before sign (drop at text) + 1 = omega arith in
      drop-drop (suc (before sign (drop at text))) at text ∙ ap (λ (n : ℕ). drop n text) e

  -- the field after this one, by whether there is a sign
  after_this : (t : Bool) → has (drop at text) sign ≡ t
      → at + start_of (drop at text) sign (suc k)
      ≡ at + pick t (suc (before sign (drop at text)) + start_of (drop (place_of text at sign + 1) text) sign k) (length (drop at text))
  unfolding start_of
  after_this t e =
      ap₂ (λ (u : Bool) (l : List ℕ). at + pick u (suc (before sign (drop at text)) + start_of l sign k) (length (drop at text))) e rest

  -- After a sign it starts as many bytes later as its field from there on;
  pub next_start : place_of text at sign < length text
      → place_of text at sign + 1 + start_of (drop (place_of text at sign + 1) text) sign k ≡ at + start_of (drop at text) sign (suc k)
  unfolding has place_of
  next_start h =
      let few : before sign (drop at text) < length (drop at text) = omega (arith, length-drop at text) in
      let on = after_this true (lt-ltb _ _ few) in
      omega (arith, on)

  -- without a sign at the end.
  pub no_start : length text ≤ place_of text at sign → length text ≡ at + start_of (drop at text) sign (suc k)
  unfolding has place_of
  no_start h =
      let all : length (drop at text) ≤ before sign (drop at text) = omega (arith, length-drop at text) in
      let none = after_this false (le-ltb _ _ all) in
      omega (arith, length-drop at text, none)

-- A field starts within the text.
pub start_within : (sign : ℕ) (text : List ℕ) (k : ℕ) → start_of text sign k ≤ length text
unfolding start_of has after
start_within sign text zero = omega arith
start_within sign text (suc k) = go (ltb (before sign text) (length text)) refl (start_within sign later k)
  where
    later : List ℕ
    later = drop (suc (before sign text)) text

    go : (t : Bool) → ltb (before sign text) (length text) ≡ t → start_of later sign k ≤ length later
        → pick t (suc (before sign text) + start_of later sign k) (length text) ≤ length text
    go true e h = omega (arith, ltb-true (before sign text) (length text) e, h, length-drop (suc (before sign text)) text)
    go false e h = omega arith

-- What stands from a place to the first sign from there on.
pub field_from : (sign : ℕ) (text : List ℕ) (at : ℕ) → take (place_of text at sign - at) (drop at text) ≡ first sign (drop at text)
unfolding place_of
field_from sign text at =
    let e : at + before sign (drop at text) - at ≡ before sign (drop at text) = omega arith in
    ap (λ (n : ℕ). take n (drop at text)) e

-- From the start on.
pub place_first : (sign : ℕ) (text : List ℕ) → place_of text 0 sign ≡ before sign text
unfolding place_of
place_first sign text = omega arith

-- What an answer of `place_of` comes to for a caller: it lies at or after the start, and within
-- what is left of the text from there on.
pub found_within : (sign : ℕ) (text : List ℕ) (from r : ℕ) → r ≡ place_of text from sign → (from ≤ r) × (r ≤ from + (length text - from))
unfolding place_of
found_within sign text from r e =
    let most : before sign (drop from text) ≤ length text - from = subst (λ (k : ℕ). before sign (drop from text) ≤ k) (length-drop from text) (before_most sign (drop from text)) in
    (omega arith, omega arith)

-- Slices that lie alike hold the same bytes.
pub its_bytes : {a b : Lies} → a ≡ b → a.bytes ≡ b.bytes
its_bytes e = ap (λ (l : Lies). l.bytes) e
