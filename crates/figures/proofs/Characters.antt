-- Digits one after the other, and each kind of character.
-- Assumes nothing.
use mathlib.Core.Path.{◌≡◌, sym, ap, ◌∙◌}
use mathlib.Core.Bool.{true, false, ◌&&◌}
use mathlib.Core.List.{List, [], ◌∷◌}
use Prim.Native.Nat.{ℕ, ◌+◌, ◌-◌, ◌*◌, ◌≤◌, ◌<◌}
use native.Mathlib.Nat.{le_refl, le_trans}
use native.Mathlib.Numerals.{add-one}
use native.Mathlib.Omega.{arith}
use lib.Dec.{leb}
use lib.ListN.{length, get_or, drop}
use lib.Seq.{drop-cons, drop-length}
use borrow.Author.Tests.{le-leb, lt-leb, leb-true, eq-eqb, lt-ltb, le-ltb}
use Rattle.words.specs.Answer.{pick}
use Rattle.figures.specs.Figures.{between, all_digits_meant, continued, decimal, hex_digit, hex}
use Rattle.std.specs.Prelude.{Ok, Err, Some, None}
use Rattle.figures.specs.declared.NotFigure.{NotFigure}
use Rattle.words.proofs.Linear.{and_parts as both}

module _ (text : List ℕ) (i : ℕ) (in-text : i < length text) where
  abbrev c : ℕ
  c = get_or text i 0

  next : drop i text ≡ c ∷ drop (i + 1) text
  next = drop-cons text i 0 in-text ∙ ap (λ (k : ℕ). c ∷ drop k text) (sym (add-one i))

  -- All are digits if this one is and those after it are;
  pub digits_on : all_digits_meant (drop i text) ≡ (between 48 57 c && all_digits_meant (drop (i + 1) text))
  unfolding all_digits_meant
  digits_on = ap all_digits_meant next

  pub not_below : c < 48 → all_digits_meant (drop i text) ≡ false
  not_below h = digits_on ∙ simp (lt-leb _ _ h)

  pub not_beyond : 48 ≤ c → 57 < c → all_digits_meant (drop i text) ≡ false
  not_beyond l h = digits_on ∙ simp (le-leb _ _ l, lt-leb _ _ h)

  pub a_digit : 48 ≤ c → c ≤ 57 → all_digits_meant (drop i text) ≡ all_digits_meant (drop (i + 1) text)
  a_digit l h = digits_on ∙ simp (le-leb _ _ l, le-leb _ _ h)

  -- so this one is.
  pub is_digit : all_digits_meant (drop i text) ≡ true → (48 ≤ c) × (c ≤ 57) × (all_digits_meant (drop (i + 1) text) ≡ true)
  is_digit e =
      let p = both (between 48 57 c) (all_digits_meant (drop (i + 1) text)) (sym digits_on ∙ e) in
      let q = both (leb 48 c) (leb c 57) p.0 in
      (leb-true 48 c q.0, leb-true c 57 q.1, p.1)

  -- The number goes on with it.
  pub number_on_law : (n : ℕ) → continued n (drop i text) ≡ continued (n * 10 + (c - 48)) (drop (i + 1) text)
  unfolding continued
  number_on_law n = ap (continued n) next

-- At the end nothing is left.
pub digits_end : (text : List ℕ) (i : ℕ) → i ≡ length text → all_digits_meant (drop i text) ≡ true
unfolding all_digits_meant
digits_end text i e = ap (λ (k : ℕ). all_digits_meant (drop k text)) e ∙ ap all_digits_meant (drop-length text)

pub number_end : (text : List ℕ) (i n : ℕ) → i ≡ length text → continued n (drop i text) ≡ n
unfolding continued
number_end text i n e = ap (λ (k : ℕ). continued n (drop k text)) e ∙ ap (continued n) (drop-length text)

-- A number never shrinks as it goes on.
pub grows : (n : ℕ) (cs : List ℕ) → n ≤ continued n cs
unfolding continued
grows n [] = le_refl n
grows n (c ∷ cs) = let h : n ≤ n * 10 + (c - 48) = omega arith in le_trans h (grows (n * 10 + (c - 48)) cs)

-- What the number so far says of the whole.
pub is_above : (v most : ℕ) → most < v → Err NotFigure.Above ≡ pick (leb v most) (Ok v) (Err NotFigure.Above)
is_above v most h = simp (lt-leb _ _ h)

pub is_number : (n v most : ℕ) → n ≡ v → v ≤ most → Ok n ≡ pick (leb v most) (Ok v) (Err NotFigure.Above)
is_number n v most e h = ap Ok e ∙ simp (le-leb _ _ h)

-- Hex digits.
module _ (c : ℕ) where
  pub decimal_digit : 48 ≤ c → c ≤ 57 → c - 48 ≡ hex_digit c
  unfolding hex_digit
  decimal_digit l h = simp (le-leb _ _ l, le-leb _ _ h)

  pub small_letter : 97 ≤ c → c ≤ 102 → c - 87 ≡ hex_digit c
  unfolding hex_digit
  small_letter l h = let over : 57 < c = omega arith in let some : 48 ≤ c = omega arith in simp (le-leb _ _ some, lt-leb _ _ over, le-leb _ _ l, le-leb _ _ h)

  pub large_letter : 65 ≤ c → c ≤ 70 → c - 55 ≡ hex_digit c
  unfolding hex_digit
  large_letter l h =
      let over : 57 < c = omega arith in
      let some : 48 ≤ c = omega arith in
      let under : c < 97 = omega arith in
      simp (le-leb _ _ some, lt-leb _ _ over, lt-leb _ _ under, le-leb _ _ l, le-leb _ _ h)

  pub below_digits : c < 48 → 16 ≡ hex_digit c
  unfolding hex_digit
  below_digits h =
      let a : c < 97 = omega arith in
      let b : c < 65 = omega arith in
      simp (lt-leb _ _ h, lt-leb _ _ a, lt-leb _ _ b)

  pub below_large : 57 < c → c < 65 → 16 ≡ hex_digit c
  unfolding hex_digit
  below_large l h =
      let a : 48 ≤ c = omega arith in
      let b : c < 97 = omega arith in
      simp (le-leb _ _ a, lt-leb _ _ l, lt-leb _ _ b, lt-leb _ _ h)

  pub below_small : 70 < c → c < 97 → 16 ≡ hex_digit c
  unfolding hex_digit
  below_small l h =
      let a : 48 ≤ c = omega arith in
      let b : 57 < c = omega arith in
      let d : 65 ≤ c = omega arith in
      simp (le-leb _ _ a, lt-leb _ _ b, lt-leb _ _ h, le-leb _ _ d, lt-leb _ _ l)

  pub above_small : 102 < c → 16 ≡ hex_digit c
  unfolding hex_digit
  above_small l =
      let a : 48 ≤ c = omega arith in
      let b : 57 < c = omega arith in
      let d : 97 ≤ c = omega arith in
      let e : 65 ≤ c = omega arith in
      let f : 70 < c = omega arith in
      simp (le-leb _ _ a, lt-leb _ _ b, le-leb _ _ d, lt-leb _ _ l, le-leb _ _ e, lt-leb _ _ f)

-- A text of two characters as a word.
module _ (text : List ℕ) (two : length text ≡ 2) where
  pub no_high : 16 ≤ hex_digit (get_or text 0 0) → None ≡ hex text
  unfolding hex
  no_high h = simp (eq-eqb _ _ two, le-ltb _ _ h)

  pub no_low : hex_digit (get_or text 0 0) < 16 → 16 ≤ hex_digit (get_or text 1 0) → None ≡ hex text
  unfolding hex
  no_low l h = simp (eq-eqb _ _ two, lt-ltb _ _ l, le-ltb _ _ h)

  pub two_digits : hex_digit (get_or text 0 0) < 16 → hex_digit (get_or text 1 0) < 16 → Some (hex_digit (get_or text 0 0) * 16 + hex_digit (get_or text 1 0)) ≡ hex text
  unfolding hex
  two_digits h l = simp (eq-eqb _ _ two, lt-ltb _ _ h, lt-ltb _ _ l)

-- A text as a number.
module _ (text : List ℕ) (most : ℕ) where
  pub no_text : length text ≡ 0 → Err NotFigure.Odd ≡ decimal text most
  unfolding decimal
  no_text e = let h : length text ≤ 0 = omega arith in simp (le-ltb _ _ h)

  module _ (some : 0 < length text) where
    pub no_digits : all_digits_meant text ≡ false → Err NotFigure.Odd ≡ decimal text most
    unfolding decimal
    no_digits e = simp (lt-ltb _ _ some, e)

    pub by_digits : all_digits_meant text ≡ true → pick (leb (continued 0 text) most) (Ok (continued 0 text)) (Err NotFigure.Above) ≡ decimal text most
    unfolding decimal
    by_digits e = simp (lt-ltb _ _ some, e)
