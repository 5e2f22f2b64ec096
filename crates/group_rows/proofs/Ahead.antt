-- The balises that are still ahead: with each step the first is taken off, and the last stands
-- twice, so that they are five again.
-- Assumes nothing.
use Prim.Native.Nat.{ℕ, suc, ◌+◌, ◌-◌, ◌≤◌, ◌<◌}
use mathlib.Core.Path.{◌≡◌, sym, ap, ◌∙◌}
use mathlib.Core.List.{List, [], ◌∷◌, ◌++◌}
use native.Mathlib.Numerals.{add-one}
use native.Mathlib.Omega.{arith}
use lib.ListN.{length, take, drop, get_or, length-append, length-drop, drop_of_length-le}
use lib.Seq.{drop-cons, take-append-le}

module _ {A : Type 0} where
  -- Five without the first.
  abbrev pub onward : List A → List A
  onward q = drop 1 q ++ drop 4 q

  pub five_again : (q : List A) → length q ≡ 5 → length (onward q) ≡ 5
  five_again q h =
      let a : length (drop 1 q) ≡ length q - 1 = length-drop 1 q in
      let b : length (drop 4 q) ≡ length q - 4 = length-drop 4 q in
      let c : length (drop 1 q ++ drop 4 q) ≡ length (drop 1 q) + length (drop 4 q) = length-append (drop 1 q) (drop 4 q) in
      omega arith

  -- The first of them, and the others.
  pub first_then : (q : List A) (m : ℕ) (d : A) → length q ≡ 5 → m < 5 → take (suc m) q ≡ get_or q 0 d ∷ take m (onward q)
  first_then [] m d h l = absurd (omega (arith, h))
  first_then (x ∷ q) m d h l =
      let few : m ≤ length q = omega (arith, h) in
      ap (λ (t : List A). x ∷ t) (sym (take-append-le m q (drop 3 q) few))

  -- Of five balises p those from i on are ahead: q begins with them.
  module _ (p q : List A) (i : ℕ) (long : length p ≡ 5) (five : length q ≡ 5) (h : i < 5) (ahead : take (5 - i) q ≡ drop i p) (d : A) where
    both : get_or q 0 d ∷ take (4 - i) (onward q) ≡ get_or p i d ∷ drop (suc i) p
    both =
        let e : 5 - i ≡ suc (4 - i) = omega arith in
        let few : 4 - i < 5 = omega arith in
        let within : i < length p = omega arith in
        sym (first_then q (4 - i) d five few) ∙ ap (λ (m : ℕ). take m q) (sym e) ∙ ahead ∙ drop-cons p i d within

    -- The first ahead is balise i, and the others are those after it.
    pub head_is : get_or q 0 d ≡ get_or p i d
    head_is = ap (λ (l : List A). get_or l 0 d) both

    pub then_ahead : take (5 - (i + 1)) (onward q) ≡ drop (i + 1) p
    then_ahead =
        let e : 5 - (i + 1) ≡ 4 - i = omega arith in
        ap (λ (m : ℕ). take m (onward q)) e ∙ ap (λ (l : List A). drop 1 l) both ∙ ap (λ (m : ℕ). drop m p) (sym (add-one i))
