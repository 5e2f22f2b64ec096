-- What stands for each number of a range: the first of them, then the rest.
-- Assumes nothing.
use Prim.Native.Nat.{ℕ, suc, ◌+◌, ◌-◌, ◌<◌, ◌≤◌}
use mathlib.Core.Path.{◌≡◌, refl, sym, ap, ◌∙◌}
use mathlib.Core.List.{List, [], ◌++◌}
use native.Mathlib.Omega.{arith}
use Rattle.text.specs.Put.{Put, came}
use Rattle.text.specs.Pieces.{puts}
use Rattle.text.proofs.Putting.{none, puts_append}
use mathlib.Core.Bool.{Bool, true, false}
use lib.Dec.{ltb}
use borrow.Author.Tests.{ltb-true, ltb-false}
use Rattle.words.specs.Answer.{pick}
use Rattle.contact_drawing.specs.Strips.{each, drawn}

more : (f : ℕ → List (List ℕ)) (i n k : ℕ) → k ≡ suc n → each f i k ≡ f i ++ each f (i + 1) n
unfolding each
more f i n k e = ap (each f i) e

none_left : (f : ℕ → List (List ℕ)) (i k : ℕ) → k ≡ 0 → each f i k ≡ []
unfolding each
none_left f i k e = ap (each f i) e

-- One number's pieces are put: the rest is to be put from there.
pub turn : {x : List ℕ} {m : ℕ} (f : ℕ → List (List ℕ)) (b : List ℕ) (at i n : ℕ) → i < n → came m x ≡ puts (f i) b at
    → puts (each f (i + 1) (n - (i + 1))) x m ≡ puts (each f i (n - i)) b at
turn {x} {m} f b at i n low e =
    let one : n - i ≡ suc (n - (i + 1)) = omega arith in
    let rest : List (List ℕ) = each f (i + 1) (n - (i + 1)) in
    ap (λ (p : Put). puts rest p.buffer p.next) e
    ∙ sym (puts_append (f i) rest b at)
    ∙ ap (λ (ts : List (List ℕ)). puts ts b at) (sym (more f i (n - (i + 1)) (n - i) one))

-- No number is left.
pub last : (f : ℕ → List (List ℕ)) (b : List ℕ) (at i n : ℕ) → n ≤ i → came at b ≡ puts (each f i (n - i)) b at
last f b at i n high =
    let over : n - i ≡ 0 = omega arith in
    none b at ∙ ap (λ (ts : List (List ℕ)). puts ts b at) (sym (none_left f i (n - i) over))

-- At most 2,000 bits are drawn, and no more than there are.
pub drawn_most : (n : ℕ) → drawn n ≤ 2000
unfolding drawn
drawn_most n = go (ltb 2000 n) refl
  where
    go : (t : Bool) → ltb 2000 n ≡ t → pick t 2000 n ≤ 2000
    go true e = omega arith
    go false e = ltb-false 2000 n e

pub drawn_within : (n : ℕ) → drawn n ≤ n
unfolding drawn
drawn_within n = go (ltb 2000 n) refl
  where
    go : (t : Bool) → ltb 2000 n ≡ t → pick t 2000 n ≤ n
    go true e = omega (arith, ltb-true 2000 n e)
    go false e = omega arith
