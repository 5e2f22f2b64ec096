-- A search, and the one a bit further on: what a bit of the one is, the bit before it is of the
-- other.
-- Assumes nothing.
use mathlib.Core.Path.{◌≡◌, refl, sym, ap, ap₂, ◌∙◌}
use mathlib.Core.Bool.{Bool, true, false, ◌&&◌, ◌||◌}
use mathlib.Core.List.{List}
use Prim.Native.Nat.{ℕ, zero, suc, ◌+◌, ◌-◌}
use native.Mathlib.Omega.{arith}
use lib.Dec.{leb, leb-zero, leb-suc-zero, leb-suc-suc}
use Rattle.telegram.specs.Stretch.{bit_at}
use Rattle.contact.specs.History.{after, zeroes}
use Rattle.contact.specs.declared.Search.{Search}
use Rattle.demands.specs.Table.{some, history_after, zeroes_with, to_eight, later_to_four}
use Rattle.demands.proofs.Demand1.Answers.{or_false}

-- ---- one of some numbers

pub some_alike : (f g : ℕ → Bool) → ((k : ℕ) → f k ≡ g k) → (n : ℕ) → some f n ≡ some g n
unfolding some
some_alike f g same zero = refl
some_alike f g same (suc n) = ap₂ (λ (x y : Bool). x || y) (some_alike f g same n) (same n)

pub none_some : (f : ℕ → Bool) → ((k : ℕ) → f k ≡ false) → (n : ℕ) → some f n ≡ false
unfolding some
none_some f none zero = refl
none_some f none (suc n) = ap₂ (λ (x y : Bool). x || y) (none_some f none n) (none n)

or_assoc : (a b c : Bool) → ((a || b) || c) ≡ (a || (b || c))
or_assoc true b c = refl
or_assoc false b c = refl

-- the lowest of them first
pub some_first : (f : ℕ → Bool) (n : ℕ) → some f (suc n) ≡ (f 0 || some (λ k. f (suc k)) n)
unfolding some
some_first f zero = sym (or_false (f 0))
some_first f (suc n) = ap (λ (x : Bool). x || f (suc n)) (some_first f n) ∙ or_assoc (f 0) (some (λ k. f (suc k)) n) (f (suc n))

-- ---- a search, and the one a bit further on

module _ (b : List ℕ) (h i n : ℕ) where
  abbrev pub here : Search
  here = record { next = i; left = suc n; history = h }

  abbrev pub further : Search
  further = record { next = i + 1; left = n; history = after h (bit_at b i) }

  pub history_on : (k : ℕ) → history_after b here (suc k) ≡ history_after b further k
  unfolding history_after
  history_on zero = let e : i + 0 ≡ i = omega arith in ap (λ (j : ℕ). after h (bit_at b j)) e
  history_on (suc k) =
      let e : i + suc k ≡ i + 1 + k = omega arith in
      ap₂ (λ (v j : ℕ). after v (bit_at b j)) (history_on k) e

  pub zeroes_on : (k : ℕ) → zeroes_with b here (suc k) ≡ zeroes_with b further k
  unfolding zeroes_with
  zeroes_on k = ap zeroes (history_on (suc k))

  pub zeroes_first : zeroes_with b here 0 ≡ zeroes (after h (bit_at b i))
  unfolding zeroes_with history_after
  zeroes_first = ap zeroes (history_on 0)

-- Whether bit j brings the zeroes to 4 or fewer.
abbrev pub to_four : List ℕ → Search → ℕ → Bool
to_four b search j = leb (zeroes_with b search j) 4

module _ (b : List ℕ) (h i n : ℕ) where
  abbrev pub now : Search
  now = here b h i n

  abbrev pub next : Search
  next = further b h i n

  -- a bit after the first two: counted from the next one
  pub later_on : (k m : ℕ) → some (later_to_four b now (suc k)) (suc m) ≡ some (later_to_four b next k) m
  later_on k m =
      some_first (later_to_four b now (suc k)) m
      ∙ ap (λ (t : Bool). (t && to_four b now 0) || some (λ j. later_to_four b now (suc k) (suc j)) m) (leb-suc-zero (suc k))
      ∙ some_alike (λ j. later_to_four b now (suc k) (suc j)) (later_to_four b next k) (λ j. ap₂ (λ (t : Bool) (z : ℕ). t && leb z 4) (leb-suc-suc (suc k) j) (zeroes_on b h i n j)) m

  pub later_first : (m : ℕ) → some (later_to_four b now 0) (suc m) ≡ some (to_four b next) m
  later_first m =
      some_first (later_to_four b now 0) m
      ∙ some_alike (λ j. later_to_four b now 0 (suc j)) (to_four b next)
      (λ j. ap₂ (λ (t : Bool) (z : ℕ). t && leb z 4) (leb-suc-suc 0 j ∙ leb-zero j) (zeroes_on b h i n j)) m

  pub eight_on : (k : ℕ) → to_eight b now (suc k) ≡ to_eight b next k
  eight_on k = ap (leb 8) (zeroes_on b h i n k)

  pub eights_on : (k : ℕ) → some (to_eight b now) (suc k) ≡ (to_eight b now 0 || some (to_eight b next) k)
  eights_on k =
      some_first (to_eight b now) k
      ∙ ap (λ (x : Bool). to_eight b now 0 || x) (some_alike (λ j. to_eight b now (suc j)) (to_eight b next) eight_on k)

  pub fours_on : (k : ℕ) → some (to_four b now) (suc k) ≡ (to_four b now 0 || some (to_four b next) k)
  fours_on k =
      some_first (to_four b now) k
      ∙ ap (λ (x : Bool). to_four b now 0 || x)
      (some_alike (λ j. to_four b now (suc j)) (to_four b next) (λ j. ap (λ (z : ℕ). leb z 4) (zeroes_on b h i n j)) k)
