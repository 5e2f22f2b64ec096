-- A test of n bits, computed for all of them, holds of the bits of any line.
-- Assumes nothing.
use Prim.Native.Nat.{ℕ, zero, suc, ◌+◌, ◌<◌}
use mathlib.Core.Path.{◌≡◌, ap, ◌∙◌}
use mathlib.Core.Bool.{Bool}
use mathlib.Core.List.{List, [], ◌∷◌}
use native.Mathlib.Omega.{arith}
use lib.Dec.{T}
use lib.ListN.{get_or}
use Rattle.words.proofs.Ranges.{both, both_left, both_right}

-- The test holds of every n bits.
abbrev pub every : ℕ → (List ℕ → Bool) → Bool
every zero test = test []
every (suc n) test = both (every n (λ l. test (0 ∷ l))) (every n (λ l. test (1 ∷ l)))

-- The n bits of a line from bit a on, as a list.
abbrev pub list_of : (ℕ → ℕ) → ℕ → ℕ → List ℕ
list_of r a zero = []
list_of r a (suc n) = r a ∷ list_of r (suc a) n

bit_or : (P : ℕ → Type 0) (x : ℕ) → x < 2 → P 0 → P 1 → P x
bit_or P zero l none one = none
bit_or P (suc zero) l none one = one
bit_or P (suc (suc x)) l none one = absurd (omega arith)

module _ (r : ℕ → ℕ) (bits : (i : ℕ) → r i < 2) where
  pub of_every : (n a : ℕ) (test : List ℕ → Bool) → T (every n test) → T (test (list_of r a n))
  of_every zero a test ok = ok
  of_every (suc n) a test ok =
      bit_or (λ x. T (test (x ∷ list_of r (suc a) n))) (r a) (bits a)
      (of_every n (suc a) (λ l. test (0 ∷ l)) (both_left (every n (λ l. test (0 ∷ l))) (every n (λ l. test (1 ∷ l))) ok))
      (of_every n (suc a) (λ l. test (1 ∷ l)) (both_right (every n (λ l. test (0 ∷ l))) (every n (λ l. test (1 ∷ l))) ok))

pub at_list : (r : ℕ → ℕ) (n a j : ℕ) → j < n → get_or (list_of r a n) j 0 ≡ r (a + j)
at_list r zero a j l = absurd (omega arith)
at_list r (suc n) a zero l = let e : a ≡ a + 0 = omega arith in ap r e
at_list r (suc n) a (suc j) l = let e : suc a + j ≡ a + suc j = omega arith in at_list r n (suc a) j (omega arith) ∙ ap r e
