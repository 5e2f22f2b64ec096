-- A test that holds at some number, one number less; and the zeroes of one bit more.
-- Assumes nothing.
use Prim.Native.Nat.{ℕ, suc, ◌+◌, ◌-◌}
use mathlib.Core.Path.{◌≡◌, ap, ◌∙◌}
use mathlib.Core.Bool.{Bool, true, false, ◌||◌}
use mathlib.Core.List.{List}
use native.Mathlib.Numerals.{add-one}
use Rattle.telegram.specs.Stretch.{bit_at}
use Rattle.contact_laws.specs.Zeroes.{zeroes_in}
use Rattle.audibility.specs.Sound.{some}

-- Of n numbers, the last of which is m.
module _ (test : ℕ → Bool) (n m : ℕ) (last : n ≡ suc m) where
  pub here : test m ≡ true → some test n ≡ true
  unfolding some
  here e = ap (some test) last ∙ ap (λ (t : Bool). t || some test m) e

  pub not_here : test m ≡ false → some test n ≡ some test m
  unfolding some
  not_here e = ap (some test) last ∙ ap (λ (t : Bool). t || some test m) e

pub one_more : (b : List ℕ) (i n : ℕ) → zeroes_in b i (n + 1) ≡ zeroes_in b i n + (1 - bit_at b (i + n))
unfolding zeroes_in
one_more b i n = ap (zeroes_in b i) (add-one n)
