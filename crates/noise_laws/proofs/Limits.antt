-- One flip more does not do, and what may come of a pass within the bound.
-- Assumes nothing.
use Prim.Native.Nat.{ℕ}
use mathlib.Core.Path.{◌≡◌}
use native.Mathlib.Omega.{arith}
use Rattle.telegram.specs.declared.Telegram.{Telegram}
use Rattle.noise_laws.specs.Limits.{OneMoreDoesNot, WithinIt}
use Rattle.noise_laws.proofs.Lines.{first, second, third, fourth, fifth, sixth, seventh, eighth, nothing, noisy, seven, eight}

-- Telegrams of three figures that are the same have the same figures.
figures_are : (a b c x y z : ℕ) → Telegram.Figures a b c ≡ Telegram.Figures x y z → (a ≡ x) × (b ≡ y) × (c ≡ z)
figures_are a b c x y z e = (cc, cc, cc)

pub one_more_does_not : OneMoreDoesNot
one_more_does_not =
    record {
      first_sent = (63, 3, first, λ e. omega (arith, (figures_are 8 0 0 3 0 0 e).0));
      second_sent = (62, 3, second, λ e. omega (arith, (figures_are 9 9 9 6 6 6 e).0));
      third_sent = (93, 2, third, λ e. omega (arith, (figures_are 8 2 5 7 5 13 e).0));
      fourth_sent = (78, 2, fourth, λ e. omega (arith, (figures_are 2 8 5 1 8 5 e).0));
      fifth_sent = (64, 2, fifth, λ e. omega (arith, (figures_are 2 8 5 1 8 5 e).0));
      sixth_sent = (67, 2, sixth, λ e. omega (arith, (figures_are 5 13 7 2 5 8 e).0));
      seventh_sent = (66, 2, seventh, λ e. omega (arith, (figures_are 9 9 9 6 6 6 e).0));
      eighth_sent = (97, 2, eighth, λ e. omega (arith, (figures_are 0 0 2 0 0 1 e).2));
    }

pub within_it : WithinIt
within_it = record { marker_of_zeroes = nothing; noisy_read = (75, 4, noisy); noisy_seven = seven; noisy_eight = eight }
