-- The bits of a received word that carry its figure stand together in five parts, but for those
-- that are exchanged.
-- Assumes nothing.
use mathlib.Core.Path.{◌≡◌, sym, ap, ◌∙◌}
use Prim.Native.Nat.{ℕ, ◌+◌, ◌*◌, ◌/◌, ◌%◌, ◌^◌, ◌<◌}
use native.Mathlib.Omega.{arith}
use lib.Dec.{lit<}
use lib.Pow.{shr-shr, mod-pow-add, shr_mod}
use Rattle.words.specs.Bits.{bit}
use Rattle.words.specs.Plain.{is_check, onwards, figure}
use Rattle.words.specs.Code.{other, exchanged}
use Rattle.words.proofs.Counting.{bit_exchanged}

-- The figure of a received word of the long code, part by part.
abbrev pub parts : ℕ → ℕ
parts w = w / 8192 * 256 + w / 2048 % 2 * 128 + w / 4096 % 2 * 64 + w / 512 % 4 * 16 + w / 16 % 16

-- One bit more below some that stand together.
more : (w i j : ℕ) → w / 2 ^ (i + 1) % 2 ^ j * 2 + bit w i ≡ w / 2 ^ i % 2 ^ (j + 1)
more w i j = ap (λ (k : ℕ). k % 2 ^ j * 2 + bit w i) (sym (shr-shr w i 1)) ∙ sym (mod-pow-add (w / 2 ^ i) j 1)

-- Bits 7 to 4, 10 and 9, and 15 to 13.
four : (w : ℕ) → ((bit w 7 * 2 + bit w 6) * 2 + bit w 5) * 2 + bit w 4 ≡ w / 16 % 16
four w =
    ap (λ (k : ℕ). (k * 2 + bit w 5) * 2 + bit w 4) (more w 6 1) ∙ ap (λ (k : ℕ). k * 2 + bit w 4) (more w 5 2) ∙ more w 4 3

two : (w : ℕ) → bit w 10 * 2 + bit w 9 ≡ w / 512 % 4
two w = more w 9 1

three : (w : ℕ) → w < 65536 → (bit w 15 * 2 + bit w 14) * 2 + bit w 13 ≡ w / 8192
three w small = ap (λ (k : ℕ). k * 2 + bit w 13) (more w 14 1) ∙ more w 13 2 ∙ shr_mod 3 13 small

module _ (w : ℕ) where
  at : (n i : ℕ) → i < n → bit (exchanged n w) i ≡ bit w (other i)
  at n i l = bit_exchanged n w i l

  pub long_figure : w < 65536 → parts w ≡ figure 16 (exchanged 16 w)
  unfolding figure onwards is_check other
  long_figure small =
      simp (
        at 16 15 (lit< tt),
        at 16 14 (lit< tt),
        at 16 13 (lit< tt),
        at 16 12 (lit< tt),
        at 16 11 (lit< tt),
        at 16 10 (lit< tt),
        at 16 9 (lit< tt),
        at 16 7 (lit< tt),
        at 16 6 (lit< tt),
        at 16 5 (lit< tt),
        at 16 3 (lit< tt),
      ) (omega (arith, four w, three w small, two w))
