-- On a clean stretch the places are exactly the true ones.
-- Assumes nothing.
use mathlib.Core.Path.{◌≡◌, refl, sym}
use mathlib.Core.Bool.{Bool, true, false}
use Prim.Native.Nat.{ℕ, ◌+◌, ◌*◌, ◌≤◌}
use native.Mathlib.Omega.{arith}
use Rattle.telegram.specs.Place.{is_place, places, from, those}
use Rattle.balise_line.specs.Line.{OneBalise, Proper, FewFlips, Clean, flip, flips, sync_flips, data_flips, line_bit, sent_at, flips_at, places_of}
use Rattle.balise_line.proofs.Sums.{none_sum}
use Rattle.balise_line.proofs.Places.{place_parts, lists_alike}
use Rattle.balise_line.proofs.TooFew.{few_flips_few}
use Rattle.balise_line.proofs.Stretch.{place_sent}
use Rattle.balise_line.proofs.Unflipped.{unflipped_place}

both_ways : (a b : Bool) → (a ≡ true → b ≡ true) → (b ≡ true → a ≡ true) → a ≡ b
both_ways true b there back = sym (there refl)
both_ways false true there back = back refl
both_ways false false there back = refl

module _ (o : OneBalise) (clean : Clean o) where
  none : (j n : ℕ) → flips o j n ≡ 0
  unfolding flips
  none j n = none_sum (λ i. flip o (j + i)) n (λ i l. clean (j + i))

  -- A clean stretch has few flips.
  pub clean_few : FewFlips o
  unfolding sync_flips data_flips
  clean_few = record { syncs = λ k. none (32 * k) 8; few = λ k. few k (none (32 * k + 8) 24) (none (32 * (k + 1) + 8) 24) }
    where
      few : (k : ℕ) → data_flips o k ≡ 0 → data_flips o (k + 1) ≡ 0 → data_flips o k + data_flips o (k + 1) ≤ 3
      few k a c = omega arith

  module _ (proper : Proper o) where
    pub true_places : places_of o ≡ those (sent_at o) (from o.start o.len)
    unfolding places flips_at
    true_places =
        lists_alike (is_place o.buffer o.start o.len o.s o.t) (sent_at o) o.start o.len
        (λ p l h. both_ways (is_place o.buffer o.start o.len o.s o.t p) (sent_at o p)
        (λ e. (place_sent o proper (few_flips_few o clean_few) p l (place_parts o.buffer o.start o.len o.s o.t p e).0 e).at_true)
        (λ sent. unflipped_place o proper p sent (none (line_bit o p) 40)))
