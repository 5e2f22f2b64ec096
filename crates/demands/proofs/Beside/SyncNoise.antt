-- Noise on the sync words too: where the equal bit is in the middle, every wrong offset costs three
-- flips, and two in forty bits are too few for a false place.
-- Assumes nothing.
use mathlib.Core.Path.{◌≡◌, sym, ap, ap₂, ◌∙◌}
use mathlib.Core.Bool.{Bool}
use mathlib.Core.List.{List, []}
use Prim.Native.Nat.{ℕ, ◌<◌}
use native.Mathlib.Omega.{arith}
use Rattle.words.specs.Answer.{refuses, pick}
use Rattle.words.proofs.Told.{told}
use Rattle.std.specs.Prelude.{Err}
use Rattle.telegram.specs.Place.{first_of, find}
use Rattle.telegram.specs.Says.{says_found}
use Rattle.telegram.specs.declared.Found.{Found}
use Rattle.telegram.specs.declared.NotFound.{NotFound}
use Rattle.telegram.proofs.Determined.{found_of, found_back}
use Rattle.telegram.proofs.Places.{too_short}
use Rattle.balise_line.specs.Line.{OneBalise, Proper, unequal, sum, places_of}
use Rattle.balise_line.proofs.Sums.{not_at}
use Rattle.balise_line.proofs.Offsets.{weigh, apart, cost, dear, dear_among}
use Rattle.balise_line.proofs.Stretch.{all_sent_law}
use Rattle.balise_line.proofs.EqualBit.{one_equal}
use Rattle.balise_line.proofs.Forty.{forty_few}
use Rattle.demands.specs.SyncNoise.{middle, NothingComes, SyncNoise}
use Rattle.demands.proofs.Demand3.Handed.{specified}
use Rattle.demands.proofs.Beside.FalsePlaces.{false_places}
use Rattle.demands.proofs.Demand3.{only_the_sent}

-- A stretch of fewer than forty bits has no place.
nothing_comes : (o : OneBalise) → Proper o → o.len < 40 → NothingComes o
unfolding find
nothing_comes o proper short = record { no_place = none; answers_6 = λ r c. told says_found found_of found_back r (Err NotFound.NoPlace) (sym (specified b o.start o.len o.s o.t r c)) (sym six) }
  where
    b : List ℕ
    b = o.buffer

    none : places_of o ≡ []
    none = too_short b o.s o.t o.start o.len short

    six : find b o.start o.len o.s o.t ≡ refuses 6
    six =
        ap₂ (λ (g i : Bool). pick g (pick i (first_of b (places_of o)) (refuses 5)) (refuses 4)) proper.pair proper.taken ∙ ap (first_of b) none

pub sync_noise : SyncNoise
unfolding dear_among dear cost weigh apart sum not_at unequal
sync_noise =
    record {
      one_equal = one_equal;
      stretch = λ o proper k is equal few. only_the_sent o proper (all_sent_law o proper (forty_few middle o k is equal few tt (omega arith)));
      under_forty = λ o proper short. ((λ p l h. absurd (omega arith)), nothing_comes o proper short);
      false_places = false_places;
    }
