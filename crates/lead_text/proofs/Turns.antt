-- The listing of records one after the other: from each of them on it comes to the same.
-- Assumes nothing.
use Prim.Native.Nat.{ℕ, suc, ◌+◌, ◌-◌, ◌≤◌}
use native.Mathlib.Omega.{arith}
use native.Mathlib.Nat.{add-zero, zero-add, sub-zero}
use mathlib.Core.Path.{◌≡◌, ap, sym, ◌∙◌}
use mathlib.Core.Bool.{Bool, true, false}
use mathlib.Core.List.{List, [], ◌∷◌, ◌++◌}
use lib.ListN.{length, take, drop, length-append}
use Rattle.words.specs.Answer.{gives, pick}
use Rattle.text.specs.Put.{placed}
use Rattle.text.proofs.Placing.{placed_none, placed_length, placed_join}
use Rattle.ride.specs.declared.Ride.{Ride}
use Rattle.ride.specs.Record.{odometer_of}
use Rattle.ride.specs.Step.{treat}
use Rattle.ride_text.specs.Style.{with_reasons}
use Rattle.ride_text.specs.Told.{step_text, Told, tell_over}
use Rattle.ride_text.specs.List.{is_taken, taken}
use Rattle.lead_text.specs.declared.Underway.{Underway}
use Rattle.lead_text.specs.Places.{Place}
use Rattle.lead_text.specs.List.{standing, Telling, none_left_meant, list_of}

-- A listing as its parts.
abbrev pub listing : ℕ → Bool → Place → Ride → ℕ → List ℕ → Telling
listing bytes all p ride number out = record { answer = gives (record { bytes = bytes; all = all }); underway = standing p ride number; out = out }

-- n records more, after `at` bytes
abbrev more : (ℕ → ℕ) → Ride → ℕ → ℕ → List (List ℕ) → Place → (ℕ → Place) → List ℕ → ℕ → Telling
more gaps ride number at rs last up_to out n =
    let told : Told = tell_over with_reasons gaps ride number (take n rs) in
    let all : Bool = none_left_meant (drop n rs) in
    listing (at + length told.text) all (pick all last (up_to n)) told.ride (number + n) (placed told.text out at)

-- as many more as are taken
unfoldable pub from_here : (ℕ → ℕ) → Ride → ℕ → ℕ → List (List ℕ) → Place → (ℕ → Place) → List ℕ → Telling
from_here gaps ride number at rs last up_to out = more gaps ride number at rs last up_to out (taken with_reasons gaps ride number (length out - at) rs)

-- From the first record it is the whole listing.
pub from_first : (gaps : ℕ → ℕ) (u : Underway) (rs : List (List ℕ)) (last : Place) (up_to : ℕ → Place) (out : List ℕ)
    → from_here gaps u.ride u.number 0 rs last up_to out ≡ list_of gaps u rs last up_to out
unfolding from_here list_of
from_first gaps u rs last up_to out = simp (sub-zero, zero-add)

-- Where none is left, all were taken.
pub from_last : (gaps : ℕ → ℕ) (ride : Ride) (number at : ℕ) (last : Place) (up_to : ℕ → Place) (out : List ℕ)
    → from_here gaps ride number at [] last up_to out ≡ listing at true last ride number out
unfolding from_here taken tell_over
from_last gaps ride number at last up_to out = simp (add-zero, placed_none)

module _ (gaps : ℕ → ℕ) (ride : Ride) (number at : ℕ) (r : List ℕ) (rs : List (List ℕ)) (last : Place) (up_to : ℕ → Place) (out : List ℕ) where
  abbrev t : List ℕ
  t = step_text with_reasons number (treat ride (gaps (odometer_of r)) r)

  abbrev then : Ride
  then = (treat ride (gaps (odometer_of r)) r).ride

  -- Where the next one is not taken, the room is used.
  pub from_full : is_taken with_reasons number (length out - at) ≡ false → from_here gaps ride number at (r ∷ rs) last up_to out ≡ listing at false (up_to 0) ride number out
  unfolding from_here taken tell_over
  from_full e = rw e (simp (add-zero, placed_none))

  module _ (upTo' : ℕ → Place) (same : (n : ℕ) → up_to (suc n) ≡ upTo' n) where
    one_more : (n : ℕ) → at + length t ≤ length out
        → more gaps ride number at (r ∷ rs) last up_to out (suc n) ≡ more gaps then (suc number) (at + length t) rs last upTo' (placed t out at) n
    unfolding tell_over
    one_more n fits =
        let rest : Told = tell_over with_reasons gaps then (suc number) (take n rs) in
        let u : List ℕ = rest.text in
        let all : Bool = none_left_meant (drop n rs) in
        let numbered : number + suc n ≡ suc number + n = omega arith in
        let bytes : at + length (t ++ u) ≡ at + length t + length u = omega (arith, length-append t u) in
        ap (λ (k : ℕ). listing k all (pick all last (up_to (suc n))) rest.ride (number + suc n) (placed (t ++ u) out at)) bytes
        ∙ ap (λ (p : Place). listing (at + length t + length u) all (pick all last p) rest.ride (number + suc n) (placed (t ++ u) out at)) (same n)
        ∙ ap (λ (k : ℕ). listing (at + length t + length u) all (pick all last (upTo' n)) rest.ride k (placed (t ++ u) out at)) numbered
        ∙ ap (listing (at + length t + length u) all (pick all last (upTo' n)) rest.ride (suc number + n)) (sym (placed_join t out at fits u))

    -- A record that is taken.
    pub from_next : is_taken with_reasons number (length out - at) ≡ true → at + length t ≤ length out
        → from_here gaps ride number at (r ∷ rs) last up_to out ≡ from_here gaps then (suc number) (at + length t) rs last upTo' (placed t out at)
    unfolding from_here taken
    from_next e fits =
        let n : ℕ = taken with_reasons gaps then (suc number) (length out - at - length t) rs in
        let room : length out - at - length t ≡ length (placed t out at) - (at + length t) = omega (arith, placed_length t out at fits) in
        ap (λ (b : Bool). more gaps ride number at (r ∷ rs) last up_to out (pick b (suc n) 0)) e
        ∙ one_more n fits
        ∙ ap (λ (k : ℕ). more gaps then (suc number) (at + length t) rs last upTo' (placed t out at) (taken with_reasons gaps then (suc number) k rs)) room
