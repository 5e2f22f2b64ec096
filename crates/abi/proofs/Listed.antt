-- What a call that lists returns and leaves, by how it went.
-- Assumes nothing.
use Prim.Native.Nat.{ℕ, ◌%◌}
use mathlib.Core.Path.{◌≡◌, refl, ap, ◌∙◌}
use mathlib.Core.Bool.{Bool, true, false}
use mathlib.Core.List.{List, [], ◌∷◌}
use lib.Dec.{eqb}
use lib.ListN.{length}
use lib.IntN.{ℤ, pos, neg_ℤ}
use Rattle.words.specs.Answer.{Outcome, gives, refuses, pick}
use Rattle.words.proofs.Never.{cannot_be}
use Rattle.settings.specs.declared.Store.{Store}
use Rattle.settings.specs.Versions.{Kept}
use Rattle.settings.specs.Store.{judged}
use Rattle.settings.specs.At.{gap_at}
use Rattle.ride.specs.declared.Ride.{Ride}
use Rattle.ride.specs.Over.{records}
use Rattle.ride_text.specs.Style.{Style}
use Rattle.ride_text.specs.List.{Taken, Listing, list_of, list_taken, unlisted, judged_first, list}
use Rattle.ride_bytes.specs.Rides.{ride_bytes, ride_in}
use Rattle.abi.specs.Face.{returned, left}
use Rattle.abi.specs.Rides.{listed, listed_number, listed_put, ride_left}

-- A refused listing leaves the ride.
stays_by : (o : Outcome Kept) (w : Bool) (ride : Ride) (number : ℕ) (out : List ℕ) (all : Listing) (t : Taken) (n : ℕ) → all.answer ≡ gives t
    → refuses n ≡ (judged_first ride number out o (pick w all (unlisted ride number out 16))).answer
    → ride ≡ (judged_first ride number out o (pick w all (unlisted ride number out 16))).ride
stays_by (gives k) true ride number out all t n a e = cannot_be cc
stays_by (gives k) false ride number out all t n a e = refl
stays_by (refuses m) w ride number out all t n a e = refl

stays : (style : Style) (ride : Ride) (store : Store) (number : ℕ) (trace out : List ℕ) (n : ℕ) → refuses n ≡ (list style ride store number trace out).answer
    → ride ≡ (list style ride store number trace out).ride
unfolding list list_of
stays style ride store number trace out n e =
    stays_by (judged store) (eqb (length trace % 8) 0) ride number out (list_taken style (gap_at store) ride number (records trace) out) _ n refl e

module _ (state store trace : List ℕ) (number style : ℕ) (text out : List ℕ) where
  abbrev all : Listing
  all = listed state store trace number style text

  -- What is returned, left in the bytes of the ride, held there, left in the text and in `out`.
  abbrev Faced : ℤ → List ℕ → List ℕ → List ℕ → Type 0
  Faced r moved after counts =
      (r ≡ returned listed_number all.answer)
      × ((moved ≡ ride_left all state) × ((ride_in moved ≡ all.ride) × ((after ≡ all.out) × (counts ≡ left listed_put all.answer out))))

  pub took : (t : Taken) (made : Ride) (bytes after : List ℕ) → gives t ≡ all.answer → made ≡ all.ride → after ≡ all.out → bytes ≡ ride_bytes made → ride_in bytes ≡ made
      → Faced (pos 0) bytes after (t.records ∷ t.bytes ∷ [])
  took t made bytes after e m a b i = (
    ap (returned listed_number) e,
    (
      b ∙ ap ride_bytes m ∙ ap (λ (o : Outcome Taken). left (λ (x : Taken) (y : List ℕ). ride_bytes all.ride) o state) e,
      (i ∙ m, (a, ap (λ (o : Outcome Taken). left listed_put o out) e)),
    ),
  )

  pub untaken : (n : ℕ) (r : ℤ) (after : List ℕ) → refuses n ≡ all.answer → r ≡ neg_ℤ (pos n) → after ≡ all.out → Faced r state after out
  untaken n r after e b a = (
    b ∙ ap (returned listed_number) e,
    (
      ap (λ (o : Outcome Taken). left (λ (x : Taken) (y : List ℕ). ride_bytes all.ride) o state) e,
      (stays _ _ _ number trace text n e, (a, ap (λ (o : Outcome Taken). left listed_put o out) e)),
    ),
  )
