-- What a refused call of a ride leaves: all that it was lent.
-- Assumes nothing.
use Prim.Native.Nat.{ℕ, ◌+◌}
use mathlib.Core.Path.{◌≡◌, ap, subst, ◌∙◌}
use mathlib.Core.Bool.{Bool, true, false}
use mathlib.Core.List.{List}
use native.Mathlib.Omega.{arith}
use lib.Dec.{leb}
use lib.ListN.{length}
use Rattle.words.specs.Answer.{Outcome, gives, refuses, pick}
use Rattle.words.proofs.Never.{cannot_be}
use Rattle.text.specs.Put.{put}
use Rattle.ride.specs.declared.Ride.{Ride}
use Rattle.ride_text.specs.Style.{Style}
use Rattle.ride_text.specs.Told.{end_text}
use Rattle.ride_text.specs.List.{Taken, Listing, list}
use Rattle.state_bytes.specs.Stores.{store_in}
use Rattle.ride_bytes.specs.Rides.{ride_bytes, ride_in}
use Rattle.abi.specs.Face.{itself}
use Rattle.abi.specs.Rides.{style_of, listed, listed_number, listed_put, ending}
use Rattle.demands.proofs.Demand1.Listings.{list_stays}
use Rattle.abi_laws.specs.Demand1.{Refused}
use Rattle.abi_laws.specs.Rides.{RidesUntouched}
use Rattle.abi_laws.proofs.Carried.{is_refusal}
use Rattle.abi_laws.proofs.Demand1.{kept_there}
use Rattle.abi_laws.proofs.RideFaced.{returned_is, moved_is, after_is, counts_is, end_is, ended_is}

-- Where the end is refused the text has no room, and stays.
end_left : (t before : List ℕ) (b : Bool) → leb (0 + length t) (length before) ≡ b → (n : ℕ) → pick {A = Outcome ℕ} b (gives (length t)) (refuses 21) ≡ refuses n
    → (put t before 0).buffer ≡ before
unfolding put
end_left t before true h n e = cannot_be cc
end_left t before false h n e = rw h

-- the refused end, by its own test
end_refused : (style : Style) (ride : Ride) (before : List ℕ) (n : ℕ) → ending style ride before ≡ refuses n → (put (end_text style ride) before 0).buffer ≡ before
unfolding ending
end_refused style ride before n e =
    let t : List ℕ = end_text style ride in
    let same : 0 + length t ≡ length t = omega arith in
    end_left t before (leb (length t) (length before)) (ap (λ (m : ℕ). leb m (length before)) same) n e

pub rides_untouched : RidesUntouched
rides_untouched = record {
  list = λ ride store trace number style before out r moved after counts c refused.
      let all : Listing = listed ride store trace number style before in
      let e = returned_is ride store trace number style before out c in
      let q : (k : ℕ) × (all.answer ≡ refuses k) = is_refusal listed_number all.answer (subst Refused e refused) in (
        kept_there listed_number (λ (t : Taken) (b : List ℕ). ride_bytes all.ride) all.answer e (moved_is ride store trace number style before out c) refused,
        after_is ride store trace number style before out c
            ∙ ap (λ (l : Listing). l.out) (list_stays (style_of style) (ride_in ride) (store_in store) number trace before q.0 q.1),
        kept_there listed_number listed_put all.answer e (counts_is ride store trace number style before out c) refused,
      );
  end = λ ride style before r after c refused.
      let q : (k : ℕ) × (ending (style_of style) (ride_in ride) before ≡ refuses k) =
      is_refusal itself (ending (style_of style) (ride_in ride) before) (subst Refused (end_is ride style before c) refused) in
      ended_is ride style before c ∙ end_refused (style_of style) (ride_in ride) before q.0 q.1;
}
