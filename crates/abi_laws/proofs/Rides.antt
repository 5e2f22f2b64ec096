-- Demand 1 for rides from C: a listing is decided as `list` is, the end by its room.
-- Assumes nothing.
use Prim.Native.Nat.{ℕ}
use mathlib.Core.Path.{ap}
use mathlib.Core.Bool.{Bool}
use mathlib.Core.List.{List, [], ◌∷◌}
use lib.Dec.{ltb}
use lib.ListN.{length}
use borrow.Author.Tests.{le-leb, lt-leb, ltb-true, ltb-false}
use Rattle.words.specs.Answer.{Outcome, gives, refuses, pick}
use Rattle.ride.specs.declared.Ride.{Ride}
use Rattle.ride_text.specs.Style.{Style}
use Rattle.ride_text.specs.Told.{end_text}
use Rattle.ride_text.specs.List.{list}
use Rattle.state_bytes.specs.Stores.{store_in}
use Rattle.ride_bytes.specs.Rides.{ride_in}
use Rattle.abi.specs.Face.{returned, itself}
use Rattle.abi.specs.Rides.{style_of, listed, listed_number, ending}
use Rattle.demands.specs.Rules.{row, Decided, Given, Is}
use Rattle.demands.specs.Stores.{trace_rules}
use Rattle.demands.proofs.Demand1.Listings.{list_so}
use Rattle.abi_laws.specs.Rides.{RidesDecided}
use Rattle.abi_laws.proofs.Demand1.{decided_of}
use Rattle.abi_laws.proofs.RideFaced.{returned_is, end_is}

end_so : (style : Style) (ride : Ride) (text : List ℕ) →
    let size : ℕ = length (end_text style ride) in
    Decided (Is size) (row 21 (ltb (length text) size) ∷ []) (ending style ride text)
unfolding ending
end_so style ride text =
    let size : ℕ = length (end_text style ride) in
    let made : Bool → Outcome ℕ = λ (b : Bool). pick {A = Outcome ℕ} b (gives size) (refuses 21) in (
      λ h. ap made (lt-leb size (length text) (ltb-true (length text) size h)),
      λ h. ap made (le-leb size (length text) (ltb-false (length text) size h)),
    )

pub rides_decided : RidesDecided
rides_decided = record {
  begin = λ before r after c. c.5.0;
  list = λ ride store trace number style before out r moved after counts c.
      decided_of (returned listed_number) Given (trace_rules (store_in store) trace) (listed ride store trace number style before).answer
      (returned_is ride store trace number style before out c) (list_so (style_of style) (ride_in ride) (store_in store) number trace before);
  end = λ ride style before r after c.
      let size : ℕ = length (end_text (style_of style) (ride_in ride)) in
      decided_of (returned itself) (Is size) (row 21 (ltb (length before) size) ∷ []) (ending (style_of style) (ride_in ride) before)
      (end_is ride style before c) (end_so (style_of style) (ride_in ride) before);
  known = λ ride before r after c. c.7.0;
}
