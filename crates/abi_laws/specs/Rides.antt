-- Rides from C: demand 1 for the functions that ride, what a refusal leaves, that the bytes between
-- two calls are the ride, and that pieces make no difference.
-- Assumes nothing.
use Rattle.std.specs.Prelude.{ℕ, ◌%◌, ◌≤◌, ◌<◌, ◌≡◌, List, [], ◌∷◌, ◌++◌, ltb, ℤ, pos, length, take}
use Rattle.words.specs.Answer.{Outcome, gives}
use Rattle.words.specs.Limits.{largest64}
use Rattle.settings.specs.At.{gap_at}
use Rattle.ride.specs.State.{fresh_ride}
use Rattle.ride.specs.Over.{records}
use Rattle.ride_text.specs.Told.{Told, tell_over, end_text}
use Rattle.ride_text.specs.List.{Taken, room_for}
use Rattle.state_bytes.specs.Stores.{store_in}
use Rattle.ride_bytes.specs.Rides.{known_figures, ride_bytes, ride_in}
use Rattle.abi.specs.Face.{returned, itself}
use Rattle.abi.specs.Rides.{style_of, listed, listed_number}
use Rattle.demands.specs.Rules.{row, Given, Is}
use Rattle.demands.specs.Stores.{Good, trace_rules}
use Rattle.abi_laws.specs.Demand1.{DecidedAs, Refused}
use Rattle.abi_laws.specs.RideCalls.{RideBegin, RideList, RideEnd, RideKnown, InPieces}

-- A listing refuses as `list` does: the store's own refusals, then 16. The end refuses a text
-- without room with 21. A ride is always begun, and what it knows always told.
pub record RidesDecided : Type 0 where
  pub begin : (before : List ℕ) (r : ℤ) (after : List ℕ) → RideBegin before r after → r ≡ pos 0
  pub list : (ride store trace : List ℕ) (number style : ℕ) (before out : List ℕ) (r : ℤ) (moved after counts : List ℕ)
      → RideList ride store trace number style before out r moved after counts → DecidedAs (returned listed_number) Given (trace_rules (store_in store) trace) r
  pub end : (ride : List ℕ) (style : ℕ) (before : List ℕ) (r : ℤ) (after : List ℕ) → RideEnd ride style before r after →
      let size : ℕ = length (end_text (style_of style) (ride_in ride)) in
      DecidedAs {A = Outcome ℕ} (returned itself) (Is size) (row 21 (ltb (length before) size) ∷ []) r
  pub known : (ride before : List ℕ) (r : ℤ) (after : List ℕ) → RideKnown ride before r after → r ≡ pos 0

-- "lent memory and the running state stay untouched": a call that returns a number below 0 leaves
-- every lent array as it was.
pub record RidesUntouched : Type 0 where
  pub list : (ride store trace : List ℕ) (number style : ℕ) (before out : List ℕ) (r : ℤ) (moved after counts : List ℕ)
      → RideList ride store trace number style before out r moved after counts → Refused r → (moved ≡ ride) × (after ≡ before) × (counts ≡ out)
  pub end : (ride : List ℕ) (style : ℕ) (before : List ℕ) (r : ℤ) (after : List ℕ) → RideEnd ride style before r after → Refused r → after ≡ before

-- The bytes are the ride: after a call they hold the one that was begun or moved on, refused, the
-- one that they held; and what is known is that ride's.
pub record RidesHeld : Type 0 where
  pub begin : (before : List ℕ) (r : ℤ) (after : List ℕ) → RideBegin before r after → ride_in after ≡ fresh_ride
  pub list : (ride store trace : List ℕ) (number style : ℕ) (before out : List ℕ) (r : ℤ) (moved after counts : List ℕ)
      → RideList ride store trace number style before out r moved after counts → ride_in moved ≡ (listed ride store trace number style before).ride
  pub known : (ride before : List ℕ) (r : ℤ) (after : List ℕ) → RideKnown ride before r after → after ≡ known_figures (ride_in ride)
  -- and where nothing is refused they are the bytes of the ride that they hold
  pub begun_bytes : (before : List ℕ) (r : ℤ) (after : List ℕ) → RideBegin before r after → after ≡ ride_bytes (ride_in after)
  pub moved_bytes : (ride store trace : List ℕ) (number style : ℕ) (before out : List ℕ) (r : ℤ) (moved after counts : List ℕ) (taken : Taken)
      → (listed ride store trace number style before).answer ≡ gives taken → RideList ride store trace number style before out r moved after counts
      → moved ≡ ride_bytes (ride_in moved)

-- Whatever the pieces and the room: the texts put one after the other are the text of the whole
-- trace, and the bytes at the end hold the ride after it; begun afresh and ended, they are the
-- lines of the trace and of its end.
pub record RidesInPieces : Type 0 where
  pub on : (store ride : List ℕ) (number style : ℕ) (trace text last : List ℕ) → Good (store_in store) → InPieces store style ride number trace text last →
      let all : Told = tell_over (style_of style) (gap_at (store_in store)) (ride_in ride) number (records trace) in
      (text ≡ all.text) × (ride_in last ≡ all.ride)
  pub whole : (store lent fresh : List ℕ) (style : ℕ) (trace text last before after : List ℕ) (n : ℕ) → Good (store_in store) → RideBegin lent (pos 0) fresh
      → InPieces store style fresh 1 trace text last → RideEnd last style before (pos n) after →
      let all : Told = tell_over (style_of style) (gap_at (store_in store)) fresh_ride 1 (records trace) in
      text ++ take n after ≡ all.text ++ end_text (style_of style) all.ride
  -- so long as it has room for one record, a call takes one, so that the calls come to an end
  pub goes_on : (store ride block : List ℕ) (number style : ℕ) (before out moved after : List ℕ) (k n : ℕ) → Good (store_in store) → length block % 8 ≡ 0
      → 1 ≤ length (records block) → room_for (style_of style) ≤ length before → number < largest64
      → RideList ride store block number style before out (pos 0) moved after (k ∷ n ∷ []) → 1 ≤ k
