-- The bytes are the ride: the contracts say so.
-- Assumes nothing.
use Prim.Native.Nat.{ℕ}
use mathlib.Core.Path.{sym, ap, ◌∙◌}
use mathlib.Core.List.{List}
use Rattle.words.specs.Answer.{Outcome}
use Rattle.ride_text.specs.List.{Taken, Listing}
use Rattle.ride_bytes.specs.Rides.{known_figures, ride_bytes, ride_in}
use Rattle.abi.specs.Face.{left}
use Rattle.abi.specs.Rides.{listed}
use Rattle.abi_laws.specs.Rides.{RidesHeld}
use Rattle.abi_laws.proofs.RideFaced.{moved_is, holds_is}

pub rides_held : RidesHeld
rides_held = record {
  begin = λ before r after c. ap ride_in (sym c.4) ∙ c.5.1.1;
  list = λ ride store trace number style before out r moved after counts c. holds_is ride store trace number style before out c;
  known = λ ride before r after c. sym c.6 ∙ c.7.1 ∙ ap (λ (x : List ℕ). known_figures (ride_in x)) c.4;
  begun_bytes = λ before r after c. sym c.4 ∙ c.5.1.0 ∙ ap ride_bytes (sym (ap ride_in (sym c.4) ∙ c.5.1.1));
  moved_bytes = λ ride store trace number style before out r moved after counts taken good c.
      let all : Listing = listed ride store trace number style before in
      moved_is ride store trace number style before out c
      ∙ ap (λ (o : Outcome Taken). left (λ (t : Taken) (b : List ℕ). ride_bytes all.ride) o ride) good
      ∙ ap ride_bytes (sym (holds_is ride store trace number style before out c));
}
