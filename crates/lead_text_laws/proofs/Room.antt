-- The end of a ride has room in a buffer of 320 bytes, and what is written there is its text.
-- Assumes nothing.
use Prim.Native.Nat.{ℕ}
use mathlib.Core.Path.{◌≡◌, sym, ap, ◌∙◌}
use mathlib.Core.List.{List}
use Rattle.text.specs.Put.{put as putting, came}
use Rattle.ride.specs.declared.Ride.{Ride}
use Rattle.ride_text.specs.Style.{with_reasons}
use Rattle.ride_text.specs.Told.{end_text}
use Rattle.ride_text.proofs.Taken.{end_spelled}
use Rattle.lead_text_laws.specs.Live.{Ended, put}

pub end_put : {ride : Ride} {text : List ℕ} → Ended ride text → text ≡ end_text with_reasons ride
end_put {ride} (put before after n wide c) =
    let t : List ℕ = end_text with_reasons ride in
    end_spelled with_reasons ride before wide (sym (ap (came n) c.4) ∙ c.5 ∙ ap (λ (b : List ℕ). putting t b 0) c.3)
