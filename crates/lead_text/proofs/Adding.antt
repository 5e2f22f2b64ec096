-- One record listed, by whether it was taken.
-- Assumes nothing.
use Prim.Native.Nat.{ℕ, suc, ◌+◌, ◌-◌}
use mathlib.Core.Path.{◌≡◌, refl, ap, sym, ◌∙◌}
use mathlib.Core.Bool.{Bool, true, false}
use mathlib.Core.List.{List}
use lib.ListN.{length}
use Rattle.words.specs.Answer.{pick}
use Rattle.words.proofs.Never.{cannot_be}
use Rattle.text.specs.Put.{placed}
use Rattle.ride.specs.declared.Ride.{Ride}
use Rattle.ride.specs.Record.{odometer_of}
use Rattle.ride.specs.Step.{Step, treat}
use Rattle.ride_text.specs.Style.{with_reasons}
use Rattle.ride_text.specs.Told.{step_text}
use Rattle.ride_text.specs.List.{is_taken}
use Rattle.lead_text.specs.declared.record_lines.One.{One}
use Rattle.lead_text.specs.Inside.{Listed, says_one, list_one}

module _ (gaps : ℕ → ℕ) (ride : Ride) (number : ℕ) (r out : List ℕ) (at : ℕ) (o : One) (out' : List ℕ) where
  abbrev step : Step
  step = treat ride (gaps (odometer_of r)) r

  abbrev text : List ℕ
  text = step_text with_reasons number step

  pub record Added : Type 0 where
    pub room : is_taken with_reasons number (length out - at) ≡ true
    pub ride_is : o.ride ≡ step.ride
    pub number_is : o.number ≡ suc number
    pub next_is : o.at ≡ at + length text
    pub out_is : out' ≡ placed text out at

  pub record Left : Type 0 where
    pub full : is_taken with_reasons number (length out - at) ≡ false
    pub out_is : out' ≡ out

  abbrev one_by : Bool → Listed
  one_by b =
      pick b
      (record { is_taken = true; ride = step.ride; number = suc number; next = at + length text; out = placed text out at })
      (record { is_taken = false; ride = ride; number = number; next = at; out = out })

  added_by : (b : Bool) → is_taken with_reasons number (length out - at) ≡ b → says_one o out' ≡ one_by b → o.taken ≡ true → Added
  added_by true e says so =
      record {
        room = e;
        ride_is = ap (λ (x : Listed). x.ride) says;
        number_is = ap (λ (x : Listed). x.number) says;
        next_is = ap (λ (x : Listed). x.next) says;
        out_is = ap (λ (x : Listed). x.out) says;
      }
  added_by false e says so = let never : false ≡ true = sym (ap (λ (x : Listed). x.is_taken) says) ∙ so in cannot_be cc

  left_by : (b : Bool) → is_taken with_reasons number (length out - at) ≡ b → says_one o out' ≡ one_by b → o.taken ≡ false → Left
  left_by true e says not_so = let never : true ≡ false = sym (ap (λ (x : Listed). x.is_taken) says) ∙ not_so in cannot_be cc
  left_by false e says not_so = record { full = e; out_is = ap (λ (x : Listed). x.out) says }

  pub added : says_one o out' ≡ list_one gaps ride number r out at → o.taken ≡ true → Added
  unfolding list_one
  added says so = added_by (is_taken with_reasons number (length out - at)) refl says so

  pub left : says_one o out' ≡ list_one gaps ride number r out at → o.taken ≡ false → Left
  unfolding list_one
  left says not_so = left_by (is_taken with_reasons number (length out - at)) refl says not_so
