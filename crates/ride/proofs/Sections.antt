-- Riding on: the records of one card, then those of the next, with the numbers counted on. One
-- induction, over any state, any rule of the gap and any first number; what is said of cards,
-- blocks and runs rests on it.
-- Assumes nothing.
use Prim.Native.Nat.{ℕ, suc, ◌+◌, ◌/◌, ◌%◌}
use native.Mathlib.Omega.{arith}
use mathlib.Core.Path.{◌≡◌, sym, ap, ◌∙◌}
use mathlib.Core.List.{List, [], ◌∷◌, ◌++◌, append_assoc}
use lib.ListN.{length}
use Rattle.ride.specs.declared.Line.{Line}
use Rattle.ride.specs.declared.Ride.{Ride}
use Rattle.ride.specs.Record.{odometer_of}
use Rattle.ride.specs.Step.{Step, treat}
use Rattle.ride.specs.Over.{records, lines_for, Ridden, before, ride_over}
use Rattle.ride.proofs.Cutting.{records_length, join_records}
use Rattle.ride.proofs.Law.{state_is_fold}

pub ride_on : (gaps : ℕ → ℕ) (ride : Ride) (number : ℕ) (rs qs : List (List ℕ))
    → ride_over gaps ride number (rs ++ qs)
    ≡ before (ride_over gaps ride number rs).lines (ride_over gaps (ride_over gaps ride number rs).ride (number + length rs) qs)
unfolding ride_over
ride_on gaps ride number [] qs =
    let same : number ≡ number + 0 = omega arith in
    ap (λ (n : ℕ). ride_over gaps ride n qs) same
ride_on gaps ride number (r ∷ rs) qs =
    let s : Step = treat ride (gaps (odometer_of r)) r in
    let first : List Line = lines_for number s.lines in
    let rest : Ridden = ride_over gaps s.ride (suc number) rs in
    let same : suc number + length rs ≡ number + suc (length rs) = omega arith in
    ap (before first) (ride_on gaps s.ride (suc number) rs qs)
    ∙ ap (λ (n : ℕ). before first (before rest.lines (ride_over gaps rest.ride n qs))) same
    ∙ ap
    (λ (ls : List Line). record { lines = ls; ride = (ride_over gaps rest.ride (number + suc (length rs)) qs).ride })
    (sym (append_assoc first rest.lines (ride_over gaps rest.ride (number + suc (length rs)) qs).lines))

-- two cards joined, the first of whole records
pub ride_joined : (gaps : ℕ → ℕ) (ride : Ride) (number : ℕ) (a b : List ℕ) → length a % 8 ≡ 0
    → ride_over gaps ride number (records (a ++ b))
    ≡ before (ride_over gaps ride number (records a)).lines (ride_over gaps (ride_over gaps ride number (records a)).ride (number + length a / 8) (records b))
ride_joined gaps ride number a b whole =
    ap (ride_over gaps ride number) (join_records a b whole) ∙ ride_on gaps ride number (records a) (records b)
    ∙ ap
    (λ (n : ℕ). before (ride_over gaps ride number (records a)).lines (ride_over gaps (ride_over gaps ride number (records a)).ride (number + n) (records b)))
    (records_length (length a / 8) a)

-- the state after some records does not go by their numbers
pub unnumbered : (gaps : ℕ → ℕ) (ride : Ride) (n k : ℕ) (rs : List (List ℕ)) → (ride_over gaps ride n rs).ride ≡ (ride_over gaps ride k rs).ride
unnumbered gaps ride n k rs = state_is_fold gaps ride n rs ∙ sym (state_is_fold gaps ride k rs)
