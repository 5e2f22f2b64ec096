-- One record taken: the listing from the next one on is the listing from it on.
-- Assumes nothing.
use Prim.Native.Nat.{ℕ, suc, ◌+◌, ◌-◌, ◌/◌, ◌≤◌, ◌<◌}
use native.Mathlib.Omega.{arith}
use native.Mathlib.Numerals.{add-one}
use mathlib.Core.Path.{◌≡◌, sym, ap, ◌∙◌}
use mathlib.Core.Bool.{true}
use mathlib.Core.List.{List}
use lib.ListN.{length}
use Rattle.ride.specs.declared.Ride.{Ride}
use Rattle.std.specs.Prelude.{Result}
use Rattle.ride.specs.declared.Lines.{Lines}
use Rattle.ride.specs.declared.Wrong.{Wrong}
use Rattle.group.specs.declared.Group.{Group}
use Rattle.ride.specs.Record.{odometer_of}
use Rattle.ride.specs.Step.{Step, treat}
use Rattle.ride.specs.At.{record_at}
use Rattle.ride.specs.Over.{lines_for}
use Rattle.ride.specs.Says.{says_given}
use Rattle.text.specs.Put.{placed, put, came}
use Rattle.text.proofs.Placing.{placed_length}
use Rattle.text.proofs.Standing.{stands}
use Rattle.ride_text.specs.Style.{Style}
use Rattle.ride_text.specs.Text.{lines_text}
use Rattle.ride_text.specs.Told.{step_text}
use Rattle.ride_text.specs.List.{room_for, is_taken}
use Rattle.ride_text.proofs.Texts.{given_short}
use Rattle.ride_text.proofs.Closed.{closed_is}
use Rattle.ride_text.proofs.Turns.{from_here, from_next, step_at, left_of, left_next}

module _ (style : Style) (gaps : ℕ → ℕ) (ride : Ride) (number i at : ℕ) (trace out : List ℕ) where
  abbrev r : List ℕ
  r = record_at trace i

  abbrev left : ℕ → List (List ℕ)
  left k = left_of trace (length trace / 8) k

  -- Its step, by which some group closed, leaves this ride; its lines end at m in the buffer
  -- `out'`.
  pub one_on : (given : Result Lines Wrong) (closed : Group) (ride' : Ride) (m : ℕ) (out' : List ℕ) → i < length trace / 8
      → ◌≡◌ {A = Step} (record { lines = says_given given; closed = closed; ride = ride' }) (treat ride (gaps (odometer_of r)) r)
      → is_taken style number (length out - at) ≡ true
      → at + room_for style ≤ length out
      → came m out' ≡ put (lines_text style ride.group (lines_for number (says_given given))) out at
      → (m ≤ length out') × (length out' ≡ length out) × (from_here style gaps ride' (number + 1) (i + 1) m (left (i + 1)) out' ≡ from_here style gaps ride number i at (left i) out)
  one_on given closed ride' m out' there stepped room enough says =
      let w : List ℕ = step_text style number (step_at gaps ride r) in
      let text_is : lines_text style ride.group (lines_for number (says_given given)) ≡ w =
      ap (λ (x : Step). lines_text style ride.group (lines_for number x.lines)) stepped ∙ sym (closed_is style ride (gaps (odometer_of r)) number r) in
      let fits : at + length w ≤ length out = omega (arith, given_short style ride.group number given, ap length text_is) in
      let standing = stands fits (says ∙ ap (λ (u : List ℕ). put u out at) text_is) in
      let ride_is : ride' ≡ (treat ride (gaps (odometer_of r)) r).ride = ap (λ (x : Step). x.ride) stepped in
      let at_is : m ≡ at + length w = standing.put.0 in
      let out_is : out' ≡ placed w out at = standing.put.1 in
      let length_is : length out' ≡ length out = ap length out_is ∙ placed_length w out at fits in
      let number_is : number + 1 ≡ suc number = add-one number in
      let here : from_here style gaps ride' (number + 1) (i + 1) m (left (i + 1)) out'
      ≡ from_here style gaps (treat ride (gaps (odometer_of r)) r).ride (suc number) (i + 1) (at + length w) (left (i + 1)) (placed w out at) = cc in (
        omega arith,
        length_is,
        here
            ∙ sym (from_next style gaps ride number i at r (left (i + 1)) out room fits)
            ∙ ap (λ (rs : List (List ℕ)). from_here style gaps ride number i at rs out) (sym (left_next trace (length trace / 8) i there)),
      )
