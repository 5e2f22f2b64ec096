-- A block record by record: from each record on it comes to the same.
-- Assumes nothing.
use Prim.Native.Nat.{ℕ, suc, ◌+◌, ◌-◌, ◌*◌, ◌/◌, ◌≤◌, ◌<◌}
use native.Mathlib.Omega.{arith}
use native.Mathlib.Nat.{add-zero, zero-add}
use mathlib.Core.Path.{◌≡◌, refl, ap, sym, ◌∙◌}
use mathlib.Core.Bool.{Bool, true}
use mathlib.Core.List.{List, [], ◌∷◌}
use lib.ListN.{length, take, drop, length-drop}
use lib.Seq.{drop-drop}
use Rattle.words.specs.Answer.{gives, pick}
use Rattle.text.specs.Put.{placed}
use Rattle.ride.specs.declared.Ride.{Ride}
use Rattle.ride.specs.Record.{odometer_of}
use Rattle.ride.specs.Step.{Step, treat}
use Rattle.ride.specs.At.{record_at}
use Rattle.ride.specs.Over.{first_records, records, lines_for, Ridden, ride_over}
use Rattle.ride.proofs.Cutting.{cut_records}
use Rattle.ride.proofs.Sections.{unnumbered}
use Rattle.acceptance_text.specs.declared.Going.{Going}
use Rattle.acceptance_text.specs.Taking.{Taking, take_all}
use Rattle.acceptance_text.specs.Accept.{began, has_room, taken, Advance, accept_of, accept_taken}
use Rattle.acceptance_text.proofs.Takings.{take_on, any_number}

-- ---- the records that are left

abbrev pub left_of : List ℕ → ℕ → List (List ℕ)
left_of trace i = records (drop (i * 8) trace)

pub left_next : (trace : List ℕ) (i : ℕ) → i < length trace / 8 → left_of trace i ≡ record_at trace i ∷ left_of trace (i + 1)
unfolding first_records
left_next trace i h =
    let more : 1 ≤ length (drop (i * 8) trace) / 8 = omega (arith, length-drop (i * 8) trace) in
    let far : i * 8 + 8 ≡ (i + 1) * 8 = omega arith in
    cut_records 1 (drop (i * 8) trace) more
    ∙ ap (λ (rest : List ℕ). record_at trace i ∷ records rest) (drop-drop 8 (i * 8) trace ∙ ap (λ (k : ℕ). drop k trace) far)

pub none_left : (trace : List ℕ) (i : ℕ) → length trace / 8 ≤ i → left_of trace i ≡ []
unfolding first_records
none_left trace i h =
    let none : length (drop (i * 8) trace) / 8 ≡ 0 = omega (arith, length-drop (i * 8) trace) in
    ap (λ (k : ℕ). first_records k (drop (i * 8) trace)) none

-- ---- the lines of a ride, whatever the numbers of its records

pub rides_alike : (gaps : ℕ → ℕ) (ride : Ride) (t : Taking) (m n : ℕ) (rs : List (List ℕ))
    → take_all t (ride_over gaps ride m rs).lines ≡ take_all t (ride_over gaps ride n rs).lines
unfolding ride_over
rides_alike gaps ride t m n [] = refl
rides_alike gaps ride t m n (r ∷ rs) =
    let s : Step = treat ride (gaps (odometer_of r)) r in
    let one : ℕ → Ridden = λ k. ride_over gaps s.ride (suc k) rs in
    take_on t (lines_for m s.lines) (one m).lines
    ∙ ap (λ (u : Taking). take_all u (one m).lines) (any_number t m n s.lines)
    ∙ rides_alike gaps s.ride (take_all t (lines_for n s.lines)) (suc m) (suc n) rs
    ∙ sym (take_on t (lines_for n s.lines) (one n).lines)

-- A record's lines, and then those of the others.
pub record_first : (gaps : ℕ → ℕ) (ride : Ride) (t : Taking) (r : List ℕ) (rs : List (List ℕ))
    → take_all t (ride_over gaps ride 1 (r ∷ rs)).lines
    ≡ take_all (take_all t (lines_for 0 (treat ride (gaps (odometer_of r)) r).lines)) (ride_over gaps (treat ride (gaps (odometer_of r)) r).ride 1 rs).lines
unfolding ride_over
record_first gaps ride t r rs =
    let s : Step = treat ride (gaps (odometer_of r)) r in
    let two : Ridden = ride_over gaps s.ride 2 rs in
    take_on t (lines_for 1 s.lines) two.lines
    ∙ ap (λ (v : Taking). take_all v two.lines) (any_number t 1 0 s.lines)
    ∙ rides_alike gaps s.ride (take_all t (lines_for 0 s.lines)) 2 1 rs

-- ---- from a record on

abbrev pub advance : ℕ → Ride → Taking → List ℕ → Advance
advance n ride t out =
    record {
      answer = gives (record { records = n; bytes = length t.text });
      going = record { ride = ride; run = t.run; troubles = t.troubles };
      out = placed t.text out 0;
    }

-- n records more, after i records
abbrev after : (ℕ → ℕ) → Ride → Taking → ℕ → List (List ℕ) → List ℕ → ℕ → Advance
after gaps ride t i rs out n =
    let ridden : Ridden = ride_over gaps ride 1 (take n rs) in
    advance (i + n) ridden.ride (take_all t ridden.lines) out

-- as many more as are taken
unfoldable pub from_here : (ℕ → ℕ) → Ride → Taking → ℕ → List (List ℕ) → List ℕ → Advance
from_here gaps ride t i rs out = after gaps ride t i rs out (taken gaps (length out) ride t rs)

pub from_first : (gaps : ℕ → ℕ) (g : Going) (rs : List (List ℕ)) (out : List ℕ) → from_here gaps g.ride (began g) 0 rs out ≡ accept_taken gaps g rs out
unfolding from_here accept_of
from_first gaps g rs out =
    let n : ℕ = taken gaps (length out) g.ride (began g) rs in
    let ridden : Ridden = ride_over gaps g.ride 1 (take n rs) in
    ap (λ (k : ℕ). advance k ridden.ride (take_all (began g) ridden.lines) out) (zero-add n)

pub from_next : (gaps : ℕ → ℕ) (ride : Ride) (t : Taking) (i : ℕ) (r : List ℕ) (rs : List (List ℕ)) (out : List ℕ) → has_room (length out) t ≡ true
    → from_here gaps ride t i (r ∷ rs) out
    ≡ from_here gaps (treat ride (gaps (odometer_of r)) r).ride (take_all t (lines_for 0 (treat ride (gaps (odometer_of r)) r).lines)) (i + 1) rs out
unfolding from_here taken ride_over
from_next gaps ride t i r rs out e =
    let s : Step = treat ride (gaps (odometer_of r)) r in
    let u : Taking = take_all t (lines_for 0 s.lines) in
    let n : ℕ = taken gaps (length out) s.ride u rs in
    let two : Ridden = ride_over gaps s.ride 2 (take n rs) in
    let one : Ridden = ride_over gaps s.ride 1 (take n rs) in
    let counted : i + suc n ≡ i + 1 + n = omega arith in
    ap (λ (b : Bool). after gaps ride t i (r ∷ rs) out (pick b (suc n) 0)) e
    ∙ ap (λ (v : Taking). advance (i + suc n) two.ride v out) (record_first gaps ride t r (take n rs))
    ∙ ap (λ (k : ℕ). advance k two.ride (take_all u one.lines) out) counted
    ∙ ap (λ (v : Ride). advance (i + 1 + n) v (take_all u one.lines) out) (unnumbered gaps s.ride 2 1 (take n rs))

pub from_last : (gaps : ℕ → ℕ) (ride : Ride) (t : Taking) (i : ℕ) (rs : List (List ℕ)) (out : List ℕ) → taken gaps (length out) ride t rs ≡ 0
    → advance i ride t out ≡ from_here gaps ride t i rs out
unfolding from_here ride_over take_all
from_last gaps ride t i rs out e =
    sym (ap (after gaps ride t i rs out) e ∙ ap (λ (k : ℕ). advance k ride t out) (add-zero i))
