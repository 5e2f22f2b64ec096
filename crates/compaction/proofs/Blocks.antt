-- The blocks of a trace, and then the record that waits after the last, are the compaction of the
-- whole.
-- Assumes nothing.
use Prim.Native.Nat.{ℕ, zero, suc, ◌+◌, ◌*◌, ◌≤◌}
use native.Mathlib.Omega.{arith}
use mathlib.Core.Path.{◌≡◌, refl, sym, ap, ◌∙◌}
use mathlib.Core.Bool.{Bool, true, false}
use mathlib.Core.List.{List, [], ◌∷◌, ◌++◌, append_assoc}
use lib.ListN.{length, drop, length-append, length-drop}
use lib.Seq.{length-take-le}
use Rattle.words.specs.Answer.{pick}
use Rattle.ride.specs.declared.Ride.{Ride}
use Rattle.ride.specs.Record.{odometer_of}
use Rattle.ride.specs.Step.{treat}
use Rattle.ride.specs.Over.{first_records, ride_over}
use Rattle.compaction.specs.declared.Waiting.{Waiting}
use Rattle.compaction.specs.Dropped.{is_dropped, compact_over}
use Rattle.compaction.specs.Blocks.{waiting_record, settled, waits_next, kept_over, waits_after}
use Rattle.compaction.specs.Compact.{bytes_of}
use Rattle.words.proofs.Never.{cannot_be}

abbrev waiting : Ride → List ℕ → Bool → Waiting
waiting ride bytes waits = record { ride = ride; bytes = bytes; waits = waits }

-- ---- what is kept

picked : (d : Bool) (b : List ℕ) (ks : List (List ℕ)) → pick d ks (b ∷ ks) ≡ pick d [] (b ∷ []) ++ ks
picked true b ks = refl
picked false b ks = refl

whole_by : (gaps : ℕ → ℕ) (ride : Ride) (b : List ℕ) (waits : Bool) (rs : List (List ℕ)) →
    let w = waiting ride b waits in
    compact_over gaps ride (waiting_record w ++ rs) ≡ kept_over gaps w rs ++ waiting_record (waits_after gaps w rs)
unfolding compact_over kept_over waits_after settled waits_next
whole_by gaps ride b true [] = refl
whole_by gaps ride b false [] = refl
whole_by gaps ride b true (r ∷ rs) =
    let gap : ℕ = gaps (odometer_of b) in
    let d : Bool = is_dropped ride gap b r in
    let next : Waiting = waiting (treat ride gap b).ride r true in
    ap (λ (ks : List (List ℕ)). pick d ks (b ∷ ks)) (whole_by gaps (treat ride gap b).ride r true rs)
    ∙ picked d b (kept_over gaps next rs ++ waiting_record (waits_after gaps next rs))
    ∙ sym (append_assoc (pick d [] (b ∷ [])) (kept_over gaps next rs) (waiting_record (waits_after gaps next rs)))
whole_by gaps ride b false (r ∷ rs) = whole_by gaps ride r true rs

pub whole : (gaps : ℕ → ℕ) (w : Waiting) (rs : List (List ℕ))
    → compact_over gaps w.ride (waiting_record w ++ rs) ≡ kept_over gaps w rs ++ waiting_record (waits_after gaps w rs)
whole gaps w rs = whole_by gaps w.ride w.bytes w.waits rs

-- ---- the state

state_by : (gaps : ℕ → ℕ) (ride : Ride) (b : List ℕ) (waits : Bool) (k m : ℕ) (rs : List (List ℕ)) →
    let w = waiting ride b waits in
    (ride_over gaps ride k (waiting_record w ++ rs)).ride ≡ (ride_over gaps (waits_after gaps w rs).ride m (waiting_record (waits_after gaps w rs))).ride
unfolding ride_over waits_after waits_next
state_by gaps ride b true k m [] = refl
state_by gaps ride b false k m [] = refl
state_by gaps ride b true k m (r ∷ rs) = state_by gaps (treat ride (gaps (odometer_of b)) b).ride r true (suc k) m rs
state_by gaps ride b false k m (r ∷ rs) = state_by gaps ride r true k m rs

pub state : (gaps : ℕ → ℕ) (w : Waiting) (k m : ℕ) (rs : List (List ℕ))
    → (ride_over gaps w.ride k (waiting_record w ++ rs)).ride ≡ (ride_over gaps (waits_after gaps w rs).ride m (waiting_record (waits_after gaps w rs))).ride
state gaps w k m rs = state_by gaps w.ride w.bytes w.waits k m rs

-- ---- the room that they take

-- Records of eight bytes.
abbrev pub Eights : List (List ℕ) → Type 0
Eights [] = Unit {0}
Eights (r ∷ rs) = (length r ≡ 8) × Eights rs

pub eights : (n : ℕ) (trace : List ℕ) → n * 8 ≤ length trace → Eights (first_records n trace)
unfolding first_records
eights zero trace h = tt
eights (suc n) trace h =
    let first : 8 ≤ length trace = omega arith in
    let rest : n * 8 ≤ length (drop 8 trace) = omega (arith, length-drop 8 trace) in
    (length-take-le 8 trace first, eights n (drop 8 trace) rest)

-- a record that waits, and then others: no more bytes are settled than came
room_by : (gaps : ℕ → ℕ) (ride : Ride) (b : List ℕ) (rs : List (List ℕ)) → length b ≡ 8 → Eights rs
    → length (bytes_of (kept_over gaps (waiting ride b true) rs)) ≤ length rs * 8
unfolding kept_over settled waits_next
room_by gaps ride b [] e all = omega arith
room_by gaps ride b (r ∷ rs) e all =
    let gap : ℕ = gaps (odometer_of b) in
    one_more (is_dropped ride gap b r) (kept_over gaps (waiting (treat ride gap b).ride r true) rs)
    (room_by gaps (treat ride gap b).ride r rs all.0 all.1)
  where
    one_more : (d : Bool) (ks : List (List ℕ)) → length (bytes_of ks) ≤ length rs * 8 → length (bytes_of (pick d [] (b ∷ []) ++ ks)) ≤ suc (length rs) * 8
    one_more true ks h = omega arith
    one_more false ks h = omega (arith, length-append b (bytes_of ks))

-- where none waited before them, one does after them, and there is room for it
pub room : (gaps : ℕ → ℕ) (ride : Ride) (b : List ℕ) (rs : List (List ℕ)) → Eights rs → (waits_after gaps (waiting ride b false) rs).waits ≡ true
    → length (bytes_of (kept_over gaps (waiting ride b false) rs)) + 8 ≤ length rs * 8
unfolding kept_over waits_after settled waits_next
room gaps ride b [] all h = cannot_be cc
room gaps ride b (r ∷ rs) all h = omega (arith, room_by gaps ride r rs all.0 all.1)
