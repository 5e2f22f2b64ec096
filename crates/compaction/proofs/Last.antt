-- The end of a trace: what the blocks left, and then the record that waits, is the compaction.
-- Assumes nothing.
use Prim.Native.Nat.{ℕ, ◌+◌, ◌*◌, ◌/◌, ◌≤◌}
use native.Mathlib.Omega.{arith}
use native.Mathlib.Nat.{add-zero}
use mathlib.Core.Path.{◌≡◌, refl, sym, ap, ap₂, ◌∙◌}
use mathlib.Core.Bool.{Bool, true, false}
use mathlib.Core.List.{List, [], ◌∷◌, ◌++◌, append-nil}
use lib.ListN.{length, length-append}
use Rattle.words.specs.Answer.{gives, pick}
use Rattle.text.specs.Put.{placed}
use Rattle.text.proofs.Placing.{placed_none}
use Rattle.ride.specs.declared.Ride.{Ride}
use Rattle.ride.specs.Record.{odometer_of}
use Rattle.ride.specs.Step.{Step, treat}
use Rattle.ride.specs.Over.{records, ride_over}
use Rattle.ride.proofs.Cutting.{records_length}
use Rattle.ride.specs.declared.TraceRefused.{TraceRefused}
use Rattle.std.specs.Prelude.{Result, Ok, Err}
use Rattle.compaction.specs.declared.Waiting.{Waiting}
use Rattle.compaction.specs.Dropped.{compact_over}
use Rattle.compaction.specs.Blocks.{waiting_record, kept_over, waits_after}
use Rattle.compaction.specs.Compact.{bytes_of, onto, Compaction, smaller_trace}
use Rattle.compaction.specs.Inside.{Serves}
use Rattle.compaction.specs.Says.{says_size}
use Rattle.compaction.proofs.Walk.{bytes_join, onto_more}
use Rattle.compaction.proofs.Blocks.{whole, state, eights, room}

-- The record that waits, put after the bytes that are kept: the state, the length and the buffer
-- then.
pub record Finished (gaps : ℕ → ℕ) (w : Waiting) (at : ℕ) (before : List ℕ) (ride : Ride) (size : Result ℕ TraceRefused) (after : List ℕ) : Type 0 where
  pub ride_is : ride ≡ (ride_over gaps w.ride 1 (waiting_record w)).ride
  pub size_is : size ≡ Ok (at + length (bytes_of (waiting_record w)))
  pub buffer_is : after ≡ placed (bytes_of (waiting_record w)) before at

pub finish_none : (gaps : ℕ → ℕ) (w : Waiting) (at : ℕ) (b : List ℕ) → w.waits ≡ false → Finished gaps w at b w.ride (Ok at) b
unfolding ride_over
finish_none gaps w at b e = record { ride_is = rw e; size_is = rw (e, add-zero); buffer_is = rw e (sym (placed_none b at)) }

pub finish_one : (gaps : ℕ → ℕ) (w : Waiting) (at : ℕ) (b : List ℕ) (ride : Ride) (after : List ℕ) → w.waits ≡ true → length w.bytes ≡ 8
    → ride ≡ (treat w.ride (gaps (odometer_of w.bytes)) w.bytes).ride → after ≡ placed w.bytes b at
    → Finished gaps w at b ride (Ok (at + 8)) after
unfolding ride_over
finish_one gaps w at b ride after e eight s p = record {
  ride_is = rw e s;
  size_is = rw (e, append-nil, eight);
  buffer_is = rw (e, append-nil) p;
}

-- a gap that serves it leaves the state that the rule's own does
served : (b : Bool) (gaps : ℕ → ℕ) (gap : ℕ) (ride : Ride) (r : List ℕ) → Serves gaps gap r
    → (ride_over (λ odometer. gap) ride 1 (pick b (r ∷ []) [])).ride ≡ (ride_over gaps ride 1 (pick b (r ∷ []) [])).ride
unfolding ride_over
served true gaps gap ride r s = ap (λ (t : Step). t.ride) (s.treats ride)
served false gaps gap ride r s = refl

pub finished_so : (gaps : ℕ → ℕ) (gap : ℕ) (w : Waiting) (at : ℕ) (before : List ℕ) (ride : Ride) (size : Result ℕ TraceRefused) (after : List ℕ) → Serves gaps gap w.bytes
    → Finished (λ odometer. gap) w at before ride size after → Finished gaps w at before ride size after
finished_so gaps gap w at before ride size after s f =
    record { ride_is = f.ride_is ∙ served w.waits gaps gap w.ride w.bytes s; size_is = f.size_is; buffer_is = f.buffer_is }

-- where none waited at first: the whole
module _ (gaps : ℕ → ℕ) (ride : Ride) (b : List ℕ) (trace : List ℕ) where
  abbrev w₀ : Waiting
  w₀ = record { ride = ride; bytes = b; waits = false }

  pub there_is_room : (w : Waiting) (at : ℕ) → w ≡ waits_after gaps w₀ (records trace) → at ≡ length (bytes_of (kept_over gaps w₀ (records trace))) → w.waits ≡ true
      → at + 8 ≤ length trace
  there_is_room w at e f h =
      let n : ℕ = length trace / 8 in
      let fits : length trace / 8 * 8 ≤ length trace = omega arith in
      omega (arith, room gaps ride b (records trace) (eights n trace fits) (ap (λ (v : Waiting). v.waits) (sym e) ∙ h), records_length n trace)

  pub is_whole : (w : Waiting) (at : ℕ) (mid after : List ℕ) (end : Ride) (size : Result ℕ TraceRefused)
      → w ≡ waits_after gaps w₀ (records trace) → at ≡ length (bytes_of (kept_over gaps w₀ (records trace)))
      → mid ≡ onto (bytes_of (kept_over gaps w₀ (records trace))) trace → Finished gaps w at mid end size after
      → ◌≡◌ {A = Compaction} (record { answer = says_size size; ride = end; buffer = after }) (smaller_trace gaps ride trace)
  unfolding smaller_trace
  is_whole w at mid after end size e f g h =
      let kept : List ℕ = bytes_of (kept_over gaps w₀ (records trace)) in
      let last : List ℕ = bytes_of (waiting_record w) in
      let all : bytes_of (compact_over gaps ride (records trace)) ≡ kept ++ last =
      ap bytes_of (whole gaps w₀ (records trace))
      ∙ bytes_join (kept_over gaps w₀ (records trace)) (waiting_record (waits_after gaps w₀ (records trace)))
      ∙ ap (λ (v : Waiting). kept ++ bytes_of (waiting_record v)) (sym e) in
      let size_is : says_size size ≡ gives (length (bytes_of (compact_over gaps ride (records trace)))) =
      ap says_size h.size_is
      ∙ ap (λ (n : ℕ). gives (n + length last)) f
      ∙ ap gives (sym (length-append kept last))
      ∙ ap (λ (l : List ℕ). gives (length l)) (sym all) in
      let ride_is : end ≡ (ride_over gaps ride 1 (records trace)).ride =
      h.ride_is ∙ ap (λ (v : Waiting). (ride_over gaps v.ride 1 (waiting_record v)).ride) e ∙ sym (state gaps w₀ 1 1 (records trace)) in
      let buffer_is : after ≡ onto (bytes_of (compact_over gaps ride (records trace))) trace =
      h.buffer_is ∙ ap₂ (λ (m : List ℕ) (n : ℕ). placed last m n) g f ∙ onto_more kept last trace ∙ ap (λ (l : List ℕ). onto l trace) (sym all) in
      rw (size_is, ride_is, buffer_is)
