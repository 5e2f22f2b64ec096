-- A compacted trace: its records are those that are kept, and it is no longer than it was.
-- Assumes nothing.
use Prim.Native.Nat.{ℕ, ◌*◌, ◌/◌, ◌%◌, ◌≤◌}
use native.Mathlib.Omega.{arith}
use mathlib.Core.Path.{◌≡◌, refl, ap, ap₂, ◌∙◌}
use mathlib.Core.List.{List, [], ◌∷◌, ◌++◌, append-nil}
use lib.ListN.{length, length-append}
use lib.Seq.{take_at, drop_at, drop-length}
use Rattle.words.specs.Answer.{gives}
use Rattle.ride.specs.declared.Ride.{Ride}
use Rattle.ride.specs.Over.{first_records, records, ride_over}
use Rattle.ride.proofs.Cutting.{records_length}
use Rattle.compaction.specs.Dropped.{compact_over}
use Rattle.compaction.specs.Smaller.{KeptOf, nothing, kept, dropped}
use Rattle.compaction.specs.Compact.{bytes_of, onto, smaller_trace}
use Rattle.compaction.proofs.Blocks.{Eights, eights}
use Rattle.compaction.proofs.Smaller.{smaller}

-- ---- records of eight bytes, as bytes and back

pub bytes_length : (ks : List (List ℕ)) → Eights ks → length (bytes_of ks) ≡ length ks * 8
bytes_length [] all = omega arith
bytes_length (k ∷ ks) all = omega (arith, length-append k (bytes_of ks), all.0, bytes_length ks all.1)

first_bytes : (ks : List (List ℕ)) → Eights ks → first_records (length ks) (bytes_of ks) ≡ ks
unfolding first_records
first_bytes [] all = refl
first_bytes (k ∷ ks) all =
    ap₂ (λ (r : List ℕ) (rs : List (List ℕ)). r ∷ rs) (take_at k (bytes_of ks) 8 all.0)
    (ap (first_records (length ks)) (drop_at k (bytes_of ks) 8 all.0) ∙ first_bytes ks all.1)

pub bytes_records : (ks : List (List ℕ)) → Eights ks → records (bytes_of ks) ≡ ks
bytes_records ks all =
    let many : length (bytes_of ks) / 8 ≡ length ks = omega (arith, bytes_length ks all) in
    ap (λ (n : ℕ). first_records n (bytes_of ks)) many ∙ first_bytes ks all

-- ---- what is kept of records of eight bytes

kept_eights : {ks rs : List (List ℕ)} → KeptOf ks rs → Eights rs → Eights ks
kept_eights nothing all = tt
kept_eights (kept k) all = (all.0, kept_eights k all.1)
kept_eights (dropped e k) all = kept_eights k all.1

kept_fewer : {ks rs : List (List ℕ)} → KeptOf ks rs → length ks ≤ length rs
kept_fewer nothing = omega arith
kept_fewer (kept k) = omega (arith, kept_fewer k)
kept_fewer (dropped e k) = omega (arith, kept_fewer k)

module _ (gaps : ℕ → ℕ) (ride : Ride) (trace : List ℕ) where
  abbrev ks : List (List ℕ)
  ks = compact_over gaps ride (records trace)

  abbrev bytes : List ℕ
  bytes = bytes_of ks

  all_eight : Eights ks
  all_eight =
      let n : ℕ = length trace / 8 in
      let fits : length trace / 8 * 8 ≤ length trace = omega arith in
      kept_eights (smaller.in_order gaps ride (records trace)) (eights n trace fits)

  pub new_records : records bytes ≡ ks
  new_records = bytes_records ks all_eight

  pub new_whole : length bytes % 8 ≡ 0
  new_whole = omega (arith, bytes_length ks all_eight)

  pub not_longer : length bytes ≤ length trace
  not_longer =
      let n : ℕ = length trace / 8 in
      omega (arith, bytes_length ks all_eight, kept_fewer (smaller.in_order gaps ride (records trace)), records_length n trace)

  -- compacted once more, it stays as it is
  pub compacted_again : smaller_trace gaps ride bytes ≡ record { answer = gives (length bytes); ride = (ride_over gaps ride 1 (records trace)).ride; buffer = bytes }
  unfolding smaller_trace
  compacted_again =
      let again : compact_over gaps ride (records bytes) ≡ ks = ap (compact_over gaps ride) new_records ∙ smaller.once gaps ride (records trace) in
      let same : bytes_of (compact_over gaps ride (records bytes)) ≡ bytes = ap bytes_of again in
      let state : (ride_over gaps ride 1 (records bytes)).ride ≡ (ride_over gaps ride 1 (records trace)).ride =
      ap (λ (rs : List (List ℕ)). (ride_over gaps ride 1 rs).ride) new_records ∙ smaller.end_state gaps ride 1 1 (records trace) in
      ap₂ (λ (b : List ℕ) (s : Ride). record { answer = gives (length b); ride = s; buffer = onto b bytes }) same state
      ∙ ap (λ (b : List ℕ). record { answer = gives (length bytes); ride = (ride_over gaps ride 1 (records trace)).ride; buffer = b }) (onto_itself bytes)
    where
      onto_itself : (b : List ℕ) → onto b b ≡ b
      onto_itself b = ap (λ (l : List ℕ). b ++ l) (drop-length b) ∙ append-nil b
