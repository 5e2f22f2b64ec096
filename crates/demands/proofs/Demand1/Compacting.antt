-- A compaction refuses as the table says, and then leaves everything as it was.
-- Assumes nothing.
use Prim.Native.Nat.{ℕ, ◌%◌}
use mathlib.Core.Path.{◌≡◌, refl, ap}
use mathlib.Core.Bool.{true}
use mathlib.Core.List.{List}
use lib.Dec.{eqb}
use lib.ListN.{length}
use Rattle.words.specs.Answer.{gives, refuses}
use Rattle.settings.specs.declared.Store.{Store}
use Rattle.settings.specs.Versions.{kept}
use Rattle.settings.specs.Store.{judged}
use Rattle.settings.specs.At.{gap_at}
use Rattle.ride.specs.declared.Ride.{Ride}
use Rattle.compaction.specs.declared.Waiting.{Waiting}
use Rattle.compaction.specs.Compact.{Compaction, untouched, smaller_trace, compact, Settling, unsettled, settled_block, compact_block}
use Rattle.compaction.proofs.Judging.{compact_refused, compact_length, compact_whole, block_refused, block_length}
use Rattle.demands.specs.Rules.{Decided, Given}
use Rattle.demands.specs.Stores.{trace_rules}
use Rattle.demands.proofs.Demand1.JudgedFirst.{JudgedFirst, decided}
use Rattle.demands.proofs.Demand1.JudgedFirst as first

module _ (ride : Ride) (store : Store) (trace : List ℕ) where
  compact_tests : JudgedFirst (λ (x : Compaction). x.answer) (untouched ride trace) store trace (smaller_trace (gap_at store) ride trace) (compact ride store trace)
  compact_tests = record {
    bare = λ n. refl;
    refused = compact_refused ride store trace;
    short = compact_length ride store trace;
    whole = compact_whole ride store trace;
  }

  -- A compaction: the settings' own refusals, then 16;
  pub compacting : Decided Given (trace_rules store trace) (compact ride store trace).answer
  unfolding smaller_trace
  compacting = decided compact_tests Given (_, refl)

  -- and what a refused one leaves.
  pub compact_untouched : (n : ℕ) → (compact ride store trace).answer ≡ refuses n → ((compact ride store trace).ride ≡ ride) × ((compact ride store trace).buffer ≡ trace)
  unfolding smaller_trace
  compact_untouched n e =
      let stays = first.untouched compact_tests (_, refl) n e in
      (ap (λ (x : Compaction). x.ride) stays, ap (λ (x : Compaction). x.buffer) stays)

module _ (w : Waiting) (store : Store) (block : List ℕ) where
  block_whole : judged store ≡ gives kept → eqb (length block % 8) 0 ≡ true → settled_block (gap_at store) w block ≡ compact_block w store block
  unfolding compact_block
  block_whole e h = rw (e, h)

  block_tests : JudgedFirst (λ (x : Settling). x.answer) (unsettled w block) store block (settled_block (gap_at store) w block) (compact_block w store block)
  block_tests = record { bare = λ n. refl; refused = block_refused w store block; short = block_length w store block; whole = block_whole }

  -- A block likewise.
  pub settling : Decided Given (trace_rules store block) (compact_block w store block).answer
  unfolding settled_block
  settling = decided block_tests Given (_, refl)

  pub block_untouched : (n : ℕ) → (compact_block w store block).answer ≡ refuses n → ((compact_block w store block).waiting ≡ w) × ((compact_block w store block).buffer ≡ block)
  unfolding settled_block
  block_untouched n e =
      let stays = first.untouched block_tests (_, refl) n e in
      (ap (λ (x : Settling). x.waiting) stays, ap (λ (x : Settling). x.buffer) stays)
