-- `atc2_compact` returns the new length, or the refusal, and leaves the trace, as `compact` does
-- for a fresh ride.
-- Assumes nothing.
use Rattle.std.specs.Prelude.{Err}
use mathlib.Core.Path.{◌≡◌, sym, ap, subst, ◌∙◌}
use Prim.Native.Nat.{ℕ, ◌^◌, ◌≤◌, ◌<◌}
use native.Mathlib.Nat.{mul-one}
use native.Mathlib.Omega.{arith}
use lib.ListN.{length}
use borrow.Author.Rules.{rules}
use Rattle.words.specs.Answer.{refuses}
use Rattle.settings.specs.Store.{Change, plain}
use Rattle.ride.specs.declared.Ride.{Ride}
use Rattle.ride.specs.State.{fresh_ride}
use Rattle.compaction.specs.Compact.{Compaction, compact}
use Rattle.compaction.specs.Says.{says_size, says_compacted}
use Rattle.abi.specs.Face.{returned, itself}
use Rattle.abi.proofs.Carried.{carried, as_i64}
use Rattle.abi.proofs.Smaller.{few_bytes, only_19}
use Rattle.abi.proofs.traces.atc2_compact.Goals.{After-compact-compacted, In-Ok}
use Rattle.abi.proofs.traces.atc2_compact.Goals as goal

-- What the call of `compact` came to.
came : After-compact-compacted → Compaction
came w =
    let a = w.args in
    compact fresh_ride (plain a.gap) a.trace.now

called : (w : After-compact-compacted) → says_compacted w.compact-compacted.result w.compact-compacted.new.trace ≡ came w
unfolding came
called w =
    let a = w.args in
    w.compact-compacted.ensures ∙ ap (λ (r : Ride). compact r w.begin-begun.result.store a.trace.now) w.fresh.ensures
    ∙ ap (λ (x : Change). compact fresh_ride x.store a.trace.now) w.begin-begun.ensures

answered : (w : After-compact-compacted) → says_size w.compact-compacted.result.size ≡ (came w).answer
answered w = ap (λ (v : Compaction). v.answer) (called w)

left_there : (w : After-compact-compacted) → w.compact-compacted.new.trace ≡ (came w).buffer
left_there w = ap (λ (v : Compaction). v.buffer) (called w)

-- not above the trace's own length, which is below 2 ^ 63
small : (c : In-Ok) → c.in-Ok.bytes < 2 ^ 63
unfolding came
small c =
    let few : c.in-Ok.bytes ≤ length c.args.trace.now =
    few_bytes fresh_ride (plain c.args.gap) c.args.trace.now c.in-Ok.bytes (ap says_size (sym c.in-Ok.is) ∙ answered (goal.at-In-Ok c).After-compact-compacted) in
    let big : length c.args.trace.now < 2 ^ 63 = subst (λ (k : ℕ). k < 2 ^ 63) (mul-one (length c.args.trace.now)) c.well_formed.1.0.1 in
    omega arith

pub overflow_cast-result : goal.overflow_cast-result
overflow_cast-result c = let below : c.in-Ok.bytes < 2 ^ 63 = small c in search rules

pub returns-in-Ok : goal.returns-in-Ok
unfolding came
returns-in-Ok c =
    record { value = as_i64 (small c) ∙ carried (returned itself) says_size c.in-Ok.is (answered (goal.at-returns-in-Ok c).After-compact-compacted); trace_after = left_there (goal.at-returns-in-Ok c).After-compact-compacted }

pub returns-in-Err-Settings : goal.returns-in-Err-Settings
unfolding came
returns-in-Err-Settings c =
    let a = c.args in
    let is-19 = only_19 fresh_ride a.gap a.trace.now _ (ap says_size (sym (c.in-Err-Settings.is ∙ ap Err (rw c.in-Err-Settings.is at c.in-Err-Settings.field-0-is))) ∙ answered (goal.at-returns-in-Err-Settings c).After-compact-compacted) in
    record { value = ap (λ (n : ℕ). returned itself (refuses n)) (sym is-19) ∙ carried (returned itself) says_size (c.in-Err-Settings.is ∙ ap Err (rw c.in-Err-Settings.is at c.in-Err-Settings.field-0-is)) (answered (goal.at-returns-in-Err-Settings c).After-compact-compacted); trace_after = left_there (goal.at-returns-in-Err-Settings c).After-compact-compacted }

pub returns-in-Err-Length : goal.returns-in-Err-Length
unfolding came
returns-in-Err-Length c =
    record { value = carried (returned itself) says_size (c.in-Err-Length.is ∙ ap Err (rw c.in-Err-Length.is at c.in-Err-Length.field-0-is)) (answered (goal.at-returns-in-Err-Length c).After-compact-compacted); trace_after = left_there (goal.at-returns-in-Err-Length c).After-compact-compacted }
