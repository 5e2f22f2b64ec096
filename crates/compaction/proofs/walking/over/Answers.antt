-- `over` takes the records one by one: the next one settles the one that waits, which is treated
-- with what is held for it. What is kept goes to the block's start, no further on than what was
-- read, so that what is still to be read is as it was.
use Prim.Native.Nat.{ℕ, ◌+◌, ◌*◌, ◌/◌, ◌≤◌, ◌<◌}
use native.Mathlib.Omega.{arith}
use mathlib.Core.Path.{◌≡◌, refl, sym, ap, subst, ◌∙◌}
use mathlib.Core.Bool.{Bool, true, not}
use mathlib.Core.Logic.{⊎_elim}
use mathlib.Core.List.{[], ◌∷◌}
use lib.ListN.{length}
use Rattle.words.specs.Answer.{pick}
use Rattle.text.specs.Put.{placed}
use Rattle.settings.specs.At.{gap_at}
use Rattle.settings.proofs.Holding.{Holding, holding_at}
use Rattle.ride.specs.declared.Ride.{Ride}
use Rattle.compaction.specs.declared.Waiting.{Waiting}
use Rattle.compaction.proofs.Turns.{none_waits, settles, held_serves}
use Rattle.compaction.proofs.Walk.{Walk, walk_first, walk_length, walk_same, walk_kept, walk_dropped}
use Rattle.compaction.proofs.walking.over.Invariants.{from}
use Rattle.compaction.proofs.walking.over.Goals.{In-loop-i, Joined-waits}
use Rattle.compaction.proofs.walking.over.Goals as goal

-- the block's length fits, and so does every place in it
fits : (c : In-loop-i) →
    let l = c.loop-i in
    (l.i * 8 + 8 ≤ 18446744073709551615) × (l.at ≤ l.i * 8) × (l.i * 8 + 8 ≤ length l.block)
fits c = (omega arith, c.loop-i.invariant.2.below, omega arith)

-- what the record that was read leaves of the one that waited
walked : (j : Joined-waits) →
    let a = j.args in
    Walk (gap_at a.store) a.waiting a.block.now (j.loop-i.i + 1) (from j.if-waits.ride j.eight-next.result true) j.if-waits.at j.if-waits.block
walked j =
    let a = j.args in
    let gaps : ℕ → ℕ = gap_at a.store in
    let w : Waiting = from j.loop-i.ride j.loop-i.bytes j.loop-i.waits in
    let next = j.eight-next.result in
    let w' : Waiting = from j.if-waits.ride next true in
    let there : j.loop-i.i < length a.block.now / 8 = omega arith in
    let one_kept = walk_kept gaps a.waiting a.block.now j.loop-i.i w j.loop-i.at j.loop-i.block j.loop-i.invariant.2 there next w' j.eight-next.ensures in
    let one-dropped = walk_dropped gaps a.waiting a.block.now j.loop-i.i w j.loop-i.at j.loop-i.block j.loop-i.invariant.2 there next w' j.eight-next.ensures in
    let stays = walk_same gaps a.waiting a.block.now (j.loop-i.i + 1) w' j.loop-i.at j.if-waits.at j.loop-i.block j.if-waits.block in
    ⊎_elim
    (λ k.
    let s = settles gaps j.loop-i.held.gap w next k.treat-treated.result k.is_dropped.result j.loop-i.invariant.4 k.if-waits.true k.treat-treated.ensures k.is_dropped.ensures in
    walk_same gaps a.waiting a.block.now (j.loop-i.i + 1) w' (j.loop-i.at + 8) j.if-waits.at
    (placed j.loop-i.bytes j.loop-i.block j.loop-i.at) j.if-waits.block
    (one_kept (ap (λ (r : Ride). from r next true) k.ride-is ∙ s.0) k.put_eight.ensures.bytes_len
    (ap (λ (d : Bool). pick (not d) (j.loop-i.bytes ∷ []) []) (sym k.if-not-is_dropped.true) ∙ s.1))
    k.at-is (k.block-is ∙ k.put_eight.ensures.trace_after))
    (λ v. ⊎_elim
    (λ k.
    let s = settles gaps j.loop-i.held.gap w next k.treat-treated.result k.is_dropped.result j.loop-i.invariant.4 k.if-waits.true k.treat-treated.ensures k.is_dropped.ensures in
    stays
    (one-dropped (ap (λ (r : Ride). from r next true) k.ride-is ∙ s.0)
    (ap (λ (d : Bool). pick (not d) (j.loop-i.bytes ∷ []) []) (sym k.if-not-is_dropped.false) ∙ s.1))
    k.at-is k.block-is)
    (λ k.
    let s = none_waits gaps w next k.if-waits.false in
    stays (one-dropped (ap (λ (r : Ride). from r next true) k.ride-is ∙ s.0) s.1) k.at-is k.block-is)
    v)
    j.if-waits.branch-raw

pub loop-i-init : goal.loop-i-init
loop-i-init c =
    let a = c.args in
    let first : Holding a.store a.first = rw c.requires.1 (holding_at a.store 0 c.requires.0) in
    let held = held_serves a.store a.first c.held_for-held.result a.waiting.bytes c.requires.0 first c.held_for-held.ensures in
    (refl, refl, walk_first (gap_at a.store) a.waiting a.block.now, held.0, held.1)

pub treat-treated-requires : goal.treat-treated-requires
treat-treated-requires c = c.loop-i.invariant.4.good

pub put_eight-requires : goal.put_eight-requires
put_eight-requires c = omega (arith, fits (goal.at-put_eight-requires c).In-loop-i)

pub overflow_add-at : goal.overflow_add-at
overflow_add-at c = omega (arith, fits (goal.at-overflow_add-at c).In-loop-i)

pub loop-i-preserved : goal.loop-i-preserved
loop-i-preserved c =
    let a = c.args in
    let gaps : ℕ → ℕ = gap_at a.store in
    let on : c.loop-i.i + 1 ≤ length a.block.now / 8 = omega arith in
    let held = held_serves a.store c.loop-i.held c.held_for-held-in-loop-i.result c.eight-next.result c.requires.0 c.loop-i.invariant.3 c.held_for-held-in-loop-i.ensures in (
      refl,
      walk_length gaps a.waiting a.block.now (c.loop-i.i + 1) (from c.if-waits.ride c.eight-next.result true) c.if-waits.at c.if-waits.block (walked (goal.at-loop-i-preserved c).Joined-waits) on,
      walked (goal.at-loop-i-preserved c).Joined-waits,
      held.0,
      held.1,
    )

pub shape_of-block : goal.shape_of-block
shape_of-block c = c.loop-i.invariant.1

pub returns : goal.returns
returns c =
    let a = c.args in
    let gaps : ℕ → ℕ = gap_at a.store in
    let w : Waiting = from c.loop-i.ride c.loop-i.bytes c.loop-i.waits in
    let all : c.loop-i.i ≡ length a.block.now / 8 = omega arith in
    let so : Walk gaps a.waiting a.block.now (length a.block.now / 8) w c.loop-i.at c.loop-i.block =
    subst (λ (n : ℕ). Walk gaps a.waiting a.block.now n w c.loop-i.at c.loop-i.block) all c.loop-i.invariant.2 in
    record { waits = so.waits; serves = c.loop-i.invariant.4; bytes_are = so.bytes; buffer = so.buffer }
