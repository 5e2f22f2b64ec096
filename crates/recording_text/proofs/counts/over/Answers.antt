-- The loop takes one frame after the other.
-- Assumes nothing.
use Prim.Native.Nat.{ℕ, ◌+◌, ◌-◌, ◌/◌}
use mathlib.Core.Path.{◌≡◌, refl, sym, ap, ◌∙◌}
use native.Mathlib.Omega.{arith}
use lib.ListN.{length}
use Rattle.recording_text.specs.declared.Frames.{Frames}
use Rattle.recording_text.specs.Counts.{judge_frame, with_frame, over_frames, count_frames}
use Rattle.recording_text.proofs.Counting.{one_turn, no_turn}
use Rattle.recording_text.proofs.counts.over.Goals as goal

pub loop-k-init : goal.loop-k-init
unfolding count_frames
loop-k-init c =
    let p = c.args.piece.now in
    let whole : length p / 16 - 0 ≡ length p / 16 = omega arith in
    (ap (over_frames p c.args.frames 0) whole, refl)

pub odometer-requires : goal.odometer-requires
odometer-requires c = omega (arith, c.loop-k-test.true, c.loop-k.invariant.1)

pub loop-k-preserved : goal.loop-k-preserved
loop-k-preserved c =
    let l = c.loop-k in
    let p = c.args.piece.now in
    let n = length p / 16 in
    let took = c.with_frame-counted.ensures ∙ ap (λ (z : ℕ). with_frame l.counted (judge_frame l.counted.odometer z)) c.odometer.ensures in
    (ap (λ (f : Frames). over_frames p f (l.k + 1) (n - (l.k + 1))) took ∙ sym (one_turn p l.counted l.k n c.loop-k-test.true) ∙ l.invariant.0, l.invariant.1)

pub returns : goal.returns
returns c = sym (no_turn _ _ _ _ c.loop-k-test.false) ∙ c.loop-k.invariant.0
