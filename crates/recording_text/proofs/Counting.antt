-- Counting frame by frame: the odometer of a frame is that of every other record of eight bytes,
-- and one turn of the loop takes one frame.
-- Assumes nothing.
use Prim.Native.Nat.{ℕ, suc, ◌+◌, ◌-◌, ◌*◌, ◌≤◌, ◌<◌}
use mathlib.Core.Path.{◌≡◌, sym, ap, ◌∙◌}
use mathlib.Core.List.{List}
use native.Mathlib.Omega.{arith}
use lib.ListN.{length, drop, get_or}
use lib.Seq.{get_or-take, get_or-drop}
use Rattle.ride.specs.Record as ride
use Rattle.ride.specs.At.{record_at, odometer_at}
use Rattle.ride.proofs.Under.{odometer_there}
use Rattle.recording.specs.Frame.{odometer_of}
use Rattle.recording_text.specs.declared.Frames.{Frames}
use Rattle.recording_text.specs.Counts.{judge_frame, with_frame, over_frames}

byte_at : (lead : List ℕ) (i k : ℕ) → k < 8 → get_or (record_at lead i) k 0 ≡ get_or lead (i * 8 + k) 0
byte_at lead i k h = get_or-take 8 (drop (i * 8) lead) k 0 h ∙ get_or-drop (i * 8) lead k 0

pub odometer_is : (lead : List ℕ) (k : ℕ) → 16 * k + 16 ≤ length lead → odometer_at lead (2 * k) ≡ odometer_of lead k
unfolding ride.odometer_of odometer_of
odometer_is lead k fits =
    let i0 : 2 * k * 8 + 0 ≡ 16 * k = omega arith in
    let i1 : 2 * k * 8 + 1 ≡ 16 * k + 1 = omega arith in
    let i2 : 2 * k * 8 + 2 ≡ 16 * k + 2 = omega arith in
    let i3 : 2 * k * 8 + 3 ≡ 16 * k + 3 = omega arith in
    let b0 = byte_at lead (2 * k) 0 (omega arith) ∙ ap (λ (z : ℕ). get_or lead z 0) i0 in
    let b1 = byte_at lead (2 * k) 1 (omega arith) ∙ ap (λ (z : ℕ). get_or lead z 0) i1 in
    let b2 = byte_at lead (2 * k) 2 (omega arith) ∙ ap (λ (z : ℕ). get_or lead z 0) i2 in
    let b3 = byte_at lead (2 * k) 3 (omega arith) ∙ ap (λ (z : ℕ). get_or lead z 0) i3 in
    sym (odometer_there lead (2 * k) (omega arith)) ∙ rw (b0, b1, b2, b3)

-- One turn.
pub one_turn : (lead : List ℕ) (f : Frames) (k n : ℕ) → k < n
    → over_frames lead f k (n - k) ≡ over_frames lead (with_frame f (judge_frame f.odometer (odometer_of lead k))) (k + 1) (n - (k + 1))
unfolding over_frames
one_turn lead f k n low =
    let e : n - k ≡ suc (n - (k + 1)) = omega arith in
    ap (over_frames lead f k) e

-- The last one.
pub no_turn : (lead : List ℕ) (f : Frames) (k n : ℕ) → n ≤ k → over_frames lead f k (n - k) ≡ f
unfolding over_frames
no_turn lead f k n high =
    let e : n - k ≡ 0 = omega arith in
    ap (over_frames lead f k) e
