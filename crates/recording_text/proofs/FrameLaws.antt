-- Why the laws of the frames hold: a frame adds one whatever its odometer, the odometer kept is the
-- recording's, and frames of a piece are those of the whole.
-- Assumes nothing.
use Prim.Native.Nat.{ℕ, zero, suc, ◌+◌, ◌≤◌, ◌<◌}
use mathlib.Core.Path.{◌≡◌, refl, sym, ap, ◌∙◌}
use mathlib.Core.Bool.{Bool, true, false}
use mathlib.Core.List.{List, ◌++◌}
use native.Mathlib.Omega.{arith}
use lib.Dec.{ltb}
use lib.ListN.{length-append}
use Rattle.words.specs.Answer.{Outcome, gives, refuses, pick}
use Rattle.words.specs.Limits.{largest64}
use Rattle.antenna.proofs.Ends.{one_more}
use Rattle.recording.specs.Frame.{odometer_of, accepted_after}
use Rattle.recording.specs.Recording.{frames_of}
use Rattle.recording.specs.Contacts.{before}
use Rattle.recording.proofs.Pieces.{in_first, in_second}
use Rattle.recording_text.specs.declared.Frames.{Frames}
use Rattle.recording_text.specs.Counts.{more, judge_frame, no_frames, with_frame, over_frames, count_frames}
use Rattle.recording_text.specs.Laws.{standing, AsRecorded, AnyPieces, AllFrames}

-- ---- which frames are refused

pub as_recorded : AsRecorded
unfolding accepted_after judge_frame
as_recorded last given = go (ltb 4000000000 given) (ltb given last)
  where
    go : (x y : Bool) → pick x last (pick y last given) ≡ standing last (pick {A = Outcome ℕ} x (refuses 18) (pick {A = Outcome ℕ} y (refuses 17) (gives given)))
    go true y = refl
    go false true = refl
    go false false = refl

-- ---- all of them are counted

counts_one : (f : Frames) (x : Outcome ℕ) → (with_frame f x).frames ≡ more f.frames
counts_one f (gives odometer) = refl
counts_one f (refuses number) = refl

keeps : (f : Frames) (x : Outcome ℕ) → (with_frame f x).odometer ≡ standing f.odometer x
keeps f (gives odometer) = refl
keeps f (refuses number) = refl

module _ (lead : List ℕ) where
  abbrev next : Frames → ℕ → Frames
  next f k = with_frame f (judge_frame f.odometer (odometer_of lead k))

  all_counted : (n : ℕ) (f : Frames) (k : ℕ) → f.frames + n ≤ largest64 → (over_frames lead f k n).frames ≡ f.frames + n
  unfolding over_frames
  all_counted zero f k few = omega arith
  all_counted (suc n) f k few =
      let one = counts_one f (judge_frame f.odometer (odometer_of lead k)) ∙ one_more f.frames (omega arith) in
      let on = all_counted n (next f k) (k + 1) (omega arith) in
      omega arith

  same_odometer : (n : ℕ) (f : Frames) (k : ℕ) → f.odometer ≡ before lead k → (over_frames lead f k n).odometer ≡ before lead (k + n)
  unfolding over_frames before
  same_odometer zero f k e =
      let m : k ≡ k + 0 = omega arith in
      e ∙ ap (before lead) m
  same_odometer (suc n) f k e =
      let m : k + 1 + n ≡ k + suc n = omega arith in
      let one : k + 1 ≡ suc k = omega arith in
      let kept : (next f k).odometer ≡ before lead (suc k) =
      keeps f (judge_frame f.odometer (odometer_of lead k)) ∙ sym (as_recorded f.odometer (odometer_of lead k))
      ∙ ap (λ (z : ℕ). accepted_after z (odometer_of lead k)) e in
      same_odometer n (next f k) (k + 1) (kept ∙ sym (ap (before lead) one)) ∙ ap (before lead) m

pub all_frames : AllFrames
unfolding count_frames no_frames before
all_frames lead few =
    let m : 0 + frames_of lead ≡ frames_of lead = omega arith in
    (all_counted lead (frames_of lead) no_frames 0 (omega arith) ∙ m, same_odometer lead (frames_of lead) no_frames 0 refl ∙ ap (before lead) m)

-- ---- pieces

-- The frames of one lead from k on have the odometers of those of another from m on.
same : (a b : List ℕ) (n : ℕ) (f : Frames) (k m : ℕ) → ((j : ℕ) → j < n → odometer_of a (k + j) ≡ odometer_of b (m + j)) → over_frames a f k n ≡ over_frames b f m n
unfolding over_frames
same a b zero f k m h = refl
same a b (suc n) f k m h =
    let k0 : k + 0 ≡ k = omega arith in
    let m0 : m + 0 ≡ m = omega arith in
    let here : odometer_of a k ≡ odometer_of b m = sym (ap (odometer_of a) k0) ∙ h 0 (omega arith) ∙ ap (odometer_of b) m0 in
    ap (λ (z : ℕ). over_frames a (with_frame f (judge_frame f.odometer z)) (k + 1) n) here
    ∙ same a b n (with_frame f (judge_frame f.odometer (odometer_of b m))) (k + 1) (m + 1) (λ j low. on j (h (j + 1) (omega arith)))
  where
    on : (j : ℕ) → odometer_of a (k + (j + 1)) ≡ odometer_of b (m + (j + 1)) → odometer_of a (k + 1 + j) ≡ odometer_of b (m + 1 + j)
    on j e =
        let x : k + 1 + j ≡ k + (j + 1) = omega arith in
        let y : m + (j + 1) ≡ m + 1 + j = omega arith in
        ap (odometer_of a) x ∙ e ∙ ap (odometer_of b) y

-- m frames, and then n more.
split : (lead : List ℕ) (m : ℕ) (f : Frames) (k n : ℕ) → over_frames lead f k (m + n) ≡ over_frames lead (over_frames lead f k m) (k + m) n
unfolding over_frames
split lead zero f k n =
    let e : zero + n ≡ n = omega arith in
    let g : k ≡ k + zero = omega arith in
    ap (over_frames lead f k) e ∙ ap (λ (z : ℕ). over_frames lead f z n) g
split lead (suc m) f k n =
    let e : suc m + n ≡ suc (m + n) = omega arith in
    let g : k + 1 + m ≡ k + suc m = omega arith in
    ap (over_frames lead f k) e ∙ split lead m (next lead f k) (k + 1) n
    ∙ ap (λ (z : ℕ). over_frames lead (over_frames lead (next lead f k) (k + 1) m) z n) g

pub any_pieces : AnyPieces
unfolding count_frames
any_pieces f a b m e =
    let n : frames_of (a ++ b) ≡ m + frames_of b = omega (arith, length-append a b) in
    let own : m ≡ frames_of a = omega arith in
    ap (over_frames (a ++ b) f 0) n
    ∙ split (a ++ b) m f 0 (frames_of b)
    ∙ ap (λ (g : Frames). over_frames (a ++ b) g (0 + m) (frames_of b)) (same (a ++ b) a m f 0 0 (λ j low. (in_first a b (0 + j) (omega arith)).odometer))
    ∙ same (a ++ b) b (frames_of b) (over_frames a f 0 m) (0 + m) 0 (λ j low. second j)
    ∙ ap (λ (z : ℕ). over_frames b (over_frames a f 0 z) 0 (frames_of b)) own
  where
    second : (j : ℕ) → odometer_of (a ++ b) (0 + m + j) ≡ odometer_of b (0 + j)
    second j =
        let x : 0 + m + j ≡ m + j = omega arith in
        let y : j ≡ 0 + j = omega arith in
        ap (odometer_of (a ++ b)) x ∙ (in_second a b m j e).odometer ∙ ap (odometer_of b) y
