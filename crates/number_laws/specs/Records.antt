-- Demand 1 for what records a lead: `recorder::record_of`, which makes a record of a judged
-- contact, and `recording_text::count_frames`, which counts the frames. Each refuses with the first
-- number of its list whose condition holds, and a refusal hands out no figure; nor does one of
-- `antenna::hear_piece`, whose list is in recording_laws.
-- Assumes nothing.
use Rattle.std.specs.Prelude.{ℕ, ◌*◌, ◌<◌, ◌≡◌, Bool, true, false, List, [], ◌∷◌, ◌++◌, ltb, length, Result, Ok}
use contract.Lifetimes.{Lfts}
use Rattle.std.specs.Borrow.{Bor}
use borrow.Fn.Kinds.{ended_of}
use denote.Triple.Clauses.{AtExit}
use Rattle.words.specs.Answer.{Outcome, refuses}
use Rattle.telegram.specs.declared.Telegram.{Telegram}
use Rattle.contact.specs.declared.Judged.{Judged}
use Rattle.antenna.specs.Says.{says_until}
use Rattle.recorder.specs.Record.{Made, made, whether}
use Rattle.recorder.specs.Says.{says_recorded}
use Rattle.recorder.specs.declared.RecordRefused.{RecordRefused}
use Rattle.recorder.proofs.record_of.Kinds as record_kinds
use Rattle.recorder.proofs.record_of.Reads as record_reads
use Rattle.recording.specs.Frame.{odometer_of}
use Rattle.recording_text.specs.Counts.{with_frame}
use Rattle.recording_text.specs.declared.Frames.{Frames}
use Rattle.recording_text.proofs.count_frames.Kinds as frames_kinds
use Rattle.recording_text.proofs.count_frames.Reads as frames_reads
use Rattle.demands.specs.Rules.{Rule, row, Decided, Is}
use Rattle.demands.specs.Table.{above}
use Rattle.demands.specs.Table02.{some_above, some_fifteen, too_high}
use Rattle.demands.specs.Untouched.{Bare}

-- ---- a record of a judged contact

-- The contract of `record_of` allows the answer r for this odometer and this judgement.
abbrev pub RecordOf : ℕ → Judged → Result (List ℕ) RecordRefused → Type 0
RecordOf odometer j r = (e : AtExit (ended_of 0 record_kinds.ps record_kinds.r) tt) × record_reads.Post tt (odometer, (j, tt)) r e

-- 2: the figures that were judged are some that no telegram has. (`judge` never answers such; a
-- caller may.)
abbrev pub figure_above : Judged → Bool
figure_above (Judged.Read (Telegram.Figures x y z) first count) = some_above x y z
figure_above (Judged.Read (Telegram.Number m) first count) = above 2047 m
figure_above Judged.Marker = false
figure_above Judged.NotSeven = false
figure_above Judged.Beyond = false
figure_above Judged.Differ = false
figure_above Judged.Neither = false

-- 3: one of them is 15, which no balise sends
abbrev pub figure_fifteen : Judged → Bool
figure_fifteen (Judged.Read (Telegram.Figures x y z) first count) = some_fifteen x y z
figure_fifteen (Judged.Read (Telegram.Number m) first count) = false
figure_fifteen Judged.Marker = false
figure_fifteen Judged.NotSeven = false
figure_fifteen Judged.Beyond = false
figure_fifteen Judged.Differ = false
figure_fifteen Judged.Neither = false

-- 4 and 5: the contact was so refused
abbrev pub was_not_seven : Judged → Bool
was_not_seven (Judged.Read m first count) = false
was_not_seven Judged.Marker = false
was_not_seven Judged.NotSeven = true
was_not_seven Judged.Beyond = false
was_not_seven Judged.Differ = false
was_not_seven Judged.Neither = false

abbrev pub was_beyond : Judged → Bool
was_beyond (Judged.Read m first count) = false
was_beyond Judged.Marker = false
was_beyond Judged.NotSeven = false
was_beyond Judged.Beyond = true
was_beyond Judged.Differ = false
was_beyond Judged.Neither = false

-- `record_of`: 2, 3, 4, 5, then 18 for the odometer. (Contacts refused with 7 and 8 are recorded,
-- as unreadable.)
abbrev pub making_rules : ℕ → Judged → List (Rule (Outcome Made))
making_rules odometer j =
    row 2 (figure_above j) ∷ row 3 (figure_fifteen j) ∷ row 4 (was_not_seven j) ∷ row 5 (was_beyond j) ∷ row 18 (too_high odometer) ∷ []

pub record RecordsDecided : Type 0 where
  pub record_of : (odometer : ℕ) (j : Judged) (r : Result (List ℕ) RecordRefused) → RecordOf odometer j r → Decided (Is made) (making_rules odometer j) (whether (says_recorded r))
  -- no refusal carries a figure, and no byte of a record
  pub went : Bare says_recorded
  pub heard : Bare says_until
  pub no_bytes : (odometer : ℕ) (j : Judged) (r : Result (List ℕ) RecordRefused) (n : ℕ) (bytes : List ℕ) → RecordOf odometer j r → says_recorded r ≡ refuses n → r ≡ Ok bytes → ⊥

-- ---- the frames of a lead

-- The contract of `count_frames` allows the answer r for this piece of a lead, after these frames.
abbrev pub CountFrames : Frames → List ℕ → Frames → Type 0
CountFrames f piece r =
    (κs : Lfts 1) × (lent : Bor (List ℕ)) × (e : AtExit (ended_of 1 frames_kinds.ps frames_kinds.r) κs)
    × (lent.now ≡ piece) × frames_reads.Post κs (f, (lent, tt)) r e

-- 17: "below the last accepted one"
abbrev pub falls_below : ℕ → ℕ → Bool
falls_below last given = ltb given last

-- A frame: 18, then 17.
abbrev pub frame_rules : ℕ → ℕ → List (Rule (Outcome ℕ))
frame_rules last given = row 18 (too_high given) ∷ row 17 (falls_below last given) ∷ []

-- A whole frame is accepted with its odometer or refused by its rules, and counted so (`with_frame`:
-- a refused one keeps the last accepted odometer); what is less than a frame counts nothing; a
-- piece of whole frames and what follows it are counted as both together. So every frame of a lead,
-- whatever its pieces.
pub record FramesDecided : Type 0 where
  pub one : (f : Frames) (piece : List ℕ) (r : Frames) → CountFrames f piece r → length piece ≡ 16
      → (o : Outcome ℕ) × Decided (Is (odometer_of piece 0)) (frame_rules f.odometer (odometer_of piece 0)) o × (r ≡ with_frame f o)
  pub less : (f : Frames) (piece : List ℕ) (r : Frames) → CountFrames f piece r → length piece < 16 → r ≡ f
  pub joined : (f : Frames) (a b : List ℕ) (m : ℕ) (p q both : Frames) → length a ≡ 16 * m
      → CountFrames f a p → CountFrames p b q → CountFrames f (a ++ b) both → both ≡ q
