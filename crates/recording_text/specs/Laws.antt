-- What is promised of the counts: they do not depend on how a lead is cut, they count what is
-- recorded, and a frame is refused exactly where the recording keeps the last accepted odometer.
-- Assumes nothing.
use Rattle.std.specs.Prelude.{ℕ, ◌+◌, ◌*◌, ◌≤◌, ◌≡◌, List, ◌++◌, length}
use Rattle.words.specs.Answer.{Outcome, gives, refuses}
use Rattle.words.specs.Limits.{largest64}
use Rattle.settings.specs.declared.Store.{Store}
use Rattle.recording.specs.Frame.{accepted_after}
use Rattle.recording.specs.Recording.{frames_of, recorded}
use Rattle.recording.specs.Contacts.{before, without_positions}
use Rattle.recording_text.specs.declared.Frames.{Frames}
use Rattle.recording_text.specs.Counts.{judge_frame, no_frames, count_frames, no_records, count_records}

-- The odometer in force after a frame is judged: "the last accepted odometer stands for its own".
abbrev pub standing : ℕ → Outcome ℕ → ℕ
standing last (gives odometer) = odometer
standing last (refuses number) = last

-- A frame that is accepted is recorded at its own odometer, one that is refused at the last
-- accepted one.
abbrev pub AsRecorded : Type 0
AsRecorded = (last given : ℕ) → accepted_after last given ≡ standing last (judge_frame last given)

-- Cut into pieces of whole frames, a lead is counted the same.
abbrev pub AnyPieces : Type 0
AnyPieces = (f : Frames) (a b : List ℕ) (m : ℕ) → length a ≡ 16 * m → count_frames f (a ++ b) ≡ count_frames (count_frames f a) b

-- All whole frames are counted, refused ones too; and the odometer that is kept is the one that the
-- recording keeps.
abbrev pub AllFrames : Type 0
AllFrames =
    (lead : List ℕ) → frames_of lead ≤ largest64
    → ((count_frames no_frames lead).frames ≡ frames_of lead) × ((count_frames no_frames lead).odometer ≡ before lead (frames_of lead))

-- Every record of a lead is counted; contacts are the records that are not positions, and each is
-- read, a marker or unreadable.
abbrev pub AllRecords : Type 0
AllRecords =
    (store : Store) (lead : List ℕ) → length (recorded store lead) ≤ largest64
    → let c = count_records no_records (recorded store lead) in
    (c.records ≡ length (recorded store lead))
    × (c.contacts ≡ length (without_positions (recorded store lead)))
    × (c.contacts ≡ c.read + c.markers + c.unreadable)
