-- What is promised of pieces and rooms: they make no difference.
-- Assumes nothing.
use Rattle.std.specs.Prelude.{ℕ, ◌*◌, ◌≤◌, ◌≡◌, ◌⊎◌, List, [], ◌++◌, length, take, drop}
use Rattle.settings.specs.declared.Store.{Store}
use Rattle.recording.specs.Recording.{Taped, over_frames, frames_of, the_end_meant}
use Rattle.ear_bytes.specs.declared.Hearing.{Hearing}
use Rattle.ear_bytes.specs.Hearing.{joined, Written, hear, end}

-- What comes of a lead from where a hearing stands.
abbrev pub to_come : Hearing → Store → List ℕ → Taped
to_come hearing store lead = over_frames store lead hearing.tape 0 hearing.bit (frames_of lead)

-- The records that a call wrote.
abbrev pub wrote_of : Written → List ℕ
wrote_of w = take w.wrote.bytes w.buffer

-- Of a lead some bytes are lent, with some room: what is written, and then what comes of the rest,
-- from the first frame on that is not used, is what comes of the whole.
abbrev pub AnyRoom : Type 0
AnyRoom =
    (hearing : Hearing) (store : Store) (piece rest buffer : List ℕ) →
    let w : Written = hear hearing store piece buffer in
    let on : Taped = to_come w.wrote.hearing store (drop (16 * w.wrote.frames) (piece ++ rest)) in
    (joined (to_come hearing store (piece ++ rest)).records ≡ wrote_of w ++ joined on.records) × ((to_come hearing store (piece ++ rest)).tape ≡ on.tape)

-- At the lead's end likewise.
abbrev pub AnyRoomAtEnd : Type 0
AnyRoomAtEnd =
    (hearing : Hearing) (buffer : List ℕ) →
    let w : Written = end hearing buffer in
    joined (the_end_meant hearing.tape).records ≡ wrote_of w ++ joined (the_end_meant w.wrote.hearing.tape).records

-- A call at the end that has room for a record and writes none: there is no further one.
abbrev pub NoneLeft : Type 0
NoneLeft = (hearing : Hearing) (buffer : List ℕ) → 8 ≤ length buffer → (end hearing buffer).wrote.bytes ≡ 0 → (the_end_meant hearing.tape).records ≡ []

-- A call that has room for a record goes forward: a record is written, or all whole frames are
-- used.
abbrev pub GoesForward : Type 0
GoesForward =
    (hearing : Hearing) (store : Store) (lead buffer : List ℕ) → 8 ≤ length buffer →
    let w : Written = hear hearing store lead buffer in
    (8 ≤ w.wrote.bytes) ⊎ (w.wrote.frames ≡ frames_of lead)
