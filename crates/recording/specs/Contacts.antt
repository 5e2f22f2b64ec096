-- "Each gives one record, when it closes, at the odometer of the frame in which its first bit lies;
-- that is 'the odometer given with it', whose sync pair judges it (M-111)" (recording, house): the
-- records of a trace that are not positions are, in order, one for each contact of the line, and
-- one more where the lead ends inside a contact.
-- Assumes nothing.
use Rattle.std.specs.Prelude.{ℕ, zero, suc, ◌-◌, ◌*◌, ◌/◌, ◌%◌, ◌^◌, ◌<◌, ◌≡◌, List, [], ◌∷◌, ◌++◌, eqb}
use Rattle.words.specs.Answer.{pick}
use Rattle.telegram.specs.Stretch.{bit_at}
use Rattle.settings.specs.declared.Store.{Store}
use Rattle.antenna.specs.declared.Stand.{Stand}
use Rattle.antenna.specs.Hearing as hearing
use Rattle.antenna.specs.Line.{Told, told, heard, after}
use Rattle.recorder.specs.Record.{bytes_of, blank}
use Rattle.ride.specs.Record.{kind_of}
use Rattle.recording.specs.Frame.{line_of, odometer_of, accepted_after}
use Rattle.recording.specs.Kept.{record_at}
use Rattle.recording.specs.Recording.{held_at, frames_of, recorded}

-- ---- the line of a lead

-- "The bits of all frames, one after the other, are the line": bit j lies in frame j / 96.
abbrev pub line_in : List ℕ → ℕ → ℕ
line_in lead j = bit_at (line_of lead (j / 96)) (j % 96)

-- The last accepted odometer before frame k, "0 before the first"; and the one in force in frame k.
unfoldable pub before : List ℕ → ℕ → ℕ
before lead zero = 0
before lead (suc k) = accepted_after (before lead k) (odometer_of lead k)

abbrev pub in_force : List ℕ → ℕ → ℕ
in_force lead k = before lead (suc k)

-- The sync pair at bit j: that in force at the odometer of its frame.
abbrev pub s_in : Store → List ℕ → ℕ → ℕ
s_in store lead j = (held_at store (in_force lead (j / 96))).s

abbrev pub t_in : Store → List ℕ → ℕ → ℕ
t_in store lead j = (held_at store (in_force lead (j / 96))).t

-- ---- its contacts, and their records

-- A contact's record: at the odometer of the frame in which its first bit lies.
abbrev pub record_for : List ℕ → Told → List ℕ
record_for lead (told start length judgement) = record_at (in_force lead (start / 96)) judgement

unfoldable pub records_for : List ℕ → List Told → List (List ℕ)
records_for lead [] = []
records_for lead (contact ∷ rest) = record_for lead contact ∷ records_for lead rest

-- The record of a contact that is open after n bits: "still open where the lead ends".
abbrev pub cut_at : List ℕ → ℕ → Stand → List (List ℕ)
cut_at lead n Stand.Outside = []
cut_at lead n (Stand.Inside sound) = bytes_of (in_force lead ((n - sound.length) / 96)) (blank 2) ∷ []

-- The records of a trace that are not positions.
unfoldable pub without_positions : List (List ℕ) → List (List ℕ)
without_positions [] = []
without_positions (r ∷ rs) = pick (eqb (kind_of r) 3) (without_positions rs) (r ∷ without_positions rs)

-- How many bits the line of a lead has.
abbrev pub bits_of : List ℕ → ℕ
bits_of lead = 96 * frames_of lead

abbrev pub OneEach : Type 0
OneEach =
    (store : Store) (lead : List ℕ) → bits_of lead < 2 ^ 64
    → without_positions (recorded store lead)
    ≡ records_for lead (heard (line_in lead) (s_in store lead) (t_in store lead) hearing.fresh 0 (bits_of lead))
    ++ cut_at lead (bits_of lead) (after (line_in lead) (s_in store lead) (t_in store lead) hearing.fresh 0 (bits_of lead)).stand
