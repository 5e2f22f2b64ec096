-- Leads from C (docs/LEAD.md): demand 1 for the functions that hear one, what a refusal leaves in
-- each lent array, that the lent bytes of an ear read back, that neither pieces nor rooms make a
-- difference to what is recorded, and that calls come to an end.
-- Assumes nothing.
use Rattle.std.specs.Prelude.{ℕ, ◌*◌, ◌≤◌, ◌<◌, ◌≡◌, ◌⊎◌, List, [], ◌∷◌, ◌++◌, length, take, drop, ℤ, pos}
use Rattle.words.specs.Answer.{gives}
use Rattle.settings.specs.Versions.{kept}
use Rattle.settings.specs.Store.{judged}
use Rattle.state_bytes.specs.Stores.{store_in}
use Rattle.recording.specs.Recording.{frames_of, recorded}
use Rattle.ear_bytes.specs.Ears.{ear_bytes, ear_in}
use Rattle.ear_bytes.specs.Hearing.{fresh, joined, end}
use Rattle.abi.specs.Face.{returned}
use Rattle.abi.specs.Stores.{kept_number}
use Rattle.abi.specs.Leads.{heard, ear_after_meant}
use Rattle.demands.specs.Rules.{Is}
use Rattle.demands.specs.Stores.{store_rules}
use Rattle.abi_laws.specs.Demand1.{DecidedAs, Refused}
use Rattle.abi_laws.specs.LeadsCalls.{RecordBegin, Record, RecordEnd}

-- `atc2_record` refuses with the first number of a lent store whose condition holds; the others
-- always answer, with 0.
pub record LeadsDecided : Type 0 where
  pub begin : (before : List ℕ) (r : ℤ) (after : List ℕ) → RecordBegin before r after → r ≡ pos 0
  pub hears : (ear store lead room out : List ℕ) (r : ℤ) (then records told : List ℕ) → Record ear store lead room out r then records told
      → DecidedAs (returned kept_number) (Is kept) (store_rules (store_in store) []) r
  pub ends : (ear room out : List ℕ) (r : ℤ) (then records told : List ℕ) → RecordEnd ear room out r then records told → r ≡ pos 0

-- "lent memory and the running state stay untouched": a call that returns a number below 0 leaves
-- the ear, the room and `out` as they were.
abbrev pub LeadsUntouched : Type 0
LeadsUntouched =
    (ear store lead room out : List ℕ) (r : ℤ) (then records told : List ℕ) → Record ear store lead room out r then records told → Refused r
    → (then ≡ ear) × (records ≡ room) × (told ≡ out)

-- After a call the bytes of an ear hold the hearing that was made, or, refused, the one that they
-- held.
pub record EarReadsBack : Type 0 where
  pub begin : (before : List ℕ) (r : ℤ) (after : List ℕ) → RecordBegin before r after → ear_in after ≡ fresh
  pub hears : (ear store lead room out : List ℕ) (r : ℤ) (then records told : List ℕ) → Record ear store lead room out r then records told
      → ear_in then ≡ ear_after_meant (heard ear store lead room) (ear_in ear)
  pub ends : (ear room out : List ℕ) (r : ℤ) (then records told : List ℕ) → RecordEnd ear room out r then records told
      → ear_in then ≡ (end (ear_in ear) room).wrote.hearing
  -- and where nothing is refused they are the bytes of the hearing that they hold
  pub begun_bytes : (before : List ℕ) (r : ℤ) (after : List ℕ) → RecordBegin before r after → after ≡ ear_bytes (ear_in after)
  pub heard_bytes : (ear store lead room out : List ℕ) (r : ℤ) (then records told : List ℕ) → judged (store_in store) ≡ gives kept
      → Record ear store lead room out r then records told → then ≡ ear_bytes (ear_in then)
  pub ended_bytes : (ear room out : List ℕ) (r : ℤ) (then records told : List ℕ) → RecordEnd ear room out r then records told → then ≡ ear_bytes (ear_in then)

-- ---- pieces and rooms

-- A lead heard call by call: each is lent some bytes from the first on that is not used, and some
-- room. From an ear, the records that were written, and the ear when no whole frame is left.
pub data Heard (store : List ℕ) : List ℕ → List ℕ → List ℕ → List ℕ → Type 0 where
  no_frame : {lead ear : List ℕ} → length lead < 16 → Heard store lead ear [] ear
  call : {ear next last piece room out records later : List ℕ} {used bytes : ℕ} {r : ℤ} (rest : List ℕ)
      → Record ear store piece room out r next records (used ∷ bytes ∷ []) → Heard store (drop used (piece ++ rest)) next later last
      → Heard store (piece ++ rest) ear (take bytes records ++ later) last

-- Its end, until a call that has room for a record writes none.
pub data Ended : List ℕ → List ℕ → Type 0 where
  no_more : {ear room out next records : List ℕ} {r : ℤ} → 8 ≤ length room → RecordEnd ear room out r next records (0 ∷ []) → Ended ear []
  call : {ear room out next records later : List ℕ} {bytes : ℕ} {r : ℤ}
      → RecordEnd ear room out r next records (bytes ∷ []) → Ended next later → Ended ear (take bytes records ++ later)

-- Whatever the pieces and the rooms: what is written is the trace that the program `record` writes
-- of the whole lead, under a store in order.
abbrev pub LeadAsAWhole : Type 0
LeadAsAWhole =
    (store lead before ear last first then : List ℕ) (r : ℤ) → judged (store_in store) ≡ gives kept
    → RecordBegin before r ear → Heard store lead ear first last → Ended last then → first ++ then ≡ joined (recorded (store_in store) lead)

-- "With 8 or more, a record is written or all whole frames are used": a call under a store in order
-- that has room for a record goes forward.
abbrev pub GoesForward : Type 0
GoesForward =
    (ear store lead room out : List ℕ) (r : ℤ) (then records : List ℕ) (used bytes : ℕ) → judged (store_in store) ≡ gives kept → 8 ≤ length room
    → Record ear store lead room out r then records (used ∷ bytes ∷ []) → (8 ≤ bytes) ⊎ (used ≡ 16 * frames_of lead)
