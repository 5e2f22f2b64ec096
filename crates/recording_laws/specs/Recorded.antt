-- From a lead to its records (docs/LEAD.md): what is recorded of a lead that comes in pieces is
-- what is recorded of the whole.
-- Assumes nothing.
use Rattle.std.specs.Prelude.{ℕ, ◌%◌, ◌<◌, ◌≡◌, List, [], ◌∷◌, ◌++◌, length, Some, None}
use Rattle.settings.specs.declared.Store.{Store}
use Rattle.recording.specs.declared.Tape.{Tape}
use Rattle.recording.specs.declared.Taken.{Taken}
use Rattle.recording.specs.declared.Ended.{Ended}
use Rattle.recording.specs.Recording.{recorded}
use Rattle.recording_laws.specs.Calls.{FreshTape, GoOn, EndOf}

-- `go_on` is asked on and on over a piece of a lead, each time from where the answer before stood,
-- until its frames are used; every answer is one that the contract allows. From a tape, a frame and
-- a bit: the records that came, and the tape at the end.
pub data Through (store : Store) (frames : List ℕ) : Tape → ℕ → ℕ → List (List ℕ) → Tape → Type 0 where
  came : {tape last : Tape} {k i : ℕ} {rest : List (List ℕ)} {bytes : List ℕ} (r : Taken)
      → GoOn tape store frames k i r → r.came ≡ Some bytes → Through store frames r.tape r.frame r.bit rest last → Through store frames tape k i (bytes ∷ rest) last
  used : {tape : Tape} {k i : ℕ} (r : Taken) → GoOn tape store frames k i r → r.came ≡ None → Through store frames tape k i [] r.tape

-- Piece after piece.
pub data ThroughAll (store : Store) : Tape → List (List ℕ) → List (List ℕ) → Tape → Type 0 where
  none : {tape : Tape} → ThroughAll store tape [] [] tape
  piece : {tape next last : Tape} {b : List ℕ} {bs rs qs : List (List ℕ)}
      → Through store b tape 0 0 rs next → ThroughAll store next bs qs last → ThroughAll store tape (b ∷ bs) (rs ++ qs) last

-- `end` is asked until no further record comes.
pub data ToTheEnd : Tape → List (List ℕ) → Type 0 where
  came : {tape : Tape} {rest : List (List ℕ)} {bytes : List ℕ} (r : Ended) → EndOf tape r → r.came ≡ Some bytes → ToTheEnd r.tape rest → ToTheEnd tape (bytes ∷ rest)
  no_more : {tape : Tape} (r : Ended) → EndOf tape r → r.came ≡ None → ToTheEnd tape []

-- The pieces of a lead, byte after byte. Every one but the last ends with a whole frame.
abbrev pub joined : List (List ℕ) → List ℕ
joined [] = []
joined (b ∷ bs) = b ++ joined bs

abbrev pub WholeFrames : List (List ℕ) → Type 0
WholeFrames [] = Unit
WholeFrames (b ∷ []) = Unit
WholeFrames (b ∷ c ∷ bs) = (length b % 16 ≡ 0) × WholeFrames (c ∷ bs)

-- The lead in these pieces was recorded to its end, and these are the records.
pub record Recorded (store : Store) (pieces : List (List ℕ)) (records : List (List ℕ)) : Type 0 where
  pub fresh : Tape
  pub begins : FreshTape fresh
  pub last : Tape
  pub before_the_end : List (List ℕ)
  pub through : ThroughAll store fresh pieces before_the_end last
  pub at_the_end : List (List ℕ)
  pub ends : ToTheEnd last at_the_end
  pub all : records ≡ before_the_end ++ at_the_end

pub record AsAWhole : Type 0 where
  -- They are the records of the whole lead, by the house's rule (`recorded` of
  -- crates/recording/specs/Recording.antt).
  pub of_the_lead : (store : Store) (pieces records : List (List ℕ)) → WholeFrames pieces → Recorded store pieces records → records ≡ recorded store (joined pieces)
  -- So it makes no difference into which pieces of whole frames a lead is cut.
  pub any_pieces : (store : Store) (pieces others records those : List (List ℕ)) → WholeFrames pieces → WholeFrames others → joined pieces ≡ joined others
      → Recorded store pieces records → Recorded store others those → records ≡ those
  -- A lead without a whole frame gives no record.
  pub no_frame : (store : Store) (lead : List ℕ) → length lead < 16 → recorded store lead ≡ []
