-- What is promised of a recorded lead.
-- Assumes nothing.
use Rattle.std.specs.Prelude.{ℕ, ◌-◌, ◌*◌, ◌≡◌, List, [], ◌∷◌, ◌++◌, length}
use Rattle.settings.specs.declared.Store.{Store}
use Rattle.recording.specs.declared.Tape.{Tape}
use Rattle.recording.specs.Recording.{Taped, silent, and_then, over_frames, frames_of, over_lead, the_end_meant}
use Rattle.recording.specs.Asking.{Going, gave, used_up, go_on, Ending, one, none, finish}

-- ---- asked on and on

-- What comes of all frames, by what comes first.
abbrev pub then_taped : Store → List ℕ → Going → Taped
then_taped store lead (gave tape k i bytes) =
    let rest = over_frames store lead tape k i (frames_of lead - k) in
    record { tape = rest.tape; records = bytes ∷ rest.records }
then_taped store lead (used_up tape k i) = silent tape

abbrev pub AskedOn : Type 0
AskedOn = (store : Store) (lead : List ℕ) (tape : Tape) (k i : ℕ) → over_frames store lead tape k i (frames_of lead - k) ≡ then_taped store lead (go_on store lead tape k i)

-- Answers of `go_on`, each asked from where the one before stood, until the frames are used: the
-- records that they gave, and the tape after them.
pub data Asked (store : Store) (lead : List ℕ) : Tape → ℕ → ℕ → List (List ℕ) → Tape → Type 0 where
  over : {tape last : Tape} {k i m j : ℕ} → go_on store lead tape k i ≡ used_up last m j → Asked store lead tape k i [] last
  more : {tape next last : Tape} {k i m j : ℕ} {bytes : List ℕ} {rest : List (List ℕ)}
      → go_on store lead tape k i ≡ gave next m j bytes → Asked store lead next m j rest last → Asked store lead tape k i (bytes ∷ rest) last

-- They are the records of the piece.
abbrev pub AskedAll : Type 0
AskedAll =
    (store : Store) (lead : List ℕ) (tape last : Tape) (records : List (List ℕ)) → Asked store lead tape 0 0 records last
    → over_lead store lead tape ≡ record { tape = last; records = records }

-- At the end likewise: at most two.
abbrev pub then_ended : Ending → Taped
then_ended (one tape bytes) = record { tape = (the_end_meant tape).tape; records = bytes ∷ (the_end_meant tape).records }
then_ended (none tape) = silent tape

abbrev pub EndAsked : Type 0
EndAsked = (tape : Tape) → the_end_meant tape ≡ then_ended (finish tape)

-- ---- pieces

-- Cut into pieces of whole frames, each heard to its end, a lead gives the same records.
abbrev pub AnyPieces : Type 0
AnyPieces =
    (store : Store) (a b : List ℕ) (m : ℕ) (tape : Tape) → length a ≡ 16 * m
    → over_lead store (a ++ b) tape ≡ and_then (over_lead store a tape) (λ next. over_lead store b next)
