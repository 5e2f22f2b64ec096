-- "Its lines are those of `explain` over what `record` writes": whatever pieces of whole frames a
-- lead comes in, and whatever room there is for the lines, the texts written one after the other
-- are the text with reasons of the ride over the records of the lead, and of its end.
-- Assumes nothing.
use Rattle.std.specs.Prelude.{ℕ, ◌%◌, ◌≤◌, ◌<◌, ◌≡◌, List, [], ◌∷◌, ◌++◌, length, take, Ok}
use Rattle.words.specs.Answer.{gives}
use Rattle.words.specs.Limits.{largest64}
use Rattle.settings.specs.declared.Store.{Store}
use Rattle.settings.specs.Versions.{kept}
use Rattle.settings.specs.Store.{judged}
use Rattle.settings.specs.At.{gap_at}
use Rattle.ride.specs.declared.Ride.{Ride}
use Rattle.ride.specs.State.{fresh_ride}
use Rattle.recording.specs.Recording.{recorded}
use Rattle.ride_text.specs.Style.{with_reasons}
use Rattle.ride_text.specs.Told.{Told, tell_over, end_text}
use Rattle.lead_text.specs.declared.HowFar.{HowFar}
use Rattle.lead_text.specs.declared.Underway.{Underway}
use Rattle.lead_text.specs.declared.Written.{Written}
use Rattle.lead_text_laws.specs.Calls.{Fresh, ListFrames, ListEnd, PutEnd}

-- A store that is judged good, as every one that `begin` and `add` made is.
abbrev pub Good : Store → Type 0
Good store = judged store ≡ gives kept

-- ---- calls

-- `list_frames` is called over the pieces of a lead, each time with the ride that the answer before
-- left: again with the same piece where the room was used, with the next one where the piece was;
-- every answer is one that the contract allows. From a ride: the text written, and the ride at the
-- end.
pub data Heard (store : Store) : Underway → List (List ℕ) → List ℕ → Underway → Type 0 where
  none : {u : Underway} → Heard store u [] [] u
  again : {u last : Underway} {piece text : List ℕ} {pieces : List (List ℕ)} (before after : List ℕ) (r : Written) (n : ℕ)
      → ListFrames u store piece before r after → r.how ≡ Ok (HowFar.Full n) → Heard store r.underway (piece ∷ pieces) text last
      → Heard store u (piece ∷ pieces) (take n after ++ text) last
  next : {u last : Underway} {piece text : List ℕ} {pieces : List (List ℕ)} (before after : List ℕ) (r : Written) (n : ℕ)
      → ListFrames u store piece before r after → r.how ≡ Ok (HowFar.Over n) → Heard store r.underway pieces text last
      → Heard store u (piece ∷ pieces) (take n after ++ text) last

-- `list_end` is called until all is written.
pub data Closed (store : Store) : Underway → List ℕ → Underway → Type 0 where
  again : {u last : Underway} {text : List ℕ} (before after : List ℕ) (r : Written) (n : ℕ)
      → ListEnd u store before r after → r.how ≡ Ok (HowFar.Full n) → Closed store r.underway text last → Closed store u (take n after ++ text) last
  over : {u : Underway} (before after : List ℕ) (r : Written) (n : ℕ)
      → ListEnd u store before r after → r.how ≡ Ok (HowFar.Over n) → Closed store u (take n after) r.underway

-- `put_end` writes the end of the ride into a buffer with room for it.
pub data Ended : Ride → List ℕ → Type 0 where
  put : {ride : Ride} (before after : List ℕ) (n : ℕ) → 320 ≤ length before → PutEnd ride before 0 n after → Ended ride (take n after)

-- ---- the lead

-- The pieces of a lead, byte after byte.
abbrev pub joined : List (List ℕ) → List ℕ
joined [] = []
joined (piece ∷ pieces) = piece ++ joined pieces

-- Each of whole frames.
abbrev pub Whole : List (List ℕ) → Type 0
Whole [] = Unit {0}
Whole (piece ∷ pieces) = (length piece % 16 ≡ 0) × Whole pieces

-- A lead that comes in these pieces: after them, at most the bytes of a frame that is not whole.
pub record InPieces (lead : List ℕ) (pieces : List (List ℕ)) : Type 0 where
  pub rest : List ℕ
  pub whole : Whole pieces
  pub all : lead ≡ joined pieces ++ rest
  pub few : length rest < 16

-- What `explain` writes of some records under a store: the text of a fresh ride over them, the
-- first with the number 1, and that of the ride's end.
unfoldable pub explains : Store → List (List ℕ) → List ℕ
explains store records =
    let told : Told = tell_over with_reasons (gap_at store) fresh_ride 1 records in
    told.text ++ end_text with_reasons told.ride

-- ---- what is promised

pub record Live : Type 0 where
  -- The lines of `live` are those of `explain` over the records that `record` writes of the lead.
  pub lines : (store : Store) (lead : List ℕ) (pieces : List (List ℕ)) (f u v : Underway) (heard closed ended : List ℕ) → Good store → InPieces lead pieces
      → Fresh f → Heard store f pieces heard u → Closed store u closed v → Ended v.ride ended
      → heard ++ closed ++ ended ≡ explains store (recorded store lead)
  -- So long as there is room for the lines of one record, a call that uses up its room has taken
  -- one, so that the calls come to an end.
  pub goes_on : (store : Store) (u : Underway) (frames before after : List ℕ) (r : Written) (n : ℕ) → Good store → 320 ≤ length before → u.number < largest64
      → ListFrames u store frames before r after → r.how ≡ Ok (HowFar.Full n) → u.number < r.underway.number
