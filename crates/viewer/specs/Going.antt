-- Going many records at once, for the program `view`: forward or back so many times, or until the
-- next call is refused, and forward to a place. None of the calls that are made is refused, so many
-- at once are no refusal: they say how many were made, and whether the next one was refused.
-- Assumes nothing.
use Rattle.std.specs.Prelude.{ℕ, zero, suc, ◌+◌, Bool, false, List, [], ◌∷◌, ◌++◌, leb}
use Rattle.words.specs.Answer.{Outcome, gives, refuses, pick}
use Rattle.ride.specs.declared.Line.{Line}
use Rattle.ride.specs.Record.{Entry, check_record}
use Rattle.viewer.specs.declared.Standing.{Standing}
use Rattle.viewer.specs.Viewing.{Done, done, Forward, forward, Back, back}

-- Why no further call was made: all that were asked for were made, or the next one was refused with
-- this number.
pub data Ending : Type 0 where
  all : Ending
  refused : ℕ → Ending

-- What a single call answers that ends so.
abbrev pub answer_of : Ending → Outcome Done
answer_of all = gives done
answer_of (refused n) = refuses n

-- What many calls come to: how many were made, why no further one, and where the viewer stands
-- then.
pub record Moved : Type 0 where
  pub steps : ℕ
  pub ending : Ending
  pub stand : Standing

-- No call is made.
abbrev pub stopped : Ending → Standing → Moved
stopped why s = record { steps = 0; ending = why; stand = s }

-- So many calls were made before.
abbrev pub after : ℕ → Moved → Moved
after n m = record { steps = n + m.steps; ending = m.ending; stand = m.stand }

-- A call that is done is one more, with the others after it; one that is refused is not made.
abbrev pub further : Outcome Done → Standing → Moved → Moved
further (gives d) s others = after 1 others
further (refuses n) s others = stopped (refused n) s

-- Forward so many times.
unfoldable pub forwards : ℕ → List ℕ → Standing → Moved
forwards zero trace s = stopped all s
forwards (suc n) trace s =
    let f : Forward = forward trace s in
    further f.answer s (forwards n trace f.stand)

-- The lines of the records that so many forwards pass.
unfoldable pub lines_passed : ℕ → List ℕ → Standing → List Line
lines_passed zero trace s = []
lines_passed (suc n) trace s =
    let f : Forward = forward trace s in
    f.lines ++ lines_passed n trace f.stand

-- Back so many times.
unfoldable pub backs : ℕ → Standing → Moved
backs zero s = stopped all s
backs (suc n) s =
    let b : Back = back s in
    further b.answer s (backs n b.stand)

-- Whether what a record says is accepted, at or past an odometer place.
abbrev pub reaches : ℕ → Outcome Entry → Bool
reaches place (gives e) = leb place e.odometer
reaches place (refuses n) = false

-- Whether a fresh ride accepts a record, at or past the place: a record that is malformed or too
-- high is passed over, in whatever ride.
unfoldable pub is_at : ℕ → List ℕ → Bool
is_at place r = reaches place (check_record 0 r)

-- How many forwards lead to the first such record among those that are left. Without one it is the
-- forward at the end, which is refused.
unfoldable pub times_to : ℕ → List (List ℕ) → ℕ
times_to place [] = 1
times_to place (r ∷ left) = pick (is_at place r) 0 (times_to place left + 1)
