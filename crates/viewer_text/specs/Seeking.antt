-- The next line of a ride that has a word (`/fault`): how many records forward lead to just after
-- the record that gives it. The lines are those that `explain` writes, with their reasons.
-- Assumes nothing.
use Rattle.std.specs.Prelude.{ℕ, suc, ◌+◌, ◌*◌, List, [], ◌∷◌, Option, Some, None, drop}
use Rattle.words.specs.Answer.{Outcome, gives, refuses, pick}
use Rattle.settings.specs.declared.Store.{Store}
use Rattle.settings.specs.Versions.{Kept}
use Rattle.settings.specs.Store.{judged}
use Rattle.settings.specs.At.{gap_at}
use Rattle.ride.specs.declared.Ride.{Ride}
use Rattle.ride.specs.Record.{odometer_of}
use Rattle.ride.specs.Step.{Step, treat}
use Rattle.ride.specs.Over.{records}
use Rattle.ride_text.specs.Style.{with_reasons}
use Rattle.ride_text.specs.Told.{step_text}
use Rattle.ride_text.specs.List.{Taken}
use Rattle.viewer_text.specs.Finding.{has}

-- With so many records more before it.
abbrev pub further : ℕ → Option ℕ → Option ℕ
further n (Some times) = Some (n + times)
further n None = None

-- Among some records, the first of which has this number: the first whose lines have the word, each
-- record treated in the state that the one before left, with the gap that a rule gives for its
-- odometer.
unfoldable pub seek_in : List ℕ → (ℕ → ℕ) → Ride → ℕ → List (List ℕ) → Option ℕ
seek_in word gaps ride number [] = None
seek_in word gaps ride number (r ∷ rs) =
    let s : Step = treat ride (gaps (odometer_of r)) r in
    pick (has (step_text with_reasons number s) word) (Some 1) (further 1 (seek_in word gaps s.ride (suc number) rs))

-- How many bytes a listing wrote.
abbrev pub bytes_of : Outcome Taken → ℕ
bytes_of (gives t) = t.bytes
bytes_of (refuses n) = 0

-- Settings that are refused lead nowhere.
abbrev pub under : Outcome Kept → Option ℕ → Option ℕ
under (gives k) sought = sought
under (refuses n) sought = None

-- From where so many records lie before, in this state: among the records that are left.
unfoldable pub seek : List ℕ → Store → Ride → ℕ → List ℕ → Option ℕ
seek word store ride number trace = under (judged store) (seek_in word (gap_at store) ride (number + 1) (records (drop (number * 8) trace)))
