-- An acceptance run over a block of records, and the end of its ride: the lines of the ride are
-- taken, and their text stands at the start of a lent buffer.
-- Assumes nothing.
use Rattle.std.specs.Prelude.{ℕ, suc, ◌+◌, ◌%◌, Bool, List, [], ◌∷◌, eqb, leb, length, take, Result, Ok, Err}
use Rattle.words.specs.Answer.{Outcome, gives, refuses, pick}
use Rattle.text.specs.Put.{placed}
use Rattle.settings.specs.declared.Store.{Store}
use Rattle.settings.specs.Versions.{Kept}
use Rattle.settings.specs.Store.{judged}
use Rattle.settings.specs.At.{gap_at}
use Rattle.ride.specs.declared.Ride.{Ride}
use Rattle.ride.specs.Record.{odometer_of}
use Rattle.ride.specs.Step.{Step, treat, End, end}
use Rattle.ride.specs.Over.{records, lines_for, Ridden, ride_over}
use Rattle.acceptance_text.specs.declared.Going.{Going}
use Rattle.acceptance_text.specs.declared.NotEnded.{NotEnded}
use Rattle.acceptance_text.specs.Taking.{Taking, started, take_all}

-- ---- a block of records

-- A run on its way, before a line of the block is taken.
abbrev pub began : Going → Taking
began g = started g.run g.troubles

-- Whether one record more is taken: its lines, at most two of at most 64 bytes, have room after
-- what is written.
abbrev pub has_room : ℕ → Taking → Bool
has_room room t = leb (length t.text + 128) room

-- How many of some records are taken, one after the other, with the gap that the rule gives for
-- each record's odometer, into so much room. (A refused record is counted whatever its number.)
unfoldable pub taken : (ℕ → ℕ) → ℕ → Ride → Taking → List (List ℕ) → ℕ
taken gaps room ride t [] = 0
taken gaps room ride t (r ∷ rs) =
    let s : Step = treat ride (gaps (odometer_of r)) r in
    pick (has_room room t) (suc (taken gaps room s.ride (take_all t (lines_for 0 s.lines)) rs)) 0

-- How many records were taken, and how many bytes written.
pub record Taken : Type 0 where
  pub records : ℕ
  pub bytes : ℕ

-- What taking a block comes to: what was taken, or the number of the refusal; where the run stands
-- then; and the buffer then.
pub record Advance : Type 0 where
  pub answer : Outcome Taken
  pub going : Going
  pub out : List ℕ

-- The first n records taken: the lines of the ride over them, in order, and their text at the start
-- of the buffer.
unfoldable pub accept_of : (ℕ → ℕ) → Going → ℕ → List (List ℕ) → List ℕ → Advance
accept_of gaps g n rs out =
    let ridden : Ridden = ride_over gaps g.ride 1 (take n rs) in
    let t : Taking = take_all (began g) ridden.lines in
    record {
      answer = gives (record { records = n; bytes = length t.text });
      going = record { ride = ridden.ride; run = t.run; troubles = t.troubles };
      out = placed t.text out 0;
    }

-- As many of some records as are taken into the buffer.
abbrev pub accept_taken : (ℕ → ℕ) → Going → List (List ℕ) → List ℕ → Advance
accept_taken gaps g rs out = accept_of gaps g (taken gaps (length out) g.ride (began g) rs) rs out

-- A refusal takes nothing and leaves the buffer.
abbrev pub stands : Going → List ℕ → ℕ → Advance
stands g out n = record { answer = refuses n; going = g; out = out }

-- The settings are judged first: their own refusal decides.
abbrev pub judged_first : Going → List ℕ → Outcome Kept → Advance → Advance
judged_first g out (gives k) advance = advance
judged_first g out (refuses n) advance = stands g out n

-- A block of a ride's records: the settings' own refusal, then "trace length not a multiple of 8"
-- is 16; else as many records as are taken, each treated "with the gap in force at its own
-- odometer" (M-111).
unfoldable pub accept : Going → Store → List ℕ → List ℕ → Advance
accept g store trace out =
    judged_first g out (judged store)
    (pick (eqb (length trace % 8) 0) (accept_taken (gap_at store) g (records trace) out) (stands g out 16))

-- ---- the end of the ride

-- What ending the ride comes to: what was written, where the run stands then, and the buffer then.
pub record Finish : Type 0 where
  pub ending : Result ℕ NotEnded
  pub going : Going
  pub out : List ℕ

-- The lines of the end, taken like those of a record; without room for two lines nothing is done
-- (`NoRoom`; the documents have no number for that).
unfoldable pub finish : Going → List ℕ → Finish
finish g out =
    let last : End = end g.ride in
    let t : Taking = take_all (began g) last.lines in
    pick (leb 128 (length out))
    (record {
      ending = Ok (length t.text);
      going = record { ride = last.ride; run = t.run; troubles = t.troubles };
      out = placed t.text out 0;
    })
    (record { ending = Err NotEnded.NoRoom; going = g; out = out })
