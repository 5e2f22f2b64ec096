-- The other side of the law, call for call: what `explain` writes of the trace that `record`
-- writes, over the contract of `list` of `ride_text`.
-- Assumes nothing.
use Rattle.std.specs.Prelude.{ℕ, ◌≡◌, List, ◌++◌}
use Rattle.settings.specs.declared.Store.{Store}
use Rattle.settings.specs.At.{gap_at}
use Rattle.ride.specs.State.{fresh_ride}
use Rattle.ride.specs.Step.{end}
use Rattle.ride.specs.Over.{records, Ridden, ride_over}
use Rattle.recording.specs.Recording.{recorded}
use Rattle.ride_text.specs.Style.{with_reasons}
use Rattle.ride_text.specs.declared.Listed.{Listed}
use Rattle.ride_text.specs.SameLines.{Said, lines_of, said_text}
use Rattle.ride_text.specs.Reasoned.{AllReasoned}
use Rattle.lead_text.specs.declared.Underway.{Underway}
use Rattle.demands.specs.TraceCalls.{Call}
use Rattle.demands.specs.ListCalls.{ByList, text_from, after_calls}
use Rattle.lead_text_laws.specs.Calls.{Fresh}
use Rattle.lead_text_laws.specs.Live.{Good, Heard, Closed, Ended, InPieces, joined, explains}

-- The trace that `record` writes of a lead: its records, byte after byte.
abbrev pub trace_of : Store → List ℕ → List ℕ
trace_of store lead = joined (recorded store lead)

pub record Explain : Type 0 where
  -- Whatever the blocks and the room, `explain` writes the text of the trace's records and of the
  -- ride's end.
  pub of_a_trace : (store : Store) (trace : List ℕ) (calls : List (Call Listed)) (ended : List ℕ) → Good store → ByList with_reasons store fresh_ride 1 trace calls
      → Ended (after_calls fresh_ride calls) ended → text_from calls ++ ended ≡ explains store (records trace)
  -- These are the checker's lines, and each line `fault n` carries a reason for that n that is true
  -- of the group whose first place it names, at the end of the ride too; so something stands behind
  -- every colon.
  pub reasoned : (store : Store) (trace : List ℕ) (calls : List (Call Listed)) (ended : List ℕ) → Good store → ByList with_reasons store fresh_ride 1 trace calls
      → Ended (after_calls fresh_ride calls) ended →
      let all : Ridden = ride_over (gap_at store) fresh_ride 1 (records trace) in
      (ss : List Said) × (text_from calls ++ ended ≡ said_text with_reasons ss) × (lines_of ss ≡ all.lines ++ (end all.ride).lines) × AllReasoned ss
  -- The bytes of a recorded trace are its records.
  pub bytes : (store : Store) (lead : List ℕ) → records (trace_of store lead) ≡ recorded store lead
  -- "Its lines are those of `explain` over what `record` writes."
  pub live : (store : Store) (lead : List ℕ) (pieces : List (List ℕ)) (f u v : Underway) (heard closed ended : List ℕ) (calls : List (Call Listed)) (at_end : List ℕ)
      → Good store → InPieces lead pieces → Fresh f → Heard store f pieces heard u → Closed store u closed v → Ended v.ride ended
      → ByList with_reasons store fresh_ride 1 (trace_of store lead) calls → Ended (after_calls fresh_ride calls) at_end
      → heard ++ closed ++ ended ≡ text_from calls ++ at_end
