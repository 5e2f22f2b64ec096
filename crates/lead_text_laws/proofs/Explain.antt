-- `explain`: the texts of its calls and of the end are what is told of the trace, each line with
-- the group that closed.
-- Assumes nothing.
use Prim.Native.Nat.{ℕ}
use mathlib.Core.Path.{◌≡◌, sym, ap, ap₂, ◌∙◌}
use mathlib.Core.List.{List, ◌++◌}
use Rattle.settings.specs.declared.Store.{Store}
use Rattle.settings.specs.At.{gap_at}
use Rattle.ride.specs.State.{fresh_ride}
use Rattle.ride.specs.Step.{end}
use Rattle.ride.specs.Over.{records, Ridden, ride_over}
use Rattle.ride_text.specs.Style.{with_reasons}
use Rattle.ride_text.specs.declared.Listed.{Listed}
use Rattle.ride_text.specs.Told.{end_text}
use Rattle.ride_text.specs.SameLines.{Said, said_over, lines_of, said_text}
use Rattle.ride_text.specs.Reasoned.{said_at_end}
use Rattle.ride_text.proofs.SameLines.{lines_by, lines_join, text_by, text_join, same_lines}
use Rattle.ride_text.proofs.Reasoned.{joined, ride_reasoned, end_reasoned}
use Rattle.demands.specs.TraceCalls.{Call}
use Rattle.demands.specs.ListCalls.{ByList, text_from, after_calls}
use Rattle.demands.proofs.Beside.Told.{listed}
use Rattle.lead_text_laws.specs.Live.{Good, Ended, explains}
use Rattle.lead_text_laws.specs.Explain.{trace_of, Explain}
use Rattle.lead_text_laws.proofs.Room.{end_put}
use Rattle.lead_text_laws.proofs.Eights.{trace_records}
use Rattle.lead_text_laws.proofs.Live.{live}

of_a_trace : (store : Store) (trace : List ℕ) (calls : List (Call Listed)) (ended : List ℕ) → Good store → ByList with_reasons store fresh_ride 1 trace calls
    → Ended (after_calls fresh_ride calls) ended → text_from calls ++ ended ≡ explains store (records trace)
unfolding explains
of_a_trace store trace calls ended good by e =
    let all = listed with_reasons store good fresh_ride 1 trace calls by in
    ap₂ ◌++◌ all.0 (end_put e ∙ ap (end_text with_reasons) all.1)

-- The lines, each with the group that closed by its record or at the end.
module _ (store : Store) (trace : List ℕ) where
  abbrev all : Ridden
  all = ride_over (gap_at store) fresh_ride 1 (records trace)

  abbrev said : List Said
  said = said_over (gap_at store) fresh_ride 1 (records trace)

  said_lines : lines_of (said ++ said_at_end all.ride) ≡ all.lines ++ (end all.ride).lines
  said_lines =
      lines_join said (said_at_end all.ride)
      ∙ ap₂ ◌++◌ (same_lines (gap_at store) fresh_ride 1 (records trace)).lines (lines_by (end all.ride).closed (end all.ride).lines)

  said_text_law : explains store (records trace) ≡ said_text with_reasons (said ++ said_at_end all.ride)
  unfolding explains end_text
  said_text_law =
      let same = same_lines (gap_at store) fresh_ride 1 (records trace) in
      ap₂ ◌++◌ (same.text with_reasons)
      (ap (end_text with_reasons) (same.state with_reasons) ∙ text_by with_reasons (end all.ride).closed (end all.ride).lines)
      ∙ sym (text_join with_reasons said (said_at_end all.ride))

pub explain : Explain
explain = record {
  of_a_trace = of_a_trace;
  reasoned = λ store trace calls ended good by e. (
    said store trace ++ said_at_end (all store trace).ride,
    of_a_trace store trace calls ended good by e ∙ said_text_law store trace,
    said_lines store trace,
    joined (said store trace) (said_at_end (all store trace).ride) (ride_reasoned (gap_at store) fresh_ride 1 (records trace)) (end_reasoned (all store trace).ride),
  );
  bytes = trace_records;
  live = λ store lead pieces f u v heard closed ended calls at_end good cut fresh h c e by e'.
      live.lines store lead pieces f u v heard closed ended good cut fresh h c e
      ∙ ap (explains store) (sym (trace_records store lead))
      ∙ sym (of_a_trace store (trace_of store lead) calls at_end good by e');
}
