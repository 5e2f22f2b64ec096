-- A plain gap: its store of one version refuses with 19 where the gap is not allowed, and has that
-- gap everywhere where it is.
-- Assumes nothing.
use mathlib.Core.Path.{sym, ◌∙◌}
use mathlib.Core.List.{[], ◌∷◌}
use borrow.Author.Tests.{not-false}
use Rattle.ride.specs.Joining.{allowed}
use Rattle.ride.specs.Over.{through}
use Rattle.ride.specs.Says.{says_ran}
use Rattle.ride_text.specs.Says.{says_done}
use Rattle.compaction.specs.Says.{says_size}
use Rattle.viewer.specs.Viewing.{done}
use Rattle.viewer.specs.Says.{says_opening_went}
use Rattle.demands.specs.Table.{bad_length}
use Rattle.demands.specs.Rules.{row, Given, Is}
use Rattle.demands.specs.PlainGap.{PlainGap}
use Rattle.demands.proofs.Common.Spelled.{bad_gap_law}
use Rattle.demands.proofs.Common.OneVersion.{one_good, nineteen}
use Rattle.demands.proofs.Demand1.{demand1}

pub plain_gap : PlainGap
plain_gap = record {
  nineteen = λ Reading rules o gap b c. nineteen gap c.s c.t c.pair b c.begun Reading rules o;
  run = λ gap b c ride trace r d.
      nineteen gap c.s c.t c.pair b c.begun (Is through) (row 16 (bad_length trace) ∷ []) (says_ran r).answer (demand1.run ride b.store trace r d);
  list = λ gap b c style ride number trace before r after d.
      nineteen gap c.s c.t c.pair b c.begun Given (row 16 (bad_length trace) ∷ []) (says_done r.done) (demand1.list style ride b.store number trace before r after d);
  compact = λ gap b c ride before r after d.
      nineteen gap c.s c.t c.pair b c.begun Given (row 16 (bad_length before) ∷ []) (says_size r.size) (demand1.compact ride b.store before r after d);
  start = λ gap b c trace r d.
      nineteen gap c.s c.t c.pair b c.begun (Is done) (row 16 (bad_length trace.now) ∷ []) (says_opening_went r.begun) (demand1.viewers.start b.store trace r d);
  everywhere = λ gap b c good. one_good gap c.s c.t c.pair b c.begun (not-false (allowed gap) (sym (bad_gap_law gap) ∙ good));
}
