-- A viewer over two records, the second of which is refused, computed: one back too many, two
-- forward, one too many, and one back. So the hypotheses of `Viewing` are met, and those of
-- `ManyAtOnce`.
-- Assumes nothing.
use Rattle.std.specs.Prelude.{Ok, Err}
use Prim.Native.Nat.{ℕ, ◌+◌}
use mathlib.Core.Path.{◌≡◌, refl, sym, ap, ◌∙◌}
use mathlib.Core.List.{List, [], ◌∷◌}
use native.Mathlib.Omega.{arith}
use denote.Ref.{Bor}
use lib.ListN.{take, drop}
use Rattle.words.specs.Answer.{gives}
use Rattle.group.specs.declared.Group.{Group}
use Rattle.settings.specs.Store.{plain}
use Rattle.settings.specs.At.{gap_at}
use Rattle.settings.proofs.Plain.{plain_good}
use Rattle.ride.specs.declared.Line.{Line}
use Rattle.ride.specs.declared.Lines.{Lines}
use Rattle.ride.specs.State.{no_group, nothing_known, fresh_ride}
use Rattle.ride.specs.Record.{odometer_of, passed_of, in_order_meant, check_record}
use Rattle.ride.specs.Joining.{join, take_up}
use Rattle.ride.specs.Closing.{leave}
use Rattle.ride.specs.Step.{close_behind, missed_lines, after_missed, go_on, treat}
use Rattle.ride.specs.At.{record_at}
use Rattle.ride.specs.Over.{records, lines_for, Ridden, ride_over}
use Rattle.viewer.specs.declared.NoStep.{NoStep}
use Rattle.viewer.specs.declared.Standing.{Standing}
use Rattle.viewer.specs.declared.Viewer.{Viewer}
use Rattle.viewer.specs.declared.Started.{Started}
use Rattle.viewer.specs.declared.Forwarded.{Forwarded}
use Rattle.viewer.specs.declared.Backed.{Backed}
use Rattle.viewer.specs.Stand.{opened, passed, returned}
use Rattle.viewer.specs.Viewing.{Forward, step_of, done}
use Rattle.viewer.specs.Says.{holding, over}
use Rattle.viewer.specs.History.{Call, forth, back}
use Rattle.viewer.specs.Going.{forwards, lines_passed}
use Rattle.viewer.specs.Laws.{Starts, Forwards, Backs, Lead, Views}
use Rattle.viewer.proofs.Calls.{open_done, forward_end, forward_step, back_none, back_done}
use Rattle.viewer.proofs.Laws.{viewing}
use Rattle.viewer.proofs.Often.{many_at_once}

-- A position at 1000 dm, and one at 999 dm, which is refused with 17.
abbrev bytes : List ℕ
bytes = 0x00 ∷ 0x00 ∷ 0x03 ∷ 0xE8 ∷ 3 ∷ 0 ∷ 0 ∷ 0 ∷ 0x00 ∷ 0x00 ∷ 0x03 ∷ 0xE7 ∷ 3 ∷ 0 ∷ 0 ∷ 0 ∷ []

abbrev lent : Bor (List ℕ)
lent = record { ref_ptr = (0, 0); now = bytes }

abbrev at : Standing → Viewer
at s = record { trace = lent; stand = s }

-- Where it stands: opened with gap 40, after the first record, after the second, and back before
-- the second.
abbrev s0 : Standing
s0 = opened (plain 40)

abbrev s1 : Standing
s1 = passed s0 (step_of s0 (record_at bytes 0)).ride

abbrev s2 : Standing
s2 = passed s1 (step_of s1 (record_at bytes 1)).ride

abbrev s3 : Standing
s3 = returned s2

-- ---- opened

abbrev started : Started
started = record { viewer = at s0; begun = Ok tt }

starts : Starts (plain 40) lent started
starts = ap (holding lent) (open_done (plain 40) bytes (plain_good 40 refl) refl)

-- ---- back: nothing is kept

abbrev refused22 : Backed
refused22 = record { viewer = at s0; how = Err NoStep.NothingKept }

none_kept : Backs (at s0) refused22
unfolding opened
none_kept = ap (over lent) (back_none s0 refl)

-- ---- forward, twice

no_lines : lines_for 1 (step_of s0 (record_at bytes 0)).lines ≡ []
unfolding opened fresh_ride no_group nothing_known odometer_of passed_of in_order_meant check_record join take_up leave close_behind missed_lines after_missed go_on treat
no_lines = refl

its_line : lines_for 2 (step_of s1 (record_at bytes 1)).lines ≡ Line.Record 2 17 ∷ []
unfolding opened passed fresh_ride no_group nothing_known odometer_of passed_of in_order_meant check_record join take_up leave close_behind missed_lines after_missed go_on treat
its_line = refl

abbrev forwarded : Standing → Lines → Group → Forwarded
forwarded s lines closed = record { viewer = at s; lines = lines; closed = closed; how = Ok tt }

abbrev says : Standing → Group → List Line → Forward
says s closed lines = record { answer = gives done; lines = lines; closed = closed; stand = s }

abbrev went1 : Forwarded
went1 = forwarded s1 Lines.None (step_of s0 (record_at bytes 0)).closed

abbrev went2 : Forwarded
went2 = forwarded s2 (Lines.One (Line.Record 2 17)) (step_of s1 (record_at bytes 1)).closed

first_passed : Forwards (at s0) went1
unfolding opened
first_passed =
    ap (λ ls. over lent (says s1 (step_of s0 (record_at bytes 0)).closed ls)) (sym no_lines)
    ∙ ap (over lent) (forward_step bytes s0 (omega arith) (plain_good 40 refl))

second_passed : Forwards (at s1) went2
unfolding opened passed
second_passed =
    ap (λ ls. over lent (says s2 (step_of s1 (record_at bytes 1)).closed ls)) (sym its_line)
    ∙ ap (over lent) (forward_step bytes s1 (omega arith) (plain_good 40 refl))

-- ---- forward: at the end

abbrev refused23 : Forwarded
refused23 = record { viewer = at s2; lines = Lines.None; closed = no_group; how = Err NoStep.AtEnd }

at_end : Forwards (at s2) refused23
unfolding opened passed
at_end = ap (over lent) (forward_end bytes s2 (omega arith))

-- ---- back, before the refused record

abbrev came : Backed
came = record { viewer = at s3; how = Ok tt }

went_back : Backs (at s2) came
unfolding opened passed
went_back = ap (over lent) (back_done s2 refl)

-- ---- all of it

abbrev calls : List Call
calls = back ∷ forth ∷ forth ∷ forth ∷ back ∷ []

lead : Lead calls (at s0) (at s3)
lead = (refused22, none_kept, (went1, first_passed, (went2, second_passed, (refused23, at_end, (came, went_back, refl)))))

-- One record lies before it, and one state is kept.
where_it_stands : (s3.number ≡ 1) × (s3.kept ≡ 1)
unfolding opened passed returned
where_it_stands = (refl, refl)

met : Views (gap_at (plain 40)) bytes calls (at s3)
met = viewing.after_any (plain 40) lent started calls (at s3) starts refl lead

-- ---- many at once: the lines of two records

lines_met : ◌≡◌ {A = Ridden} (record { lines = lines_passed 2 bytes s0; ride = (forwards 2 bytes s0).stand.ride })
    (ride_over (gap_at (plain 40)) s0.ride (s0.number + 1) (take 2 (drop s0.number (records bytes))))
unfolding opened
lines_met = many_at_once.lines 2 bytes s0 (plain_good 40 refl) (omega arith)
