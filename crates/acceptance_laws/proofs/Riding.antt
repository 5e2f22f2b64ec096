-- A ride's lines, by its steps and by the program's calls: both come to the run over the ride's own
-- lines.
-- Assumes nothing.
use Rattle.std.proofs.Common.{Result}
use Prim.Native.Nat.{ℕ, suc, ◌+◌}
use native.Mathlib.Omega.{arith}
use native.Mathlib.Nat.{zero-add}
use mathlib.Core.Path.{◌≡◌, refl, sym, ap, ap₂, ◌∙◌}
use mathlib.Core.List.{List, [], ◌∷◌, ◌++◌}
use lib.ListN.{length, take}
use Rattle.words.specs.Answer.{refuses}
use Rattle.settings.specs.declared.Store.{Store}
use Rattle.settings.specs.At.{gap_at}
use Rattle.settings.proofs.Holding.{holding_at}
use Rattle.text.proofs.Placing.{placed_start}
use Rattle.ride.specs.Record.{odometer_of}
use Rattle.ride.specs.Step.{Step, treat, step, End, end}
use Rattle.ride.specs.Over.{records, lines_for, Ridden, ride_over}
use Rattle.ride.specs.Says.{says_lines, says_stepped}
use Rattle.ride.specs.declared.Ended.{Ended}
use Rattle.ride.specs.declared.Line.{Line}
use Rattle.ride.specs.declared.Ride.{Ride}
use Rattle.ride.specs.declared.Stepped.{Stepped}
use Rattle.acceptance.specs.Report.{up_to_most}
use Rattle.acceptance_text.specs.declared.Going.{Going}
use Rattle.acceptance_text.specs.declared.Advanced.{Advanced}
use Rattle.acceptance_text.specs.declared.NotEnded.{NotEnded}
use Rattle.acceptance_text.specs.Taking.{Taking, started, take_all}
use Rattle.acceptance_text.specs.Accept.{began, Advance, accept_of, accept_taken, stands, Finish, finish}
use Rattle.acceptance_text.specs.Says.{says_advanced, says_progress, says_finished}
use Rattle.acceptance_text.proofs.Takings.{take_on, behind, after_text}
use Rattle.acceptance_text.proofs.Ends.{accept_refused, accept_length, accept_taken_law, finished, finish_is}
use Rattle.demands.specs.ByContract.{Fresh, EndOf}
use Rattle.demands.specs.Rules.{Decided, Given}
use Rattle.demands.specs.Stores.{Good, trace_rules}
use Rattle.demands.specs.Sections.{Call, joined, ByStep, lines_from, after_steps}
use Rattle.demands.proofs.Demand1.JudgedFirst.{JudgedFirst}
use Rattle.demands.proofs.Demand1.JudgedFirst as judging
use Rattle.demands.proofs.Beside.TraceCalls.{Gone}
use Rattle.acceptance_laws.specs.ByContract.{AcceptInto}
use Rattle.acceptance_laws.specs.Lines.{faults_in, refused_in}
use Rattle.acceptance_laws.specs.Accepted.{Run, ended}
use Rattle.acceptance_laws.specs.Calls.{set_out, ByAccept, after_calls, Last, Ends, wrote, last_text}
use Rattle.acceptance_laws.specs.Depot.{ride_lines, group_lines, Carried}
use Rattle.acceptance_laws.proofs.Over.{run_over, answers_to}
use Rattle.acceptance_laws.proofs.Reports.{taken_are}
use Rattle.acceptance_laws.proofs.Blocks.{total, accepted_is, comes}
use Rattle.acceptance_laws.proofs.Carried.{run_taken, text_taken, faults_taken, refused_taken}

-- ---- by `step`

-- Under a good store each step treats its record.
step_is : (store : Store) (ride : Ride) (r : List ℕ) → Good store → step ride (gap_at store (odometer_of r)) r ≡ treat ride (gap_at store (odometer_of r)) r
unfolding step gap_at
step_is store ride r good = rw (holding_at store (odometer_of r) good).gap

steps_are : (store : Store) (ride : Ride) (number : ℕ) (rs : List (List ℕ)) (steps : List Stepped) → Good store → ByStep (gap_at store) ride rs steps
    → (lines_from number steps ≡ (ride_over (gap_at store) ride number rs).lines) × (after_steps ride steps ≡ (ride_over (gap_at store) ride number rs).ride)
unfolding ride_over
steps_are store ride number [] [] good h = (refl, refl)
steps_are store ride number [] (s ∷ ss) good h = absurd h
steps_are store ride number (r ∷ rs) [] good h = absurd h
steps_are store ride number (r ∷ rs) (s ∷ ss) good h =
    let is : says_stepped s ≡ treat ride (gap_at store (odometer_of r)) r = h.0.1 ∙ step_is store ride r good in
    let then : s.ride ≡ (treat ride (gap_at store (odometer_of r)) r).ride = ap (λ (x : Step). x.ride) is in
    let rest = steps_are store s.ride (suc number) rs ss good h.1 in (
      ap₂ ◌++◌ (ap (λ (x : Step). lines_for number x.lines) is) (rest.0 ∙ ap (λ (x : Ride). (ride_over (gap_at store) x (suc number) rs).lines) then),
      rest.1 ∙ ap (λ (x : Ride). (ride_over (gap_at store) x (suc number) rs).ride) then,
    )

pub by_step : (store : Store) (cards : List (List ℕ)) (f : Ride) (steps : List Stepped) (e : Ended) → Good store → Fresh f
    → ByStep (gap_at store) f (records (joined cards)) steps → EndOf (after_steps f steps) e
    → lines_from 1 steps ++ says_lines e.lines ≡ ride_lines (gap_at store) cards
unfolding ride_lines
by_step store cards f steps e good fresh by ends =
    let are = steps_are store f 1 (records (joined cards)) steps good by in
    let over : Ride → Ridden = λ ride. ride_over (gap_at store) ride 1 (records (joined cards)) in
    ap₂ ◌++◌ are.0 (ap (λ (x : End). x.lines) ends.1 ∙ ap (λ (x : Ride). (end x).lines) are.1)
    ∙ ap (λ (x : Ride). (over x).lines ++ (end (over x).ride).lines) fresh.1

-- ---- by `accept` and `finish`

finished_is : (going : Going) (l : Last) → Ends going l
    → says_finished l.answer l.after ≡ finished (end going.ride).ride (take_all (began going) (end going.ride).lines) l.before
finished_is going l (room, c) =
    ap (says_finished l.answer) (sym c.4) ∙ c.5 ∙ ap (finish going) c.3 ∙ finish_is going l.before room

module _ (store : Store) (cards : List (List ℕ)) (f : Ride) (r : Run) (calls : List (Call Advanced)) (last : Last) (good : Good store) (fresh : Fresh f)
    (lines : r.lines ≡ ride_lines (gap_at store) cards) (by : ByAccept store (set_out f r.planned.plan) (joined cards) calls)
    (ends : Ends (after_calls (set_out f r.planned.plan) calls) last) where
  abbrev start : Going
  start = set_out f r.planned.plan

  abbrev over : Ridden
  over = ride_over (gap_at store) f 1 (records (joined cards))

  -- what the blocks took, what the end took, and both together
  abbrev blocks : Taking
  blocks = total (gap_at store) start (records (joined cards))

  abbrev at_end : Taking
  at_end = take_all (started blocks.run blocks.troubles) (end over.ride).lines

  abbrev whole : Taking
  whole = take_all (began start) r.lines

  both : whole ≡ behind blocks.text at_end
  unfolding ride_lines
  both =
      let all : List (List ℕ) → Ride → List Line = λ cs ride. (ride_over (gap_at store) ride 1 (records (joined cs))).lines ++ (end (ride_over (gap_at store) ride 1 (records (joined cs))).ride).lines in
      ap (take_all (began start)) (lines ∙ ap (all cards) (sym fresh.1))
      ∙ take_on (began start) over.lines (end over.ride).lines
      ∙ after_text blocks.run blocks.troubles blocks.text (end over.ride).lines

  ended_is : says_finished last.answer last.after ≡ finished (end over.ride).ride at_end last.before
  ended_is =
      finished_is (after_calls start calls) last ends
      ∙ ap (λ (g : Going). finished (end g.ride).ride (take_all (began g) (end g.ride).lines) last.before) (ap (λ (x : Gone Going). x.state) (comes store good start (joined cards) calls by))

  run_is : last.answer.going.run ≡ whole.run
  run_is = ap (λ (x : Finish). x.going.run) ended_is ∙ ap (λ (t : Taking). t.run) (sym both)

  last_is : last_text last ≡ at_end.text
  last_is =
      let n : ℕ = length at_end.text in
      ap (λ (x : Result ℕ NotEnded). take (wrote x) last.after) (ap (λ (x : Finish). x.ending) ended_is)
      ∙ ap (take n) (ap (λ (x : Finish). x.out) ended_is)
      ∙ ap (λ (k : ℕ). take k (finished (end over.ride).ride at_end last.before).out) (sym (zero-add n))
      ∙ placed_start at_end.text last.before

  taken : (r.answers ≡ answers_to r.planned.plan r.lines) × (ended r ≡ run_over r.planned.plan r.lines)
  taken = taken_are r.planned.plan r.lines r.answers r.are_taken

  pub carried : Carried r calls last
  carried =
      let zero_up : (n : ℕ) → up_to_most (0 + n) ≡ up_to_most n = λ n. ap up_to_most (zero-add n) in
      record {
        run = run_is ∙ run_taken (began start) r.lines ∙ sym taken.1;
        lines =
            ap₂ ◌++◌ (ap (λ (x : Gone Going). x.text) (comes store good start (joined cards) calls by)) last_is
            ∙ ap (λ (t : Taking). t.text) (sym both)
            ∙ text_taken (began start) r.lines
            ∙ ap (group_lines r.lines) (sym taken.0);
        faults =
            ap (λ (x : Finish). x.going.troubles.faults) ended_is ∙ ap (λ (t : Taking). t.troubles.faults) (sym both)
            ∙ faults_taken (began start) r.lines (omega arith) ∙ zero_up (faults_in r.lines);
        refused =
            ap (λ (x : Finish). x.going.troubles.refused) ended_is ∙ ap (λ (t : Taking). t.troubles.refused) (sym both)
            ∙ refused_taken (began start) r.lines (omega arith) ∙ zero_up (refused_in r.lines);
      }

-- ---- refusals

module _ (going : Going) (store : Store) (block before : List ℕ) (r : Advanced) (after : List ℕ) (c : AcceptInto going store block before r after) where
  tests : JudgedFirst (λ (a : Advance). a.answer) (stands going before) store block (accept_taken (gap_at store) going (records block) before) (says_advanced r after)
  tests =
      let is = sym (accepted_is going store block before r after c) in
      record {
        bare = λ n. refl;
        refused = λ n e. accept_refused going store block before n e ∙ is;
        short = λ e h. accept_length going store block before e h ∙ is;
        whole = λ e h. accept_taken_law going store block before e h ∙ is;
      }

  pub decided : Decided Given (trace_rules store block) (says_progress r.progress)
  unfolding accept_of
  decided = judging.decided tests Given (_, refl)

  pub untouched : (n : ℕ) → says_progress r.progress ≡ refuses n → (r.going ≡ going) × (after ≡ before)
  unfolding accept_of
  untouched n e =
      let stays = judging.untouched tests (_, refl) n e in
      (ap (λ (a : Advance). a.going) stays, ap (λ (a : Advance). a.out) stays)
