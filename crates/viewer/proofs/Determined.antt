-- Each contract fixes the whole answer: any two answers that it allows are equal; of a viewer that
-- was refused, as far as a machine tells them apart.
-- Assumes nothing.
use Prim.Native.Nat.{ℕ}
use mathlib.Core.Path.{◌≡◌, refl, sym, ap, ◌∙◌}
use mathlib.Core.List.{List, []}
use lib.Dec.{eqb}
use denote.Ref.{Bor}
use Rattle.words.specs.Answer.{Outcome, gives, refuses, pick}
use Rattle.settings.specs.declared.Bad.{Bad}
use Rattle.settings.specs.declared.Store.{Store}
use Rattle.settings.proofs.Determined.{bad_of}
use Rattle.ride.specs.declared.Lines.{Lines}
use Rattle.ride.proofs.Determined.{lines_of, lines_back}
use Rattle.ride.specs.declared.TraceRefused.{TraceRefused}
use Rattle.ride.proofs.Determined.{trace_refused_of, trace_refused_back}
use Rattle.std.specs.Prelude.{Result, Ok, Err}
use Rattle.viewer.specs.declared.NoStep.{NoStep}
use Rattle.viewer.specs.declared.Opened.{Opened}
use Rattle.viewer.specs.declared.Went.{Went}
use Rattle.viewer.specs.declared.Came.{Came}
use Rattle.viewer.specs.declared.Moved.{Moved}
use Rattle.viewer.specs.declared.Viewer.{Viewer}
use Rattle.viewer.specs.declared.Started.{Started}
use Rattle.viewer.specs.declared.Forwarded.{Forwarded}
use Rattle.viewer.specs.declared.Backed.{Backed}
use Rattle.viewer.specs.Viewing.{Done, Start, Forward, Back}
use Rattle.viewer.specs.Going.{Ending as Ends, all, refused, Moved as Moves}
use Rattle.viewer.specs.Says.{says_opening_went, says_no_step, says_call_went, says_opened, says_went, says_came, says_ending, says_moved, slice_of, Holding, Over, says_forwarded, says_backed, says_started}
use Rattle.viewer.specs.Laws.{Starts, Forwards, Backs}
use Rattle.viewer.proofs.opening.start_at.Kinds as start_at_kinds
use Rattle.viewer.proofs.opening.start_at.Reads as start_at_reads
use Rattle.viewer.proofs.moving.forward_at.Kinds as forward_at_kinds
use Rattle.viewer.proofs.moving.forward_at.Reads as forward_at_reads
use Rattle.viewer.proofs.moving.back_at.Kinds as back_at_kinds
use Rattle.viewer.proofs.moving.back_at.Reads as back_at_reads
use Rattle.viewer.proofs.going.forwards_at.Kinds as forwards_at_kinds
use Rattle.viewer.proofs.going.forwards_at.Reads as forwards_at_reads
use Rattle.viewer.proofs.placing.times_to.Kinds as times_to_kinds
use Rattle.viewer.proofs.placing.times_to.Reads as times_to_reads
use Rattle.viewer.proofs.going.backs_at.Kinds as backs_at_kinds
use Rattle.viewer.proofs.going.backs_at.Reads as backs_at_reads
use Rattle.words.proofs.Told.{Fixed}

-- From what an answer says, the answer.
abbrev pub begun_of : Outcome Done → Result (Unit {0}) TraceRefused
begun_of (gives d) = Ok tt
begun_of (refuses n) = Err (trace_refused_of n)

pub begun_back : (b : Result (Unit {0}) TraceRefused) → begun_of (says_opening_went b) ≡ b
begun_back (Ok tt) = refl
begun_back (Err r) = ap Err (trace_refused_back r)

abbrev no_step_of : ℕ → NoStep
no_step_of n = pick (eqb n 22) NoStep.NothingKept (pick (eqb n 23) NoStep.AtEnd (NoStep.Settings (bad_of n)))

no_step_back : (why : NoStep) → no_step_of (says_no_step why) ≡ why
no_step_back NoStep.NothingKept = refl
no_step_back NoStep.AtEnd = refl
no_step_back (NoStep.Settings Bad.Pair) = refl
no_step_back (NoStep.Settings Bad.Gap) = refl
no_step_back (NoStep.Settings Bad.TooHigh) = refl
no_step_back (NoStep.Settings Bad.NotAbove) = refl
no_step_back (NoStep.Settings Bad.Full) = refl

abbrev pub how_of : Outcome Done → Result (Unit {0}) NoStep
how_of (gives d) = Ok tt
how_of (refuses n) = Err (no_step_of n)

pub how_back : (h : Result (Unit {0}) NoStep) → how_of (says_call_went h) ≡ h
how_back (Ok tt) = refl
how_back (Err why) = ap Err (no_step_back why)

abbrev opened_of : Start → Opened
opened_of s = record { stand = s.stand; begun = begun_of s.answer }

opened_back : (trace : List ℕ) (o : Opened) → opened_of (says_opened o trace) ≡ o
opened_back trace o = ap (λ (b : Result (Unit {0}) TraceRefused). record { stand = o.stand; begun = b }) (begun_back o.begun)

abbrev went_of : Forward → Went
went_of f = record { stand = f.stand; lines = lines_of f.lines; closed = f.closed; how = how_of f.answer }

went_back : (w : Went) → went_of (says_went w) ≡ w
went_back w =
    ap (λ (ls : Lines). record { stand = w.stand; lines = ls; closed = w.closed; how = how_of (says_call_went w.how) }) (lines_back w.lines)
    ∙ ap (λ (h : Result (Unit {0}) NoStep). record { stand = w.stand; lines = w.lines; closed = w.closed; how = h }) (how_back w.how)

abbrev came_of : Back → Came
came_of b = record { stand = b.stand; how = how_of b.answer }

came_back : (c : Came) → came_of (says_came c) ≡ c
came_back c = ap (λ (h : Result (Unit {0}) NoStep). record { stand = c.stand; how = h }) (how_back c.how)

abbrev ending_of : Ends → Result (Unit {0}) NoStep
ending_of all = Ok tt
ending_of (refused n) = Err (no_step_of n)

ending_back : (e : Result (Unit {0}) NoStep) → ending_of (says_ending e) ≡ e
ending_back (Ok tt) = refl
ending_back (Err why) = ap Err (no_step_back why)

abbrev moved_of : Moves → Moved
moved_of m = record { stand = m.stand; steps = m.steps; ending = ending_of m.ending }

moved_back : (m : Moved) → moved_of (says_moved m) ≡ m
moved_back m = ap (λ (e : Result (Unit {0}) NoStep). record { stand = m.stand; steps = m.steps; ending = e }) (ending_back m.ending)

-- ---- over a lent trace

pub start_at_determined : Fixed 1 start_at_kinds.ps start_at_kinds.r start_at_reads.Post
start_at_determined κs a r r' x x' p q = sym (opened_back [] r) ∙ ap opened_of (p ∙ sym q) ∙ opened_back [] r'

pub forward_at_determined : Fixed 1 forward_at_kinds.ps forward_at_kinds.r forward_at_reads.Post
forward_at_determined κs a r r' x x' p q = sym (went_back r) ∙ ap went_of (p ∙ sym q) ∙ went_back r'

pub back_at_determined : Fixed 0 back_at_kinds.ps back_at_kinds.r back_at_reads.Post
back_at_determined κs a r r' x x' p q = sym (came_back r) ∙ ap came_of (p ∙ sym q) ∙ came_back r'

pub forwards_at_determined : Fixed 1 forwards_at_kinds.ps forwards_at_kinds.r forwards_at_reads.Post
forwards_at_determined κs a r r' x x' p q = sym (moved_back r) ∙ ap moved_of (p ∙ sym q) ∙ moved_back r'

pub times_to_determined : Fixed 1 times_to_kinds.ps times_to_kinds.r times_to_reads.Post
times_to_determined κs a r r' x x' p q = p ∙ sym q

pub backs_at_determined : Fixed 0 backs_at_kinds.ps backs_at_kinds.r backs_at_reads.Post
backs_at_determined κs a r r' x x' p q = sym (moved_back r) ∙ ap moved_of (p ∙ sym q) ∙ moved_back r'

-- ---- over a viewer

-- A viewer that was opened: its answer, where it stands, and its slice, the very one where it was
-- not refused; of one that was refused where the slice lies and its bytes, which is all that a
-- machine has of it (its name is the prover's).
pub record Alike (r r' : Started) : Type 0 where
  pub begun : r.begun ≡ r'.begun
  pub stand : r.viewer.stand ≡ r'.viewer.stand
  pub slice : slice_of (says_opening_went r.begun) r.viewer.trace ≡ slice_of (says_opening_went r'.begun) r'.viewer.trace

alike : (r r' : Started) → says_started r ≡ says_started r' → Alike r r'
alike r r' e = record {
  begun = sym (begun_back r.begun) ∙ ap (λ (h : Holding). begun_of h.start.answer) e ∙ begun_back r'.begun;
  stand = ap (λ (h : Holding). h.start.stand) e;
  slice = ap (λ (h : Holding). h.slice) e;
}

pub start_determined : (store : Store) (trace : Bor (List ℕ)) (r r' : Started) → Starts store trace r → Starts store trace r' → Alike r r'
start_determined store trace r r' p q = alike r r' (p ∙ sym q)

abbrev forwarded_of : Over Forward → Forwarded
forwarded_of o =
    record { viewer = record { trace = o.trace; stand = o.answer.stand }; lines = lines_of o.answer.lines; closed = o.answer.closed; how = how_of o.answer.answer }

forwarded_back : (f : Forwarded) → forwarded_of (says_forwarded f) ≡ f
forwarded_back f =
    ap (λ (ls : Lines). record { viewer = f.viewer; lines = ls; closed = f.closed; how = how_of (says_call_went f.how) }) (lines_back f.lines)
    ∙ ap (λ (h : Result (Unit {0}) NoStep). record { viewer = f.viewer; lines = f.lines; closed = f.closed; how = h }) (how_back f.how)

pub forward_determined : (v : Viewer) (r r' : Forwarded) → Forwards v r → Forwards v r' → r ≡ r'
forward_determined v r r' p q = sym (forwarded_back r) ∙ ap forwarded_of (p ∙ sym q) ∙ forwarded_back r'

abbrev backed_of : Over Back → Backed
backed_of o = record { viewer = record { trace = o.trace; stand = o.answer.stand }; how = how_of o.answer.answer }

backed_back : (b : Backed) → backed_of (says_backed b) ≡ b
backed_back b = ap (λ (h : Result (Unit {0}) NoStep). record { viewer = b.viewer; how = h }) (how_back b.how)

pub back_determined : (v : Viewer) (r r' : Backed) → Backs v r → Backs v r' → r ≡ r'
back_determined v r r' p q = sym (backed_back r) ∙ ap backed_of (p ∙ sym q) ∙ backed_back r'
