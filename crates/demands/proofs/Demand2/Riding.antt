-- Steps 2 to 4, the end and the run do as document 01 says: each taken apart by its hypothesis.
-- Assumes nothing.
use mathlib.Core.Path.{◌≡◌, refl, sym, ap, ap₂, ◌∙◌, subst}
use mathlib.Core.Bool.{Bool, true, false, not, ◌&&◌}
use mathlib.Core.List.{List, [], ◌∷◌, ◌++◌}
use Prim.Native.Nat.{◌+◌, ◌-◌, ◌*◌}
use borrow.Author.Tests.{lt-ltb, le-ltb}
use Rattle.std.specs.Prelude.{Ok}
use Rattle.words.specs.Answer.{gives, pick}
use Rattle.group.specs.Judge.{judge}
use Rattle.group.specs.declared.Group.{Group}
use Rattle.group.specs.declared.Message.{Message}
use Rattle.group.specs.declared.Number.{Number}
use Rattle.group.specs.declared.Told.{Told}
use Rattle.ride.specs.State.{no_group, is_open_meant, nothing_known, fresh_ride}
use Rattle.ride.specs.Joining.{take_up}
use Rattle.ride.specs.Linking.{is_overdue, missed_place}
use Rattle.ride.specs.Closing.{known_from, seen_from, close_as, close, leave}
use Rattle.ride.specs.Step.{Step, missed_lines, unlinked, after_missed, after_closing, go_on, End, ended, end}
use Rattle.ride.specs.Says.{says_stepped, says_ended}
use Rattle.ride.specs.declared.Ended.{Ended}
use Rattle.ride.specs.declared.Known.{Known}
use Rattle.ride.specs.declared.Line.{Line}
use Rattle.ride.specs.declared.Linking.{Linking}
use Rattle.ride.specs.declared.Mark.{Mark}
use Rattle.ride.specs.declared.Ride.{Ride}
use Rattle.demands.specs.ByContract.{EndOf, JudgeGroup}
use Rattle.demands.specs.Steps.{OneStep, Accepts, LeavesBehind, StaysOpen, NoneOpen, before, after, Gives}
use Rattle.demands.specs.Ride.{IsMarked, IsNumbered, line_of, Becomes, Step3, Riding}
use Rattle.demands.proofs.Demand2.Steps.{entry, goes_on, closes, stays_none, stays_open}
use Rattle.demands.proofs.Demand1.Treats.{treats_as, treats_nothing}
use Rattle.demands.proofs.Demand2.Runs.{runs_on, runs_nowhere}
use Rattle.demands.proofs.Demand2.Marking.{mark_of_law, mark_so, becomes}
use Rattle.demands.proofs.Demand2.Numbering.{number_so, number_on_law}

-- ---- step 3

-- what is reported missed
abbrev missed_line : Known → List Line
missed_line k = Line.Missed (missed_place k.linking) ∷ []

-- From the lines and what is known by whether the signal is overdue.
step3 : (o : OneStep) (lines : List Line) (k : Known)
    → Gives o (lines ++ pick (is_overdue k.linking o.odometer) (missed_line k) []) → after o ≡ pick (is_overdue k.linking o.odometer) (unlinked k) k
    → Step3 o lines k
step3 o lines k given known =
    record {
      missed = λ D a l h.
          let r = by true (ap (λ (v : Linking). is_overdue v o.odometer) l ∙ lt-ltb (6 * D) (5 * (o.odometer - a)) h) in
          (r.0 ∙ ap (λ (v : Linking). gives (lines ++ Line.Missed (missed_place v) ∷ [])) l, r.1);
      not_yet = λ D a l h. none (ap (λ (v : Linking). is_overdue v o.odometer) l ∙ le-ltb (6 * D) (5 * (o.odometer - a)) h);
      not_set = λ l. none (ap (λ (v : Linking). is_overdue v o.odometer) l);
    }
  where
    by : (t : Bool) → is_overdue k.linking o.odometer ≡ t → Gives o (lines ++ pick t (missed_line k) []) × (after o ≡ pick t (unlinked k) k)
    by t e = (given ∙ ap (λ (u : Bool). gives (lines ++ pick u (missed_line k) [])) e, known ∙ ap (λ (u : Bool). pick u (unlinked k) k) e)

    append_none : (ls : List Line) → ls ++ [] ≡ ls
    append_none [] = refl
    append_none (l ∷ ls) = ap (λ (v : List Line). l ∷ v) (append_none ls)

    none : is_overdue k.linking o.odometer ≡ false → Gives o lines × (after o ≡ k)
    none e = let r = by false e in (r.0 ∙ ap gives (append_none lines), r.1)

-- ---- a group closes

-- Its line, with its mark and its number.
line_so : (g : Group) (m : Message) → judge g ≡ gives m → (linking : Linking) (mark : Mark) (number : Number) → IsMarked linking m mark → IsNumbered m number
    → Line.Group (seen_from m linking) ≡ line_of m mark number
line_so g m judged linking mark number marked numbered =
    ap₂ (λ (v : Mark) (n : Number). line_of m v n) (mark_so g m judged linking mark marked) (number_so m number numbered)

module _ (o : OneStep) (m : Message) (b : LeavesBehind o) (j : JudgeGroup o.ride.group (Ok m)) where
  -- what is known after it, before step 3
  abbrev told : Known
  told = known_from m.content m.place m.number (before o)

  closed_so : says_stepped o.answer ≡ after_closing (entry o) (close_as o.ride.group (before o) (gives m))
  closed_so = closes o b (gives m) (sym j.1)

  module _ (mark : Mark) (number : Number) (marked : IsMarked (before o).linking m mark) (numbered : IsNumbered m number) where
    closed_step3 : Step3 o (line_of m mark number ∷ []) told
    unfolding missed_lines after_missed no_group
    closed_step3 =
        step3 o (line_of m mark number ∷ []) told
        (ap (λ (s : Step). s.lines) closed_so
        ∙ ap (λ (l : Line). gives (l ∷ pick (is_overdue told.linking o.odometer) (missed_line told) []))
        (line_so o.ride.group m (sym j.1) (before o).linking mark number marked numbered))
        (ap (λ (s : Step). s.ride.known) closed_so)

    pub closes_so : (k : Known) × Becomes (before o) m k × Step3 o (line_of m mark number ∷ []) k
    closes_so = (told, becomes o.ride.group m (sym j.1) (before o), closed_step3)

-- ---- no group closes

-- steps 3 and 4 on what was there before
abbrev stayed : OneStep → Step
stayed o = after_closing (entry o) (leave o.ride.group (before o))

none_step3 : (o : OneStep) → NoneOpen o → Step3 o [] (before o)
unfolding leave missed_lines after_missed
none_step3 o n =
    let k = before o in
    let late = is_overdue k.linking o.odometer in
    step3 o [] k
    (ap (λ (s : Step). s.lines) (stays_none o n) ∙ ap (λ (u : Bool). gives (pick (not u && late) (missed_line k) [])) n.none)
    (ap (λ (s : Step). s.ride.known) (stays_none o n) ∙ ap (λ (u : Bool). pick (not u && late) (unlinked k) k) n.none)

open_stays : (o : OneStep) → StaysOpen o → Gives o [] × (after o ≡ before o)
unfolding leave missed_lines after_missed
open_stays o s =
    let k = before o in
    let late = is_overdue k.linking o.odometer in
    let e = stays_open o s.accepts s.is_open s.within in (
      ap (λ (v : Step). v.lines) e ∙ ap (λ (u : Bool). gives (pick (not u && late) (missed_line k) [])) s.is_open,
      ap (λ (v : Step). v.ride.known) e ∙ ap (λ (u : Bool). pick (not u && late) (unlinked k) k) s.is_open,
    )

taken_up : (o : OneStep) → says_stepped o.answer ≡ stayed o
    → (o.answer.ride.group ≡ take_up o.ride.group o.odometer o.passed) × (o.answer.closed ≡ no_group)
unfolding leave
taken_up o e = (ap (λ (v : Step). v.ride.group) e, ap (λ (v : Step). v.closed) e)

-- A group left behind closes, whatever is judged of it.
left : (o : OneStep) → LeavesBehind o → (o.answer.ride.group ≡ take_up no_group o.odometer o.passed) × (o.answer.closed ≡ o.ride.group)
left o b = let e = closes o b _ refl in (ap (λ (v : Step). v.ride.group) e, ap (λ (v : Step). v.closed) e)

moved : (o : OneStep) → Accepts o → o.answer.ride.odometer ≡ o.odometer
unfolding go_on
moved o a = ap (λ (v : Step). v.ride.odometer) (goes_on o a)

-- ---- the end

ended_so : (ride : Ride) (r : Ended) (m : Message) (mark : Mark) (number : Number) → EndOf ride r → is_open_meant ride.group ≡ true → JudgeGroup ride.group (Ok m)
    → IsMarked ride.known.linking m mark → IsNumbered m number
    → (says_ended r ≡ ended ride.odometer (record { lines = line_of m mark number ∷ []; closed = ride.group; group = no_group; known = known_from m.content m.place m.number ride.known }))
unfolding end close
ended_so ride r m mark number c is j marked numbered =
    c.1
    ∙ ap (λ (t : Bool). ended ride.odometer (pick t (close ride.group ride.known) (leave ride.group ride.known))) is
    ∙ ap (λ (o : _). ended ride.odometer (close_as ride.group ride.known o)) (sym j.1)
    ∙ ap (λ (l : Line). ended ride.odometer (record { lines = l ∷ []; closed = ride.group; group = no_group; known = known_from m.content m.place m.number ride.known }))
    (line_so ride.group m (sym j.1) ride.known.linking mark number marked numbered)

nothing_so : (ride : Ride) (r : Ended) → EndOf ride r → is_open_meant ride.group ≡ false → says_ended r ≡ record { lines = []; closed = no_group; ride = ride }
unfolding end leave
nothing_so ride r c is =
    c.1 ∙ ap (λ (t : Bool). ended ride.odometer (pick t (close ride.group ride.known) (leave ride.group ride.known))) is

fresh_so : (f : Ride) → f ≡ fresh_ride
    → (f.known ≡ record { linking = Linking.Unset; main = Told.Unknown; target = Told.Unknown; number = Number.None }) × (is_open_meant f.group ≡ false) × (f.odometer ≡ 0)
unfolding fresh_ride no_group nothing_known
fresh_so f e = (ap (λ (r : Ride). r.known) e, ap (λ (r : Ride). is_open_meant r.group) e, ap (λ (r : Ride). r.odometer) e)

pub riding : Riding
riding = record {
  closes = λ o m mark number b j marked numbered. closes_so o m b j mark number marked numbered;
  none_open = none_step3;
  stays_open = open_stays;
  joins = λ o s. taken_up o (stays_open o s.accepts s.is_open s.within);
  opens = λ o n. taken_up o (stays_none o n);
  leaves = left;
  odometer = moved;
  marked = mark_of_law;
  numbered = number_on_law;
  ended = λ ride r m mark number c is j marked numbered.
      let e = ended_so ride r m mark number c is j marked numbered in (
        ap (λ (v : End). v.lines) e,
        subst (Becomes ride.known m) (sym (ap (λ (v : End). v.ride.known) e)) (becomes ride.group m (sym j.1) ride.known),
        ap (λ (v : End). v.ride.group) e,
        ap (λ (v : End). v.ride.odometer) e,
        ap (λ (v : End). v.closed) e,
      );
  nothing_open = λ ride r c is. let e = nothing_so ride r c is in (ap (λ (v : End). v.lines) e, ap (λ (v : End). v.ride) e, ap (λ (v : End). v.closed) e);
  fresh = λ f c. fresh_so f c.1;
  treats = treats_as;
  treats_none = treats_nothing;
  runs = runs_on;
  runs_none = runs_nowhere;
}
