-- What a block comes to, for whoever calls `accept` again and again: it takes no more records than
-- there are, and with 128 bytes a record it takes them all.
-- Assumes nothing.
use Prim.Native.Nat.{ℕ, suc, ◌+◌, ◌*◌, ◌≤◌}
use native.Mathlib.Omega.{arith}
use mathlib.Core.Path.{◌≡◌, refl, sym, ap, subst, ◌∙◌}
use mathlib.Core.Bool.{Bool, true, false}
use mathlib.Core.List.{List, [], ◌∷◌}
use lib.ListN.{length, length-append}
use borrow.Author.Tests.{le-leb}
use Rattle.words.specs.Answer.{Outcome, gives, refuses, pick}
use Rattle.group.specs.declared.Group.{Group}
use Rattle.ride.specs.declared.Known.{Known}
use Rattle.ride.specs.declared.Line.{Line}
use Rattle.ride.specs.declared.Ride.{Ride}
use Rattle.ride.specs.Record.{Entry, odometer_of, check_record}
use Rattle.ride.specs.Joining.{is_behind}
use Rattle.ride.specs.Linking.{missed_place}
use Rattle.ride.specs.Closing.{Closing, close, leave}
use Rattle.ride.specs.Step.{Step, is_missed, missed_lines, close_behind, go_on, refuse_or, treat}
use Rattle.ride.specs.Over.{lines_for}
use Rattle.acceptance_text.specs.Taking.{Taking, take_one, take_all}
use Rattle.acceptance_text.specs.Accept.{has_room, taken}
use Rattle.acceptance_text.proofs.Takings.{one_short}

-- ---- the text of a record's lines

-- 64 bytes a line at most.
lines_within : (t : Taking) (ls : List Line) → length (take_all t ls).text ≤ length t.text + 64 * length ls
unfolding take_all
lines_within t [] = omega arith
lines_within t (l ∷ ls) = omega (arith, lines_within (take_one t l) ls, one_short t l)

-- A record gives two lines at most, and the end one.
one_line : (g : Group) (known : Known) (b : Bool) → length (pick b (close g known) (leave g known)).lines ≤ 1
unfolding close leave
one_line g known true = omega arith
one_line g known false = omega arith

one_missed : (b : Bool) (l : Line) → length (pick b (l ∷ []) []) ≤ 1
one_missed true l = omega arith
one_missed false l = omega arith

two_lines : (ride : Ride) (gap : ℕ) (r : List ℕ) → length (lines_for 0 (treat ride gap r).lines) ≤ 2
unfolding treat go_on close_behind missed_lines
two_lines ride gap r = go (check_record ride.odometer r)
  where
    go : (o : Outcome Entry) → length (lines_for 0 (refuse_or ride gap o).lines) ≤ 2
    go (refuses n) = omega arith
    go (gives e) =
        let c : Closing = pick (is_behind gap e.odometer ride.group) (close ride.group ride.known) (leave ride.group ride.known) in
        omega (
          arith,
          length-append c.lines (missed_lines e.odometer c.group c.known),
          one_line ride.group ride.known (is_behind gap e.odometer ride.group),
          one_missed (is_missed e.odometer c.group c.known) (Line.Missed (missed_place c.known.linking)),
        )

record_short : (ride : Ride) (gap : ℕ) (r : List ℕ) (t : Taking) → length (take_all t (lines_for 0 (treat ride gap r).lines)).text ≤ length t.text + 128
record_short ride gap r t = omega (arith, lines_within t (lines_for 0 (treat ride gap r).lines), two_lines ride gap r)

-- ---- how many records are taken

-- no more than there are
one_within : (b : Bool) (n k : ℕ) → n ≤ k → pick b (suc n) 0 ≤ suc k
one_within true n k h = omega arith
one_within false n k h = omega arith

pub taken_within : (gaps : ℕ → ℕ) (room : ℕ) (ride : Ride) (t : Taking) (rs : List (List ℕ)) → taken gaps room ride t rs ≤ length rs
unfolding taken
taken_within gaps room ride t [] = omega arith
taken_within gaps room ride t (r ∷ rs) =
    let s : Step = treat ride (gaps (odometer_of r)) r in
    let u : Taking = take_all t (lines_for 0 s.lines) in
    one_within (has_room room t) (taken gaps room s.ride u rs) (length rs) (taken_within gaps room s.ride u rs)

-- with 128 bytes for each all of them
pub taken_all : (gaps : ℕ → ℕ) (room : ℕ) (ride : Ride) (t : Taking) (rs : List (List ℕ)) → length t.text + 128 * length rs ≤ room
    → taken gaps room ride t rs ≡ length rs
unfolding taken
taken_all gaps room ride t [] h = refl
taken_all gaps room ride t (r ∷ rs) h =
    let s : Step = treat ride (gaps (odometer_of r)) r in
    let u : Taking = take_all t (lines_for 0 s.lines) in
    let here : length t.text + 128 ≤ room = omega arith in
    let more : length u.text + 128 * length rs ≤ room = omega (arith, record_short ride (gaps (odometer_of r)) r t) in
    ap (λ (b : Bool). pick b (suc (taken gaps room s.ride u rs)) 0) (le-leb (length t.text + 128) room here)
    ∙ ap suc (taken_all gaps room s.ride u rs more)

-- one, where there is one and room for it
pub taken_one : (gaps : ℕ → ℕ) (room : ℕ) (ride : Ride) (t : Taking) (rs : List (List ℕ)) → 1 ≤ length rs → length t.text + 128 ≤ room
    → 1 ≤ taken gaps room ride t rs
unfolding taken
taken_one gaps room ride t [] some h = absurd (omega arith)
taken_one gaps room ride t (r ∷ rs) some h =
    let s : Step = treat ride (gaps (odometer_of r)) r in
    let n : ℕ = taken gaps room s.ride (take_all t (lines_for 0 s.lines)) rs in
    let more : 1 ≤ suc n = omega arith in
    subst (λ (k : ℕ). 1 ≤ k) (sym (ap (λ (b : Bool). pick b (suc n) 0) (le-leb (length t.text + 128) room h))) more
