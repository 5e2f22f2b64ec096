-- Every fault line is given by a group that closed and was refused with its number, and the reason
-- is the explainer's of that group.
-- Assumes nothing.
use Prim.Native.Nat.{ℕ, suc, ◌+◌, ◌≤◌}
use native.Mathlib.Omega.{arith}
use mathlib.Core.Path.{◌≡◌, refl, ap}
use mathlib.Core.Bool.{Bool, true, false}
use mathlib.Core.List.{List, [], ◌∷◌, ◌++◌}
use lib.Dec.{eqb}
use lib.ListN.{length, length-append}
use Rattle.words.specs.Answer.{Outcome, gives, refuses, pick}
use Rattle.text.specs.Text.{codes, decimal}
use Rattle.group.specs.declared.Group.{Group}
use Rattle.group.specs.declared.Message.{Message}
use Rattle.group.specs.Judge.{judge}
use Rattle.group_reason.specs.Reason.{balises, bad, opens, figure, Cause, Explained, because}
use Rattle.group_reason.specs.Explain.{explain}
use Rattle.group_reason.specs.Text.{balise_at, so_many, reason_text}
use Rattle.group_reason.specs.Truths.{Why, why_10, why_11, why_12, why_13, why_15, Right}
use Rattle.group_reason.proofs.Truths.{of_group}
use Rattle.ride.specs.declared.Known.{Known}
use Rattle.ride.specs.declared.Line.{Line}
use Rattle.ride.specs.declared.Ride.{Ride}
use Rattle.ride.specs.Record.{Entry, check_record, odometer_of}
use Rattle.ride.specs.State.{is_open_meant}
use Rattle.ride.specs.Joining.{is_behind}
use Rattle.ride.specs.Linking.{missed_place}
use Rattle.ride.specs.Closing.{Closing, line_of, close, leave}
use Rattle.ride.specs.Step.{Step, is_missed, missed_lines, after_closing, close_behind, go_on, refuse_or, treat, end}
use Rattle.ride.specs.Over.{lines_for}
use Rattle.ride_text.specs.SameLines.{Said, said_by, said_over}
use Rattle.ride_text.specs.Reasoned.{HasReason, AllReasoned, said_at_end}

-- ---- a reason has words

many_words : (n : ℕ) → 1 ≤ length (so_many n)
unfolding so_many
many_words n = go (eqb n 255)
  where
    go : (so : Bool) → 1 ≤ length (pick so (codes "255 or more balises") (decimal n ++ codes " balises"))
    go true = omega arith
    go false = simp length-append (omega arith)

balise_words : (i place : ℕ) → 1 ≤ length (balise_at i place)
unfolding balise_at
balise_words i place = simp length-append (omega arith)

cause_words : (n : ℕ) (c : Cause) → 1 ≤ length (reason_text (because n c))
unfolding reason_text
cause_words n (balises k) = go (eqb n 10)
  where
    go : (so : Bool) → 1 ≤ length (pick so (decimal k ++ codes " balise") (so_many k))
    go true = simp length-append (omega arith)
    go false = many_words k
cause_words n (bad i place b) = simp length-append (omega (arith, balise_words i place))
cause_words n (opens run k) = simp length-append (omega arith)
cause_words n (figure i place) = balise_words i place

why_words : (g : Group) (n : ℕ) (e : Explained) → Why g n e → 1 ≤ length (reason_text e)
why_words g n e (why_10 h) = cause_words 10 (balises 1)
why_words g n e (why_11 h) = cause_words 11 (balises g.count)
why_words g n e (why_12 i place what h) = cause_words 12 (bad i place what)
why_words g n e (why_13 run many h) = cause_words 13 (opens run many)
why_words g n e (why_15 i place h) = cause_words 15 (figure i place)

-- ---- the line of a group that closes

closing_line : (g : Group) (known : Known) → HasReason g (line_of g known.linking (judge g))
closing_line g known = go (judge g) refl (of_group g)
  where
    go : (o : Outcome Message) → judge g ≡ o → Right g o (explain g) → HasReason g (line_of g known.linking o)
    go (gives m) e right = tt
    go (refuses n) e right =
        record { first_place_law = refl; refused = e; why = right; words = λ none. absurd (omega (arith, why_words g n (explain g) right, ap length none)) }

-- ---- the lines of a record and of the end

pub joined : (xs ys : List Said) → AllReasoned xs → AllReasoned ys → AllReasoned (xs ++ ys)
joined [] ys p q = q
joined (x ∷ xs) ys p q = (p.0, joined xs ys p.1 q)

missed_lines_law : (g : Group) (t : Bool) (place : ℕ) → AllReasoned (said_by g (pick t (Line.Missed place ∷ []) []))
missed_lines_law g true place = (tt, tt)
missed_lines_law g false place = tt

closing_lines : (ride : Ride) (e : Entry) (number : ℕ) (t : Bool) →
    let s : Step = after_closing e (pick t (close ride.group ride.known) (leave ride.group ride.known)) in
    AllReasoned (said_by s.closed (lines_for number s.lines))
unfolding close leave missed_lines
closing_lines ride e number true =
    let c : Closing = close ride.group ride.known in
    (closing_line ride.group ride.known, missed_lines_law ride.group (is_missed e.odometer c.group c.known) (missed_place c.known.linking))
closing_lines ride e number false =
    let c : Closing = leave ride.group ride.known in
    missed_lines_law c.closed (is_missed e.odometer c.group c.known) (missed_place c.known.linking)

step_lines : (ride : Ride) (gap number : ℕ) (r : List ℕ) → let s : Step = treat ride gap r in AllReasoned (said_by s.closed (lines_for number s.lines))
unfolding treat go_on close_behind
step_lines ride gap number r = go (check_record ride.odometer r)
  where
    go : (o : Outcome Entry) → AllReasoned (said_by (refuse_or ride gap o).closed (lines_for number (refuse_or ride gap o).lines))
    go (refuses n) = (tt, tt)
    go (gives e) = closing_lines ride e number (is_behind gap e.odometer ride.group)

-- Of a ride,
pub ride_reasoned : (gaps : ℕ → ℕ) (ride : Ride) (number : ℕ) (rs : List (List ℕ)) → AllReasoned (said_over gaps ride number rs)
unfolding said_over
ride_reasoned gaps ride number [] = tt
ride_reasoned gaps ride number (r ∷ rs) =
    let s : Step = treat ride (gaps (odometer_of r)) r in
    joined (said_by s.closed (lines_for number s.lines)) (said_over gaps s.ride (suc number) rs)
    (step_lines ride (gaps (odometer_of r)) number r) (ride_reasoned gaps s.ride (suc number) rs)

-- and of its end.
end_by : (ride : Ride) (t : Bool) → let c : Closing = pick t (close ride.group ride.known) (leave ride.group ride.known) in AllReasoned (said_by c.closed c.lines)
unfolding close leave
end_by ride true = (closing_line ride.group ride.known, tt)
end_by ride false = tt

pub end_reasoned : (ride : Ride) → AllReasoned (said_at_end ride)
unfolding end
end_reasoned ride = end_by ride (is_open_meant ride.group)
