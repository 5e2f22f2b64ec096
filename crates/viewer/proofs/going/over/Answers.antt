-- `over` passes the records one by one, with what is held for each: the forwards that are left,
-- from here, are all of them.
use mathlib.Core.Path.{◌≡◌, refl, ap, ap₂, sym, ◌∙◌}
use mathlib.Core.Bool.{Bool, true, false, ◌&&◌}
use Prim.Native.Nat.{ℕ, ◌+◌, ◌-◌, ◌/◌, ◌%◌, ◌<◌, ◌≤◌, min}
use native.Mathlib.Omega.{arith}
use borrow.Author.Tests.{leb-true, leb-false, le-ltb}
use lib.Dec.{eqb, leb, ltb}
use lib.ListN.{length, set}
use Rattle.settings.proofs.Holding.{holding_at}
use Rattle.ride.proofs.Under.{turned_on}
use Rattle.words.specs.Answer.{pick}
use Rattle.viewer.specs.declared.Standing.{Standing}
use Rattle.viewer.specs.Stand.{passed}
use Rattle.viewer.specs.Going.{Ending, all, refused, Moved, after, forwards}
use Rattle.viewer.proofs.Many.{after_after, after_none, forwards_next, forwards_stop}
use Rattle.viewer.proofs.going.over.Invariants.{here}
use Rattle.viewer.proofs.going.over.Goals.{In-loop-made}
use Rattle.viewer.proofs.going.over.Goals as goal

and_false : (b : Bool) → (b && false) ≡ false
and_false true = refl
and_false false = refl

-- After so many steps no time is left, or no record.
stop_by : (b : Bool) (times number count : ℕ) → leb times (count - number) ≡ b
    → (ltb 0 (times - min times (count - number)) && ltb (number + min times (count - number)) count) ≡ false
stop_by true times number count e =
    let low : times ≤ count - number = leb-true times (count - number) e in
    let none : times - min times (count - number) ≡ 0 = omega arith in
    rw none
stop_by false times number count e =
    let high : count - number < times = leb-false times (count - number) e in
    let past : count ≤ number + min times (count - number) = omega arith in
    rw (le-ltb (number + min times (count - number)) count past) (and_false (ltb 0 (times - min times (count - number))))

-- in the loop a time is left, and a record
room : (c : In-loop-made) → (c.loop-made.made < c.args.times) × (c.args.from.number + c.loop-made.made < length c.args.trace.now / 8)
room c = (omega arith, omega arith)

pub loop-made-init : goal.loop-made-init
loop-made-init c =
    let a = c.args in
    let none : a.times - 0 ≡ a.times = omega arith in
    let same : a.from.number + 0 ≡ a.from.number = omega arith in (
      rw c.requires.1 (holding_at a.from.settings 0 c.requires.0),
      after_none 0 _ refl
          ∙ ap₂ (λ (t n : ℕ). forwards t a.trace.now (here n a.from.kept a.from.ride a.from.last a.from.settings)) none same,
    )

pub overflow_add-number : goal.overflow_add-number
overflow_add-number c = omega (arith, (room (goal.at-overflow_add-number c).In-loop-made).1)

pub loop-made-preserved : goal.loop-made-preserved
unfolding passed
loop-made-preserved c =
    let a = c.args in
    let l = c.loop-made in
    let store = a.from.settings in
    let trace = a.trace.now in
    let there = room (goal.at-loop-made-preserved c).In-loop-made in
    let some : 0 < a.times - l.made = omega (arith, there.0) in
    let stand = here (a.from.number + l.made) l.kept l.now l.last store in
    let next = c.treat_at-treated.result.ride in
    let on = turned_on store l.held c.held_at-held.result l.now trace (a.from.number + l.made) c.treat_at-treated.result
    (record { good = c.requires.0; holding = l.invariant.0; next_is = c.held_at-held.ensures; says = c.treat_at-treated.ensures }) there.1 in
    let at : ℕ → ℕ → Standing = λ n k. here n k next (set l.last ((a.from.number + l.made) % 256) l.now) store in
    let fewer : a.times - (l.made + 1) ≡ a.times - l.made - 1 = omega arith in
    let further : a.from.number + (l.made + 1) ≡ a.from.number + l.made + 1 = omega arith in (
      on.0,
      ap₂ (λ (t n : ℕ). after (l.made + 1) (forwards t trace (at n c.one_more-kept.result))) fewer further
          ∙ ap (λ (k : ℕ). after (l.made + 1) (forwards (a.times - l.made - 1) trace (at (a.from.number + l.made + 1) k))) c.one_more-kept.ensures
          ∙ sym (after_after l.made 1 (forwards (a.times - l.made - 1) trace (passed stand next)))
          ∙ ap (after l.made) (forwards_next (a.times - l.made) trace stand next some there.1 c.requires.0 on.1)
          ∙ l.invariant.1,
    )

pub returns : goal.returns
returns c =
    let a = c.args in
    let l = c.loop-made in
    let count = length a.trace.now / 8 in
    let at : ℕ → Standing = λ n. here (a.from.number + n) l.kept l.now l.last a.from.settings in
    let made : l.made ≡ min a.times (count - a.from.number) = omega arith in
    let steps : c.min-steps.result ≡ l.made = omega arith in
    let none : l.made + 0 ≡ l.made = omega arith in
    let stop : (ltb 0 (a.times - l.made) && ltb (a.from.number + l.made) count) ≡ false = rw made (stop_by (leb a.times (count - a.from.number)) a.times a.from.number count refl) in
    ap {B = Moved} (λ (e : Ending). record { steps = c.min-steps.result; ending = e; stand = at c.min-steps.result }) c.ended.ensures
    ∙ ap {B = Moved} (λ (n : ℕ). record { steps = n; ending = pick (eqb (a.times - n) 0) all (refused 23); stand = at n }) steps
    ∙ ap {B = Moved} (λ (n : ℕ). record { steps = n; ending = pick (eqb (a.times - l.made) 0) all (refused 23); stand = at l.made }) (sym none)
    ∙ ap (after l.made) (forwards_stop (a.times - l.made) a.trace.now (at l.made) stop)
    ∙ l.invariant.1
