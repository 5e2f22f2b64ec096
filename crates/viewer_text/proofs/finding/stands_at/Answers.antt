-- `stands_at` compares the letters from the last to the first: those that are left decide.
use mathlib.Core.Path.{refl, sym, subst, ◌∙◌}
use Prim.Native.Nat.{ℕ, ◌+◌, ◌-◌, ◌^◌, ◌<◌}
use native.Mathlib.Nat.{mul-one}
use native.Mathlib.Omega.{arith}
use lib.ListN.{length}
use Rattle.viewer_text.proofs.Scanning.{stands_on, stands_not, stands_done}
use Rattle.viewer_text.proofs.finding.stands_at.Goals.{In-loop-k}
use Rattle.viewer_text.proofs.finding.stands_at.Goals as goal

-- the letter lies within the text
within : (c : In-loop-k) → c.args.at + (c.loop-k.k - 1) < length c.args.text.now
within c =
    omega (arith, c.loop-k-test.true, c.loop-k.auto.k, c.requires)

pub loop-k-init : goal.loop-k-init
loop-k-init c = refl

pub overflow_add-at : goal.overflow_add-at
overflow_add-at c =
    let big : length c.args.text.now < 2 ^ 63 = subst (λ (k : ℕ). k < 2 ^ 63) (mul-one (length c.args.text.now)) c.well_formed.0.1 in
    let below : c.args.at + (c.loop-k.k - 1) < length c.args.text.now = within c in
    omega arith

pub bounds-text-at : goal.bounds-text-at
bounds-text-at c = within (goal.at-bounds-text-at c).In-loop-k

pub returns-then-small : goal.returns-then-small
returns-then-small c =
    stands_not c.args.text.now c.args.word.now c.args.at c.loop-k.k c.loop-k-test.true (λ e. c.if-small.true (c.small.ensures ∙ e ∙ sym c.small-in-loop-k.ensures)) ∙ c.loop-k.invariant

pub loop-k-preserved : goal.loop-k-preserved
loop-k-preserved c =
    let on = stands_on c.args.text.now c.args.word.now c.args.at c.loop-k.k c.loop-k-test.true (sym c.small.ensures ∙ c.if-small.false ∙ c.small-in-loop-k.ensures) in
    on ∙ c.loop-k.invariant

pub returns : goal.returns
returns c =
    stands_done c.args.text.now c.args.word.now c.args.at c.loop-k.k c.loop-k-test.false ∙ c.loop-k.invariant
