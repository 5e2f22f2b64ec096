-- `up_to` takes one digit a turn: the number so far, continued by the digits that are left, is
-- always the whole number.
use mathlib.Core.Path.{◌≡◌, sym, ◌∙◌}
use Prim.Native.Nat.{◌+◌, ◌-◌, ◌*◌, ◌≤◌, ◌<◌}
use native.Mathlib.Omega.{arith}
use lib.ListN.{length, get_or, drop}
use lib.Dec.{leb}
use Rattle.words.specs.Answer.{pick}
use Rattle.figures.specs.Figures.{continued}
use Rattle.std.specs.Prelude.{Ok, Err}
use Rattle.figures.specs.declared.NotFigure.{NotFigure}
use Rattle.figures.proofs.Characters.{is_digit, number_on_law, number_end, grows, is_above, is_number}
use Rattle.figures.proofs.digits.up_to.Goals.{At-loop-c}
use Rattle.figures.proofs.digits.up_to.Goals as goal

-- A digit that takes the number above the largest asked for.
over : (l : At-loop-c) →
    let t = l.args.text.now in
    let most = l.args.most in
    l.loop-c.c-index < length t → most < l.loop-c.sum * 10 + (get_or t l.loop-c.c-index 0 - 48)
    → Err NotFigure.Above ≡ pick (leb (continued 0 t) most) (Ok (continued 0 t)) (Err NotFigure.Above)
over l in-text more =
    let t = l.args.text.now in
    let n = l.loop-c.sum * 10 + (get_or t l.loop-c.c-index 0 - 48) in
    let whole : continued n (drop (l.loop-c.c-index + 1) t) ≡ continued 0 t = sym (number_on_law t l.loop-c.c-index in-text l.loop-c.sum) ∙ l.loop-c.invariant.1 in
    let so_far : n ≤ continued n (drop (l.loop-c.c-index + 1) t) = grows n (drop (l.loop-c.c-index + 1) t) in
    is_above (continued 0 t) l.args.most (omega arith)

pub overflow_sub-digit : goal.overflow_sub-digit
overflow_sub-digit c =
    (is_digit c.args.text.now c.loop-c.c-index (omega arith) c.loop-c.invariant.2).0

pub overflow_cast-digit : goal.overflow_cast-digit
overflow_cast-digit c =
    let d = is_digit c.args.text.now c.loop-c.c-index (omega arith) c.loop-c.invariant.2 in
    omega (arith, d.1)

pub returns-then-digit-most : goal.returns-then-digit-most
returns-then-digit-most c = over (goal.at-returns-then-digit-most c).At-loop-c (omega arith) (omega arith)

pub returns-then-sum-most : goal.returns-then-sum-most
returns-then-sum-most c = over (goal.at-returns-then-sum-most c).At-loop-c (omega arith) (omega arith)

pub loop-c-preserved : goal.loop-c-preserved
loop-c-preserved c =
    let t = c.args.text.now in
    let i = c.loop-c.c-index in
    let in-text : i < length t = omega arith in
    let d = is_digit t i in-text c.loop-c.invariant.2 in
    (omega arith, sym (number_on_law t i in-text c.loop-c.sum) ∙ c.loop-c.invariant.1, d.2)

pub returns : goal.returns
returns c =
    let t = c.args.text.now in
    let same : c.loop-c.sum ≡ continued 0 t = sym (number_end t c.loop-c.c-index c.loop-c.sum (omega arith)) ∙ c.loop-c.invariant.1 in
    is_number c.loop-c.sum (continued 0 t) c.args.most same (omega arith)
