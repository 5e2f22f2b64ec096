-- `followed` passes over the blanks, of which there must be one, and reads the number after them.
use mathlib.Core.Path.{◌≡◌, ap, sym, ◌∙◌}
use Prim.Native.Nat.{ℕ, ◌-◌, ◌≤◌}
use mathlib.Core.List.{List}
use native.Mathlib.Omega.{arith}
use lib.ListN.{length, take, drop, length-drop}
use lib.Seq.{take_all}
use Rattle.std.specs.Prelude.{Err}
use Rattle.figures.specs.Figures.{decimal}
use Rattle.viewer_text.specs.Commands.{largest, numbered, followed}
use Rattle.viewer_text.proofs.Letters.{leads_within, unled_is, led_is}
use Rattle.viewer_text.proofs.commands.followed.Goals.{After-begin-blanks, After-decimal}
use Rattle.viewer_text.proofs.commands.followed.Goals as goal

-- the blanks lie within what stands there
within : (b : After-begin-blanks) → b.begin-blanks.result ≤ length b.args.rest.now
within b = omega (arith, b.begin-blanks.ensures, leads_within b.args.rest.now)

-- the part from a place on is the rest
rest_is : (l : List ℕ) (k : ℕ) → take (length l - k) (drop k l) ≡ drop k l
rest_is l k = take_all (length l - k) (drop k l) (simp length-drop (omega arith))

-- blanks and a figure
figured : (d : After-decimal) → numbered d.args.letter d.decimal.result ≡ followed d.args.letter d.args.rest.now
figured d =
    let a = d.args in
    ap (numbered d.args.letter) (d.decimal.ensures
    ∙ ap (λ (l : List ℕ). decimal l largest) (rest_is d.args.rest.now d.begin-blanks.result ∙ ap (λ (k : ℕ). drop k d.args.rest.now) d.begin-blanks.ensures))
    ∙ led_is d.args.letter d.args.rest.now (λ z. d.if-blanks-eq0.false (d.begin-blanks.ensures ∙ z))

pub returns-then-blanks-eq0 : goal.returns-then-blanks-eq0
returns-then-blanks-eq0 c =
    unled_is c.args.letter c.args.rest.now (sym c.begin-blanks.ensures ∙ c.if-blanks-eq0.true)

pub returns-in-Ok : goal.returns-in-Ok
returns-in-Ok c =
    let a = c.args in
    c.by.ensures ∙ ap (numbered a.letter) (sym c.in-Ok.is) ∙ figured (goal.at-returns-in-Ok c).After-decimal

pub returns-in-Err-Above : goal.returns-in-Err-Above
returns-in-Err-Above c =
    let a = c.args in
    c.by-in-Err-Above.ensures
    ∙ ap (numbered a.letter) (ap Err (sym c.in-Err-Above.field-0-is) ∙ sym c.in-Err-Above.is)
    ∙ figured (goal.at-returns-in-Err-Above c).After-decimal

pub returns-in-Err-Odd : goal.returns-in-Err-Odd
returns-in-Err-Odd c =
    let a = c.args in
    ap (numbered a.letter) (ap Err (sym c.in-Err-Odd.field-0-is) ∙ sym c.in-Err-Odd.is)
    ∙ figured (goal.at-returns-in-Err-Odd c).After-decimal

pub slice_bounds-decimal-count : goal.slice_bounds-decimal-count
slice_bounds-decimal-count c = omega (arith, within (goal.at-slice_bounds-decimal-count c).After-begin-blanks)

pub slice_bounds-decimal-start : goal.slice_bounds-decimal-start
slice_bounds-decimal-start c = within (goal.at-slice_bounds-decimal-start c).After-begin-blanks
