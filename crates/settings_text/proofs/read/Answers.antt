-- `read` takes line after line: what is left of the text, with the store so far, comes to what the
-- whole does.
use mathlib.Core.Path.{◌≡◌, sym, ap, subst, ◌∙◌}
use mathlib.Core.Bool.{true}
use Prim.Native.Nat.{ℕ, ◌+◌}
use native.Mathlib.Omega.{arith}
use lib.ListN.{drop, length-drop}
use borrow.Author.Tests.{not-true, not-false}
use Rattle.settings.specs.declared.Store.{Store}
use Rattle.lines.specs.declared.Reader.{Reader}
use Rattle.lines.specs.declared.Got.{Got}
use Rattle.lines.specs.Text.{lines_of, beginning}
use Rattle.lines.specs.Reading.{fresh, next_line}
use Rattle.settings_text.specs.Taking.{take_line}
use Rattle.settings_text.specs.Sheet.{lines_from}
use Rattle.settings_text.proofs.Lines.{Goes, begins}
use Rattle.settings_text.proofs.Steps.{goes, bad_line, last_line, next_line_law, too_long, all_lines}
use Rattle.settings_text.proofs.read.Goals.{After-next_line-got, After-take-taken}
use Rattle.settings_text.proofs.read.Goals as goal

-- the line as it was read
got : (c : After-next_line-got) →
    c.next_line-got.result ≡ next_line fresh c.args.text.now c.loop-store.from
got c =
    let t = c.args.text.now in
    c.next_line-got.ensures ∙ ap (λ (r : Reader). next_line r t c.loop-store.from) c.fresh.ensures

-- the line as it was taken
took : (c : After-take-taken) →
    c.take-taken.result ≡ take_line c.loop-store.store (next_line fresh c.args.text.now c.loop-store.from).line
took c =
    c.take-taken.ensures ∙ ap (λ (g : Got). take_line c.loop-store.store g.line) (got (goal.at-After-take-taken c).After-next_line-got)

-- the line ends, and the next one begins
on : (c : After-take-taken) → c.next_line-got.result.ends ≡ true →
    Goes (drop c.loop-store.from c.args.text.now) c.loop-store.from c.next_line-got.result.next
on c ends =
    let t = c.args.text.now in
    subst (λ (g : Got). Goes (drop c.loop-store.from t) c.loop-store.from g.next) (sym (got (goal.at-After-take-taken c).After-next_line-got))
    (goes c.loop-store.store c.loop-store.number t c.loop-store.from c.take-taken.result (took c) (sym (ap (λ (g : Got). g.ends) (got (goal.at-After-take-taken c).After-next_line-got)) ∙ ends))

pub returns-then-text-gt1048576 : goal.returns-then-text-gt1048576
returns-then-text-gt1048576 c = c.bad.ensures ∙ too_long c.args.text.now c.if-text-gt1048576.true

pub loop-store-init : goal.loop-store-init
loop-store-init c =
    let t = c.args.text.now in
    let start : c.begin-from.result ≡ beginning t = c.begin-from.ensures in (
      omega (arith, begins t, start),
      omega arith,
      ap (λ (s : Store). lines_from s 1 (lines_of (drop (beginning t) t))) (sym c.no_store-store.ensures)
          ∙ ap (λ (k : ℕ). lines_from c.no_store-store.result 1 (lines_of (drop k t))) (sym start),
    )

pub returns-then-not-is_fine : goal.returns-then-not-is_fine
returns-then-not-is_fine c =
    let t = c.args.text.now in
    let not_fine = sym c.is_fine.ensures ∙ not-true c.is_fine.result c.if-not-is_fine.true-raw in
    c.bad-then-not-is_fine.ensures
    ∙ bad_line c.loop-store.store c.loop-store.number t c.loop-store.from c.take-taken.result (took (goal.at-returns-then-not-is_fine c).After-take-taken) not_fine
    ∙ sym c.loop-store.invariant.2 ∙ all_lines t c.if-text-gt1048576.false

pub returns-then-not-got : goal.returns-then-not-got
returns-then-not-got c =
    let t = c.args.text.now in
    let fine = sym c.is_fine.ensures ∙ not-false c.is_fine.result c.if-not-is_fine.false-raw in
    let last = sym (ap (λ (g : Got). g.ends) (got (goal.at-returns-then-not-got c).After-next_line-got)) ∙ not-true c.next_line-got.result.ends c.if-not-got.true in
    c.ended.ensures
    ∙ last_line c.loop-store.store c.loop-store.number t c.loop-store.from c.take-taken.result (took (goal.at-returns-then-not-got c).After-take-taken) fine last
    ∙ sym c.loop-store.invariant.2 ∙ all_lines t c.if-text-gt1048576.false

pub overflow_add-number : goal.overflow_add-number
overflow_add-number c =
    omega (arith, c.loop-store.invariant.0, c.loop-store.invariant.1, c.if-text-gt1048576.false)

pub loop-store-smaller : goal.loop-store-smaller
loop-store-smaller c =
    let t = c.args.text.now in
    let g = on (goal.at-loop-store-smaller c).After-take-taken (not-false c.next_line-got.result.ends c.if-not-got.false) in
    omega (arith, g.beyond, g.within, length-drop c.loop-store.from t)

pub loop-store-preserved : goal.loop-store-preserved
loop-store-preserved c =
    let t = c.args.text.now in
    let ends = not-false c.next_line-got.result.ends c.if-not-got.false in
    let g = on (goal.at-loop-store-preserved c).After-take-taken ends in
    let fine = sym c.is_fine.ensures ∙ not-false c.is_fine.result c.if-not-is_fine.false-raw in
    let same = sym (ap (λ (x : Got). x.ends) (got (goal.at-loop-store-preserved c).After-next_line-got)) ∙ ends in (
      omega (arith, g.within, length-drop c.loop-store.from t, c.loop-store.invariant.0),
      omega (arith, g.beyond, c.loop-store.invariant.1),
      c.loop-store.invariant.2
          ∙ next_line_law c.loop-store.store c.loop-store.number t c.loop-store.from c.take-taken.result (took (goal.at-loop-store-preserved c).After-take-taken) fine same
          ∙ ap (λ (x : Got). lines_from c.take-taken.result.store (c.loop-store.number + 1) (lines_of (drop x.next t))) (sym (got (goal.at-loop-store-preserved c).After-next_line-got)),
    )
