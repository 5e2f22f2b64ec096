-- `read` goes by what stands between the blanks: how long it is, then its letter, then what
-- follows.
use mathlib.Core.Path.{ap, sym, ◌∙◌}
use Prim.Native.Nat.{ℕ, ◌+◌, ◌-◌, ◌≤◌}
use mathlib.Core.List.{List}
use native.Mathlib.Omega.{arith}
use lib.ListN.{length, take, drop}
use Rattle.viewer_text.specs.Commands.{alone, followed}
use Rattle.viewer_text.proofs.Letters.{ends_within, trimmed, again_is, alone_is, find_is, followed_is}
use Rattle.viewer_text.proofs.commands.read.Goals.{After-end-to}
use Rattle.viewer_text.proofs.commands.read.Goals as goal

-- the line, and where what stands in it begins and ends
abbrev line : After-end-to → List ℕ
line e = e.args.line.now

abbrev from : After-end-to → ℕ
from e = e.begin-from.result

abbrev to : After-end-to → ℕ
to e = e.end-to.result

within : (e : After-end-to) → to e ≤ length (line e)
within e = omega (arith, e.end-to.ensures, ends_within (length (line e)) (line e))

pub returns-then-to-from : goal.returns-then-to-from
returns-then-to-from c =
    again_is (line (goal.at-returns-then-to-from c).After-end-to) (from (goal.at-returns-then-to-from c).After-end-to) (to (goal.at-returns-then-to-from c).After-end-to) c.if-to-from.true ∙ trimmed (line (goal.at-returns-then-to-from c).After-end-to) (from (goal.at-returns-then-to-from c).After-end-to) (to (goal.at-returns-then-to-from c).After-end-to) c.begin-from.ensures c.end-to.ensures

pub bounds-line-from : goal.bounds-line-from
bounds-line-from c =
    omega (arith, c.if-to-from.false, within (goal.at-bounds-line-from c).After-end-to)

pub returns-then-letter-eq47 : goal.returns-then-letter-eq47
returns-then-letter-eq47 c =
    find_is (line (goal.at-returns-then-letter-eq47 c).After-end-to) (from (goal.at-returns-then-letter-eq47 c).After-end-to) (to (goal.at-returns-then-letter-eq47 c).After-end-to) c.if-to-from.false (sym c.small-letter.ensures ∙ c.if-letter-eq47.true)
    ∙ trimmed (line (goal.at-returns-then-letter-eq47 c).After-end-to) (from (goal.at-returns-then-letter-eq47 c).After-end-to) (to (goal.at-returns-then-letter-eq47 c).After-end-to) c.begin-from.ensures c.end-to.ensures

pub returns-then-to-from-eq1 : goal.returns-then-to-from-eq1
returns-then-to-from-eq1 c =
    c.alone.ensures
    ∙ ap alone c.small-letter.ensures
    ∙ alone_is (line (goal.at-returns-then-to-from-eq1 c).After-end-to) (from (goal.at-returns-then-to-from-eq1 c).After-end-to) (to (goal.at-returns-then-to-from-eq1 c).After-end-to) c.if-to-from.false (λ z. c.if-letter-eq47.false (c.small-letter.ensures ∙ z)) c.if-to-from-eq1.true
    ∙ trimmed (line (goal.at-returns-then-to-from-eq1 c).After-end-to) (from (goal.at-returns-then-to-from-eq1 c).After-end-to) (to (goal.at-returns-then-to-from-eq1 c).After-end-to) c.begin-from.ensures c.end-to.ensures

pub slice_bounds-followed-end : goal.slice_bounds-followed-end
slice_bounds-followed-end c = within (goal.at-slice_bounds-followed-end c).After-end-to

pub returns : goal.returns
returns c =
    c.followed.ensures
    ∙ ap (λ (n : ℕ). followed n (take (to (goal.at-returns c).After-end-to - (from (goal.at-returns c).After-end-to + 1)) (drop (from (goal.at-returns c).After-end-to + 1) (line (goal.at-returns c).After-end-to)))) c.small-letter.ensures
    ∙ followed_is (line (goal.at-returns c).After-end-to) (from (goal.at-returns c).After-end-to) (to (goal.at-returns c).After-end-to) c.if-to-from.false (λ z. c.if-letter-eq47.false (c.small-letter.ensures ∙ z)) c.if-to-from-eq1.false
    ∙ trimmed (line (goal.at-returns c).After-end-to) (from (goal.at-returns c).After-end-to) (to (goal.at-returns c).After-end-to) c.begin-from.ensures c.end-to.ensures
