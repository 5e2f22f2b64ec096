-- The count is judged first, then the balises are read, then the rows decide.
-- Assumes nothing.
use Prim.Native.Nat.{◌<◌}
use mathlib.Core.Path.{◌≡◌, sym, ap, ◌∙◌}
use native.Mathlib.Omega.{arith}
use borrow.Author.Tests.{eq-eqb, ne_eqb, lt-ltb, le-ltb}
use lib.ListN.{take}
use Rattle.std.proofs.lemmas.Option.{MatchOption-at_some}
use Rattle.words.specs.Answer.{gives, refuses}
use Rattle.group.specs.Balise.{balises, read_all}
use Rattle.group.specs.Numbers.{number_of}
use Rattle.group.specs.Inside.{says_all_read}
use Rattle.group.specs.Judge.{judge}
use borrow.Author.Rules.{rules}
use Rattle.group.proofs.judge.Goals as goal

pub returns-then-count-eq1 : goal.returns-then-count-eq1
unfolding judge
returns-then-count-eq1 c = rw (eq-eqb c.args.group.count 1 c.if-count-eq1.true)

pub returns-then-count-gt5 : goal.returns-then-count-gt5
unfolding judge
returns-then-count-gt5 c =
    let n = c.args.group.count in
    let many : 5 < n = omega arith in
    rw (ne_eqb n 1 c.if-count-eq1.false, lt-ltb 5 n many)

pub read-requires : goal.read-requires
read-requires c =
    (search rules, MatchOption-at_some _ (λ all. all.number ≡ number_of (take c.args.group.count all.parts)) c.in-Some.all c.in-Some.is c.read_all.ensures.number_value)

pub returns : goal.returns
unfolding judge balises
returns c =
    let g = c.args.group in
    let n = g.count in
    let e : read_all (take n g.kept) ≡ gives (take n c.in-Some.all.parts) = sym c.read_all.ensures.result_value ∙ ap (says_all_read n) c.in-Some.is in
    c.read.ensures ∙ sym (rw (ne_eqb n 1 c.if-count-eq1.false, le-ltb 5 n c.if-count-gt5.false, e))

pub returns-in_default : goal.returns-in_default
unfolding judge balises
returns-in_default c =
    let g = c.args.group in
    let n = g.count in
    let e : read_all (take n g.kept) ≡ refuses 12 = sym c.read_all.ensures.result_value ∙ ap (says_all_read n) c.in_default.is in
    rw (ne_eqb n 1 c.if-count-eq1.false, le-ltb 5 n c.if-count-gt5.false, e)
