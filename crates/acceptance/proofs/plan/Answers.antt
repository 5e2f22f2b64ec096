-- The tolerance is judged, then the bytes, then the neighbours.
-- Assumes nothing.
use mathlib.Core.Path.{◌≡◌, sym, ap, ◌∙◌}
use mathlib.Core.Bool.{true, false}
use lib.Dec.{leb}
use borrow.Author.Tests.{le-leb, lt-leb, not-true, not-false}
use Rattle.words.specs.Answer.{gives}
use Rattle.acceptance.specs.declared.Acceptance.{Acceptance}
use Rattle.acceptance.specs.Plan.{well_formed, entries_of, apart, good, plan}
use Rattle.acceptance.specs.Says.{says_planned}
use Rattle.acceptance.proofs.Cases.{few, apart_is, plan_is}
use Rattle.acceptance.proofs.plan.Goals.{After-apart, Else-not-well_formed, Else-tolerance-gt500}
use Rattle.acceptance.proofs.plan.Goals as goal

-- The tolerance and the bytes are good.
tolerance_good : (c : Else-tolerance-gt500) → leb c.args.tolerance 500 ≡ true
tolerance_good c = le-leb c.args.tolerance 500 c.if-tolerance-gt500.false

bytes_good : (c : Else-not-well_formed) → well_formed c.args.bytes.now ≡ true
bytes_good c = sym c.well_formed-2.ensures ∙ not-false _ c.if-not-well_formed.false-raw

-- The neighbours as they were judged.
neighbours : (c : After-apart) → let a = c.args in
    c.apart.result ≡ apart a.tolerance (entries_of a.bytes.now)
neighbours c =
    let a = c.args in
    c.apart.ensures ∙ apart_is a.bytes.now a.tolerance c.entries-entries.result c.entries-entries.ensures

pub returns-then-tolerance-gt500 : goal.returns-then-tolerance-gt500
unfolding plan
returns-then-tolerance-gt500 c =
    let a = c.args in
    let is : leb a.tolerance 500 ≡ false = lt-leb a.tolerance 500 c.if-tolerance-gt500.true in
    ap says_planned c.refused.ensures ∙ simp is

pub returns-then-not-well_formed : goal.returns-then-not-well_formed
unfolding plan
returns-then-not-well_formed c =
    let is : well_formed c.args.bytes.now ≡ false = sym c.well_formed-2.ensures ∙ not-true _ c.if-not-well_formed.true-raw in
    ap says_planned c.refused-then-not-well_formed.ensures ∙ simp (tolerance_good (goal.at-returns-then-not-well_formed c).Else-tolerance-gt500, is)

pub entries-entries-requires : goal.entries-entries-requires
entries-entries-requires c = few c.args.bytes.now (bytes_good c)

pub apart-requires : goal.apart-requires
apart-requires c = few c.args.bytes.now (bytes_good (goal.at-apart-requires c).Else-not-well_formed)

pub returns-then-not-apart : goal.returns-then-not-apart
unfolding plan
returns-then-not-apart c =
    let a = c.args in
    let is : apart a.tolerance (entries_of a.bytes.now) ≡ false = sym (neighbours (goal.at-returns-then-not-apart c).After-apart) ∙ not-true _ c.if-not-apart.true-raw in
    ap says_planned c.refused-then-not-apart.ensures ∙ simp (tolerance_good (goal.at-returns-then-not-apart c).Else-tolerance-gt500, bytes_good (goal.at-returns-then-not-apart c).Else-not-well_formed, is)

pub returns : goal.returns
unfolding plan
returns c =
    let a = c.args in
    let is : apart a.tolerance (entries_of a.bytes.now) ≡ true = sym (neighbours (goal.at-returns c).After-apart) ∙ not-false _ c.if-not-apart.false-raw in
    ap (λ (p : Acceptance). record { answer = gives good; plan = p }) (c.begun.ensures ∙ plan_is a.bytes.now a.tolerance c.entries-entries.result c.entries-entries.ensures)
    ∙ simp (tolerance_good (goal.at-returns c).Else-tolerance-gt500, bytes_good (goal.at-returns c).Else-not-well_formed, is)
