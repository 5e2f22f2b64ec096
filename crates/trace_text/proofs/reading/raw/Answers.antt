-- `raw` takes the four bytes one after the other.
use mathlib.Core.Path.{sym, ◌∙◌}
use borrow.Author.Tests.{not-true, not-false}
use Rattle.trace_text.specs.Said.{raw}
use Rattle.trace_text.proofs.reading.raw.Goals as goal

pub returns-then-not-is_raw : goal.returns-then-not-is_raw
unfolding raw
returns-then-not-is_raw c = simp (sym c.is_raw.ensures ∙ not-true c.is_raw.result c.if-not-is_raw.true-raw)

pub returns-in_default : goal.returns-in_default
unfolding raw
returns-in_default c = simp (sym c.is_raw.ensures ∙ not-false c.is_raw.result c.if-not-is_raw.false-raw, c.in_default.is)

pub returns-in_default-b : goal.returns-in_default-b
unfolding raw
returns-in_default-b c = simp (sym c.is_raw.ensures ∙ not-false c.is_raw.result c.if-not-is_raw.false-raw, c.in-Some.is, c.in_default-b.is)

pub returns-in_default-c : goal.returns-in_default-c
unfolding raw
returns-in_default-c c = simp (sym c.is_raw.ensures ∙ not-false c.is_raw.result c.if-not-is_raw.false-raw, c.in-Some.is, c.in-Some-b.is, c.in_default-c.is)

pub returns-in_default-d : goal.returns-in_default-d
unfolding raw
returns-in_default-d c = simp (sym c.is_raw.ensures ∙ not-false c.is_raw.result c.if-not-is_raw.false-raw, c.in-Some.is, c.in-Some-b.is, c.in-Some-c.is, c.in_default-d.is)

pub returns : goal.returns
unfolding raw
returns c = simp (sym c.is_raw.ensures ∙ not-false c.is_raw.result c.if-not-is_raw.false-raw, c.in-Some.is, c.in-Some-b.is, c.in-Some-c.is, c.in-Some-d.is)
