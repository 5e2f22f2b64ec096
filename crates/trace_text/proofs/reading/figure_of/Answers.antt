-- `figure_of` takes the largest of its type for what is above it.
use borrow.Author.Tests.{le-leb, lt-leb}
use Rattle.trace_text.specs.Said.{figure_of}
use Rattle.trace_text.proofs.reading.figure_of.Goals as goal

pub returns-then-n-most : goal.returns-then-n-most
unfolding figure_of
returns-then-n-most c = simp (c.in-Ok.is, lt-leb _ _ c.if-n-most.true)

pub returns-else-n-most : goal.returns-else-n-most
unfolding figure_of
returns-else-n-most c = simp (c.in-Ok.is, le-leb _ _ c.if-n-most.false)

pub returns-in-Err-Above : goal.returns-in-Err-Above
unfolding figure_of
returns-in-Err-Above c = simp (c.in-Err-Above.is, rw c.in-Err-Above.is at c.in-Err-Above.field-0-is)

pub returns-in-Err-Odd : goal.returns-in-Err-Odd
unfolding figure_of
returns-in-Err-Odd c = simp (c.in-Err-Odd.is, rw c.in-Err-Odd.is at c.in-Err-Odd.field-0-is)
