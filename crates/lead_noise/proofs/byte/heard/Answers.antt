-- `heard` flips the bit exactly where the test that the specification names holds.
use borrow.Author.Rules.{rules}
use borrow.Author.Tests.{lt-ltb, le-ltb}
use native.Mathlib.Omega.{arith}
use Rattle.lead_noise.proofs.byte.heard.Goals as goal

pub returns-then-x-chance : goal.returns-then-x-chance
returns-then-x-chance c = record { value = simp (lt-ltb _ _ c.if-x-chance.true); upper_bound = omega arith }

pub returns : goal.returns
returns c = record { value = simp (le-ltb _ _ c.if-x-chance.false); upper_bound = search rules }
