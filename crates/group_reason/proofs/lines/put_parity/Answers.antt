-- By the parity.
-- Assumes nothing.
use Rattle.text.proofs.Standing.{by_case}
use mathlib.Core.List.{List}
use Prim.Native.Nat.{ℕ}
use Rattle.words.specs.declared.Parity.{Parity}
use Rattle.words.specs.Why.{why, are}
use Rattle.text.specs.Text.{digits, decimal}
use Rattle.group_reason.specs.Text.{refused_as}
use Rattle.group_reason.proofs.lines.put_parity.Goals as goal

-- A word refused with 1, by its parity.
abbrev refused : Parity → List ℕ
refused p = refused_as (why 1 (are p))

pub returns-in-Odd : goal.returns-in-Odd
unfolding refused_as decimal digits
returns-in-Odd c = by_case refused _ _ c.in-Odd.is c.put.ensures

pub returns-in-Even : goal.returns-in-Even
unfolding refused_as decimal digits
returns-in-Even c = by_case refused _ _ c.in-Even.is c.put-in-Even.ensures
