-- Both counts where either is above 0, and else nothing.
-- Assumes nothing.
use mathlib.Core.Path.{ap, ◌∙◌}
use mathlib.Core.List.{List}
use Prim.Native.Nat.{ℕ}
use native.Mathlib.Omega.{arith}
use Rattle.text.specs.Put.{put}
use Rattle.text.proofs.Standing.{room_as}
use Rattle.acceptance_text.proofs.Pieces.{trouble_some, trouble_none}
use Rattle.acceptance_text.proofs.lines.spell_trouble.Goals as goal

pub spell_counts-requires : goal.spell_counts-requires
spell_counts-requires c =
    let a = c.args in
    room_as a.buf.now a.at (trouble_some a.faults a.records (omega (arith, c.if-faults-gt0.true))) c.requires

pub returns-then-faults-gt0 : goal.returns-then-faults-gt0
returns-then-faults-gt0 c =
    let a = c.args in
    c.spell_counts.ensures ∙ ap (λ (t : List ℕ). put t a.buf.now a.at) (trouble_some a.faults a.records (omega (arith, c.if-faults-gt0.true)))

pub spell_counts-requires-then-records-gt0 : goal.spell_counts-requires-then-records-gt0
spell_counts-requires-then-records-gt0 c =
    let a = c.args in
    room_as a.buf.now a.at (trouble_some a.faults a.records (omega (arith, c.if-records-gt0.true))) c.requires

pub returns-then-records-gt0 : goal.returns-then-records-gt0
returns-then-records-gt0 c =
    let a = c.args in
    c.spell_counts-then-records-gt0.ensures ∙ ap (λ (t : List ℕ). put t a.buf.now a.at) (trouble_some a.faults a.records (omega (arith, c.if-records-gt0.true)))

pub returns : goal.returns
returns c =
    let a = c.args in
    c.put.ensures ∙ ap (λ (t : List ℕ). put t a.buf.now a.at) (trouble_none a.faults a.records (omega (arith, c.if-records-gt0.false, c.if-faults-gt0.false)))
