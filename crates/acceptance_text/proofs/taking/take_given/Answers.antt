-- A refused record has no text and is counted; else its lines are taken.
-- Assumes nothing.
use Prim.Native.Nat.{ℕ}
use mathlib.Core.Path.{sym, ap, ap₂, ◌∙◌}
use Rattle.text.specs.Put.{Put}
use Rattle.std.specs.Prelude.{Result}
use Rattle.ride.specs.declared.Lines.{Lines}
use Rattle.ride.specs.declared.Wrong.{Wrong}
use Rattle.ride.specs.Over.{lines_for}
use Rattle.ride.specs.Says.{says_given}
use Rattle.acceptance.specs.Taking.{take_line}
use Rattle.acceptance_text.specs.Taking.{started, take_one, take_all}
use Rattle.acceptance_text.specs.Inside.{writes}
use Rattle.acceptance_text.proofs.Takings.{put_nothing}
use Rattle.acceptance_text.proofs.taking.take_given.Goals as goal

pub returns-in-Err : goal.returns-in-Err
unfolding take_all take_one take_line
returns-in-Err c =
    let a = c.args in
    ap₂ (λ (n : ℕ) (p : Put). record { run = a.run; troubles = record { faults = a.troubles.faults; refused = n }; text = p }) c.one_more.ensures (put_nothing a.buf.now a.at)
    ∙ sym (ap (λ (g : Result Lines Wrong). writes (take_all (started a.run a.troubles) (lines_for 0 (says_given g))) a.buf.now a.at) c.in-Err.is)

pub returns-in-Ok : goal.returns-in-Ok
returns-in-Ok c =
    let a = c.args in
    c.take_lines.ensures
    ∙ sym (ap (λ (g : Result Lines Wrong). writes (take_all (started a.run a.troubles) (lines_for 0 (says_given g))) a.buf.now a.at) c.in-Ok.is)
