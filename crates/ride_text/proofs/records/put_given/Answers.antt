-- `put_given` puts the lines that a record gives, or the line of its refusal.
use mathlib.Core.Path.{sym, ap, ◌∙◌}
use mathlib.Core.List.{List}
use Prim.Native.Nat.{ℕ}
use Rattle.text.specs.Put.{put}
use Rattle.ride.specs.declared.Line.{Line}
use Rattle.std.specs.Prelude.{Result}
use Rattle.ride.specs.declared.Lines.{Lines}
use Rattle.ride.specs.declared.Wrong.{Wrong}
use Rattle.ride.specs.Over.{lines_for}
use Rattle.ride.specs.Says.{says_wrong, says_given}
use Rattle.ride_text.specs.Text.{line_text, lines_text}
use Rattle.ride_text.proofs.Texts.{one_is, one_fits}
use Rattle.ride_text.proofs.records.put_given.Goals as goal

pub put_text-requires : goal.put_text-requires
put_text-requires c =
    let a = c.args in
    one_fits a.reasons a.closed (Line.Record a.number c.refusal.result) a.out.now a.at c.requires

pub returns-in-Err : goal.returns-in-Err
returns-in-Err c =
    let a = c.args in
    c.put_text.ensures
    ∙ ap (λ (v : ℕ). put (line_text a.reasons a.closed (Line.Record a.number v)) a.out.now a.at) c.refusal.ensures
    ∙ ap (λ (t : List ℕ). put t a.out.now a.at) (one_is a.reasons a.closed (Line.Record a.number (says_wrong c.in-Err.wrong)))
    ∙ ap (λ (v : Result Lines Wrong). put (lines_text a.reasons a.closed (lines_for a.number (says_given v))) a.out.now a.at) (sym c.in-Err.is)

pub returns-in-Ok : goal.returns-in-Ok
returns-in-Ok c =
    let a = c.args in
    c.put_lines.ensures
    ∙ ap (λ (v : Result Lines Wrong). put (lines_text a.reasons a.closed (lines_for a.number (says_given v))) a.out.now a.at) (sym c.in-Ok.is)
