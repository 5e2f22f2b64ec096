-- By the row that fits; where none does, the run is the longest.
-- Assumes nothing.
use mathlib.Core.Path.{◌≡◌, sym, ap, ap₂, ◌∙◌}
use Prim.Native.Nat.{ℕ}
use native.Mathlib.Omega.{arith}
use lib.ListN.{length, take}
use Rattle.words.specs.Answer.{Outcome}
use Rattle.group_rows.specs.declared.Picked.{Picked}
use Rattle.group_rows.specs.Fitting.{says_fitted}
use Rattle.group_rows.proofs.Determined.{longest_one}
use Rattle.group.proofs.Lists.{long_take}
use Rattle.group_reason.specs.Opening.{opening_run}
use Rattle.group_reason.specs.Reason.{opens, because}
use Rattle.group_reason.specs.Explain.{why_fit}
use Rattle.group_reason.proofs.Runs.{run_is_longest}
use Rattle.group_reason.proofs.rows.why_fit.Goals as goal

pub overflow_cast-result : goal.overflow_cast-result
overflow_cast-result c =
    omega (arith, c.opening.ensures.within, long_take c.args.p c.args.n c.well_formed.0.1.0.1 c.requires)

pub returns-in-Ok : goal.returns-in-Ok
returns-in-Ok c =
    let a = c.args in
    let e = sym c.fit.ensures ∙ ap says_fitted c.in-Ok.is in
    c.why_row.ensures ∙ sym (ap (λ (v : Outcome Picked). why_fit v (take a.n a.p)) e)

pub returns-in-Err : goal.returns-in-Err
returns-in-Err c =
    let a = c.args in
    let bs = take a.n a.p in
    let e = sym c.fit.ensures ∙ ap says_fitted c.in-Err.is in
    let run : c.opening.result ≡ opening_run bs = longest_one bs c.opening.result (opening_run bs) c.opening.ensures (run_is_longest bs) in
    let many : a.n ≡ length bs = sym (long_take a.p a.n c.well_formed.0.1.0.1 c.requires) in
    ap₂ (λ (r m : ℕ). because 13 (opens r m)) run many ∙ sym (ap (λ (v : Outcome Picked). why_fit v bs) e)
