-- `atc2_judge` returns 1 and leaves what was read, or returns 2 or the refusal and leaves `out`, as
-- `judge` answers.
-- Assumes nothing.
use mathlib.Core.Path.{◌∙◌, ap}
use Prim.Native.Nat.{ℕ}
use mathlib.Core.List.{[], ◌∷◌}
use Rattle.contact.specs.Says.{says_judged}
use Rattle.abi.specs.Contacts.{judged_number, judged_put}
use Rattle.abi.proofs.Carried.{faced}
use Rattle.abi.proofs.contacts.atc2_judge.Goals as goal

pub returns-in-Read : goal.returns-in-Read
returns-in-Read c =
    let (status, out) =
    faced says_judged judged_number judged_put c.args.out.now c.in-Read.is c.judge.ensures in
    record { value = status; out_after = ap (λ (n : ℕ). n ∷ c.in-Read.first ∷ c.in-Read.count ∷ []) c.as_one.ensures.0 ∙ out }

pub returns-in-Marker : goal.returns-in-Marker
returns-in-Marker c =
    let both = faced says_judged judged_number judged_put c.args.out.now c.in-Marker.is c.judge.ensures in
    record { value = both.0; out_after = both.1 }

pub returns-in-NotSeven : goal.returns-in-NotSeven
returns-in-NotSeven c =
    let both = faced says_judged judged_number judged_put c.args.out.now c.in-NotSeven.is c.judge.ensures in
    record { value = both.0; out_after = both.1 }

pub returns-in-Beyond : goal.returns-in-Beyond
returns-in-Beyond c =
    let both = faced says_judged judged_number judged_put c.args.out.now c.in-Beyond.is c.judge.ensures in
    record { value = both.0; out_after = both.1 }

pub returns-in-Differ : goal.returns-in-Differ
returns-in-Differ c =
    let both = faced says_judged judged_number judged_put c.args.out.now c.in-Differ.is c.judge.ensures in
    record { value = both.0; out_after = both.1 }

pub returns-in-Neither : goal.returns-in-Neither
returns-in-Neither c =
    let both = faced says_judged judged_number judged_put c.args.out.now c.in-Neither.is c.judge.ensures in
    record { value = both.0; out_after = both.1 }
