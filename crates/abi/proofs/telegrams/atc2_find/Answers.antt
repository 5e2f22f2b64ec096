-- `atc2_find` returns 0 and leaves the place with its telegram, or returns the refusal and leaves
-- `out`, as `find` answers.
-- Assumes nothing.
use mathlib.Core.Path.{◌∙◌, ap}
use Prim.Native.Nat.{ℕ}
use mathlib.Core.List.{[], ◌∷◌}
use Rattle.std.specs.Prelude.{Err}
use Rattle.telegram.specs.Says.{says_found}
use Rattle.abi.specs.Face.{found_number, found_put}
use Rattle.abi.proofs.Carried.{faced}
use Rattle.abi.proofs.telegrams.atc2_find.Goals as goal

pub returns-in-Ok : goal.returns-in-Ok
returns-in-Ok c =
    let (status, out) = faced says_found found_number found_put c.args.out.now c.in-Ok.is c.find.ensures in
    record { value = status; out_after = ap (λ (n : ℕ). c.in-Ok.found.place ∷ n ∷ []) c.as_one.ensures.0 ∙ out }

pub returns-in-Err-NotSeven : goal.returns-in-Err-NotSeven
returns-in-Err-NotSeven c =
    let both = faced says_found found_number found_put c.args.out.now (c.in-Err-NotSeven.is ∙ ap Err c.in-Err-NotSeven.field-0-is) c.find.ensures in
    record { value = both.0; out_after = both.1 }

pub returns-in-Err-Beyond : goal.returns-in-Err-Beyond
returns-in-Err-Beyond c =
    let both = faced says_found found_number found_put c.args.out.now (c.in-Err-Beyond.is ∙ ap Err c.in-Err-Beyond.field-0-is) c.find.ensures in
    record { value = both.0; out_after = both.1 }

pub returns-in-Err-NoPlace : goal.returns-in-Err-NoPlace
returns-in-Err-NoPlace c =
    let both = faced says_found found_number found_put c.args.out.now (c.in-Err-NoPlace.is ∙ ap Err c.in-Err-NoPlace.field-0-is) c.find.ensures in
    record { value = both.0; out_after = both.1 }
