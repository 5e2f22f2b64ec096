-- `atc2_distance` returns the distance, or the refusal, as `distance` answers; every distance of
-- the table fits an `i32`.
-- Assumes nothing.
use mathlib.Core.Path.{◌∙◌, sym, ap}
use Prim.Native.Nat.{◌^◌, ◌<◌}
use Rattle.group.specs.Says.{says_measured}
use Rattle.abi.specs.Face.{returned, itself}
use Rattle.abi.proofs.Carried.{carried, as_i32}
use Rattle.group.proofs.TableDF.{small}
use Rattle.abi.proofs.distances.atc2_distance.Goals.{In-Ok}
use Rattle.abi.proofs.distances.atc2_distance.Goals as goal

-- The distance found is one of the table's.
in_table_law : (c : In-Ok) → c.in-Ok.d < 2 ^ 31
in_table_law c =
    let args = c.args in
    small args.by args.figure c.in-Ok.d (sym c.distance.ensures ∙ ap says_measured c.in-Ok.is)

pub overflow_cast-result : goal.overflow_cast-result
overflow_cast-result c = record { sfits = in_table_law c }

pub returns-in-Ok : goal.returns-in-Ok
returns-in-Ok c =
    as_i32 (in_table_law c)
    ∙ carried (returned itself) says_measured c.in-Ok.is c.distance.ensures

pub returns-in-Err : goal.returns-in-Err
returns-in-Err c = carried (returned itself) says_measured c.in-Err.is c.distance.ensures
