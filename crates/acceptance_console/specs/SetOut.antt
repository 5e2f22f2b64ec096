-- A run that sets out.
-- Assumes nothing.
use Rattle.std.specs.Prelude.{true}
use Rattle.ride.specs.State.{fresh_ride}
use Rattle.acceptance.specs.declared.Acceptance.{Acceptance}
use Rattle.acceptance_text.specs.declared.Going.{Going}
use Rattle.acceptance_console.specs.declared.blocks.Compared.{Compared}

-- Before the first record: a fresh ride, a run over the plan that has not begun, and nothing wrong.
unfoldable pub set_out : Acceptance → Compared
set_out run =
    let going : Going = record { ride = fresh_ride; run = run; troubles = record { faults = 0; refused = 0 } } in
    record { going = going; whole = true }
