-- What a call wrote, and the buffer then.
-- Assumes nothing.
use Rattle.std.specs.Prelude.{ℕ, List}
use Rattle.ear_bytes.specs.declared.Wrote.{Wrote}
use Rattle.ear_bytes.specs.Hearing.{Written}

abbrev pub says : Wrote → List ℕ → Written
says wrote buffer = record { wrote = wrote; buffer = buffer }
