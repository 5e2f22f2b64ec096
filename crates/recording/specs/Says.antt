-- What this crate's answers say: what came, a record or none.
-- Assumes nothing.
use Rattle.std.specs.Prelude.{ℕ, List, Option, Some, None}
use Rattle.recording.specs.declared.Tape.{Tape}
use Rattle.recording.specs.declared.Taken.{Taken}
use Rattle.recording.specs.declared.Ended.{Ended}
use Rattle.recording.specs.Asking.{Going, gave, used_up, Ending, one, none}

-- ---- going on

abbrev pub says_came : Option (List ℕ) → Tape → ℕ → ℕ → Going
says_came (Some bytes) tape frame bit = gave tape frame bit bytes
says_came None tape frame bit = used_up tape frame bit

abbrev pub says_taken : Taken → Going
says_taken r = says_came r.came r.tape r.frame r.bit

-- ---- the end

abbrev pub end_came : Option (List ℕ) → Tape → Ending
end_came (Some bytes) tape = one tape bytes
end_came None tape = none tape

abbrev pub says_ended : Ended → Ending
says_ended r = end_came r.came r.tape
