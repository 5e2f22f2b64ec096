-- Demand 1 for the antenna: "every call ends with a named reading or a numbered refusal from
-- document 01, given exactly under the condition written there". The condition is that of
-- crates/demands/specs/Table.antt; `fresh`, `go_on` and `end` always answer.
-- Assumes nothing.
use Rattle.std.specs.Prelude.{ℕ, List, [], ◌∷◌}
use Rattle.antenna.specs.declared.Ear.{Ear}
use Rattle.antenna.specs.declared.Until.{Until}
use Rattle.antenna.specs.Piece.{first}
use Rattle.antenna.specs.Says.{says_until}
use Rattle.demands.specs.Rules.{row, Decided, Is}
use Rattle.demands.specs.Table.{beyond}
use Rattle.recording_laws.specs.Calls.{HearPiece}

-- `hear_piece` refuses with 5 exactly if the piece lies beyond the buffer or has more than
-- 16,777,216 bits; otherwise it tells what comes first in it.
abbrev pub Demand1 : Type 0
Demand1 =
    (ear : Ear) (b : List ℕ) (start len s t : ℕ) (r : Until) → HearPiece ear b start len s t r
    → Decided (Is (first b s t ear start len)) (row 5 (beyond b start len) ∷ []) (says_until r)
