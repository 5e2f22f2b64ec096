-- A piece of the lead or its end, by one loop, inside this crate.
-- Assumes nothing.
use Rattle.std.specs.Prelude.{ℕ, Bool, true, false, List}
use Rattle.words.specs.Answer.{pick}
use Rattle.settings.specs.declared.Store.{Store}
use Rattle.recording.specs.declared.Tape.{Tape}
use Rattle.recording.specs.Asking.{Going, go_on}
use Rattle.ear_bytes.specs.declared.Hearing.{Hearing}
use Rattle.ear_bytes.specs.Hearing.{at_end, Written, hear, end}

-- What comes next: at the lead's end, or of a piece.
abbrev pub coming : Bool → Store → List ℕ → Tape → ℕ → ℕ → Going
coming true store lead = at_end
coming false store lead = go_on store lead

-- The lead's end, or a piece of the lead heard.
abbrev pub either : Bool → Hearing → Store → List ℕ → List ℕ → Written
either ends hearing store lead buffer = pick ends (end hearing buffer) (hear hearing store lead buffer)
