-- What each case of this crate's answers says.
-- Assumes nothing.
use Rattle.std.specs.Prelude.{ℕ, true, false, List, Result, Ok, Err}
use Rattle.words.specs.Answer.{Outcome, gives, refuses}
use Rattle.settings.specs.declared.Bad.{Bad}
use Rattle.settings.specs.Says.{says_bad}
use Rattle.lead_text.specs.declared.HowFar.{HowFar}
use Rattle.lead_text.specs.declared.Written.{Written}
use Rattle.lead_text.specs.List.{Wrote, Telling}

-- All that was lent is used, or the room is; settings that are refused have their own number.
abbrev pub says_how_far : Result HowFar Bad → Outcome Wrote
says_how_far (Ok (HowFar.Over bytes)) = gives (record { bytes = bytes; all = true })
says_how_far (Ok (HowFar.Full bytes)) = gives (record { bytes = bytes; all = false })
says_how_far (Err bad) = refuses (says_bad bad)

-- A listing: what was written, the ride and the buffer then.
abbrev pub says_written : Written → List ℕ → Telling
says_written w out = record { answer = says_how_far w.how; underway = w.underway; out = out }
