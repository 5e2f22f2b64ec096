-- The number of document 01 for each case of this crate's answers.
-- Assumes nothing.
use Rattle.words.specs.Answer.{Outcome, gives, refuses}
use Rattle.trace_text.specs.Record.{Made, made, Recording}
use Rattle.trace_text.specs.declared.MakingWent.{MakingWent}
use Rattle.trace_text.specs.declared.Recorded.{Recorded}

-- That it is made; "figure to write above 15 or above 2,047" is 2, "a short word of a telegram
-- reads 15" is 3.
abbrev pub says_making_went : MakingWent → Outcome Made
says_making_went MakingWent.Made = gives made
says_making_went MakingWent.TooLarge = refuses 2
says_making_went MakingWent.Fifteen = refuses 3

abbrev pub says_recorded : Recorded → Recording
says_recorded r = record { answer = says_making_went r.how; bytes = r.bytes }
