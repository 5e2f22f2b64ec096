-- What an answer inside this crate says, since its contract can cite nothing else. No caller needs
-- it.
-- Assumes nothing.
use Rattle.std.specs.Prelude.{eqb}
use Rattle.words.specs.Answer.{pick}
use Rattle.ride.specs.declared.Known.{Known}
use Rattle.ride.specs.declared.Line.{Line}
use Rattle.ride.specs.declared.closing.GroupVerdict.{GroupVerdict}

-- What judging a group comes to: its line, and what is known then.
pub record Judgement : Type 0 where
  pub line : Line
  pub known : Known

-- A verdict: 0 stands for no refusal, and a refused group shows its first place.
unfoldable pub says_group_verdict : GroupVerdict → Judgement
says_group_verdict v =
    record { line = pick (eqb v.fault 0) (Line.Group v.seen) (Line.Fault v.seen.place v.fault); known = v.known }
