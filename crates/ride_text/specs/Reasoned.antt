-- What a line with its reason promises (request M-103): each line `fault n` names the first place
-- of the group that closed, and carries a reason for that n which is true of that group. So
-- something always stands behind the colon.
-- Assumes nothing.
use Rattle.std.specs.Prelude.{ℕ, ◌≡◌, List, [], ◌∷◌}
use Rattle.words.specs.Answer.{refuses}
use Rattle.group.specs.declared.Group.{Group}
use Rattle.group.specs.Judge.{judge}
use Rattle.group_reason.specs.Explain.{explain}
use Rattle.group_reason.specs.Text.{reason_text}
use Rattle.group_reason.specs.Truths.{Why}
use Rattle.ride.specs.declared.Line.{Line}
use Rattle.ride.specs.declared.Ride.{Ride}
use Rattle.ride.specs.Closing.{first_place}
use Rattle.ride.specs.Step.{end}
use Rattle.ride_text.specs.SameLines.{Said, said_by}

-- A line `PLACE fault N: ..` where this group closed.
pub record Reasoned (g : Group) (place n : ℕ) : Type 0 where
  -- The place is that of its first balise;
  pub first_place_law : place ≡ first_place g
  -- it was refused with that number;
  pub refused : judge g ≡ refuses n
  -- the reason is for that number, and true of it;
  pub why : Why g n (explain g)
  -- and it has words.
  pub words : reason_text (explain g) ≡ [] → ⊥

-- A line where this group closed: only a fault has a reason.
abbrev pub HasReason : Group → Line → Type 0
HasReason g (Line.Group s) = Unit {0}
HasReason g (Line.Fault place n) = Reasoned g place n
HasReason g (Line.Missed place) = Unit {0}
HasReason g (Line.Record number n) = Unit {0}
HasReason g (Line.Trace n) = Unit {0}

-- All of some lines.
abbrev pub AllReasoned : List Said → Type 0
AllReasoned [] = Unit {0}
AllReasoned (s ∷ ss) = HasReason s.closed s.line × AllReasoned ss

-- The lines of the end of a ride, each with the group that closed then.
abbrev pub said_at_end : Ride → List Said
said_at_end ride = said_by (end ride).closed (end ride).lines
