-- Reasons (document 02, M-103): "What it names is proved true, it names the first such balise, and
-- it never gives a reason for a group that was accepted", over the contracts of `explain` and of
-- `judge`; and that the number of balises which 10 and 11 name is that of the balises that joined
-- the group.
-- Assumes nothing.
use Rattle.std.specs.Prelude.{ℕ, suc, ◌<◌, ◌≡◌, ltb, Result}
use borrow.Fn.Kinds.{ended_of}
use denote.Triple.Clauses.{AtExit}
use Rattle.words.specs.Answer.{gives, pick}
use Rattle.group.specs.declared.Group.{Group}
use Rattle.group.specs.declared.GroupRefused.{GroupRefused}
use Rattle.group.specs.declared.Heard.{Heard}
use Rattle.group.specs.declared.Message.{Message}
use Rattle.group.specs.Says.{says_group_judged}
use Rattle.group_reason.specs.declared.Reason.{Reason}
use Rattle.group_reason.specs.Reason.{balises, because}
use Rattle.group_reason.specs.Says.{says_reason}
use Rattle.group_reason.specs.Truths.{Right}
use Rattle.group_reason.proofs.explain.Kinds as explain_kinds
use Rattle.group_reason.proofs.explain.Reads as explain_reads
use Rattle.ride.specs.declared.Passed.{Passed}
use Rattle.ride.specs.declared.Ride.{Ride}
use Rattle.demands.specs.ByContract.{JudgeGroup}
use Rattle.demands.specs.Steps.{OneStep, LeavesBehind, StaysOpen, NoneOpen}

-- The contract of `group_reason::explain` allows the reason r for this group.
abbrev pub ExplainGroup : Group → Reason → Type 0
ExplainGroup g r = (e : AtExit (ended_of 0 explain_kinds.ps explain_kinds.r) tt) × explain_reads.Post tt (g, tt) r e

-- After these calls of `step` so many balises have joined the group that is open: one opened it,
-- where none was open or another was left behind; each further one came while it stayed open, and
-- positions between them join nothing.
pub data Joined : ℕ → Ride → Type 0 where
  opened : (o : OneStep) (heard : Heard) → NoneOpen o → o.passed ≡ Passed.Balise heard → Joined 1 o.answer.ride
  after_another : (o : OneStep) (heard : Heard) → LeavesBehind o → o.passed ≡ Passed.Balise heard → Joined 1 o.answer.ride
  joined : {k : ℕ} (o : OneStep) (heard : Heard) → Joined k o.ride → StaysOpen o → o.passed ≡ Passed.Balise heard → Joined (suc k) o.answer.ride
  passed : {k : ℕ} (o : OneStep) → Joined k o.ride → StaysOpen o → o.passed ≡ Passed.Position → Joined k o.answer.ride

-- So many, and "255 or more" from 255 on.
abbrev pub up_to255 : ℕ → ℕ
up_to255 k = pick (ltb k 255) k 255

pub record Reasons : Type 0 where
  -- No reason for an accepted group; for a refused one a reason, for its number, that is true of
  -- it.
  pub right : (g : Group) (r : Reason) (j : Result Message GroupRefused) → ExplainGroup g r → JudgeGroup g j → Right g (says_group_judged j) (says_reason r)
  -- Only an accepted group has no reason.
  pub none_if : (g : Group) (r : Reason) (j : Result Message GroupRefused) → ExplainGroup g r → JudgeGroup g j → r ≡ Reason.None → (m : Message) × (says_group_judged j ≡ gives m)
  -- A group that k balises joined has the count k, or 255 from 255 on;
  pub counts : (k : ℕ) (ride : Ride) → Joined k ride → ride.group.count ≡ up_to255 k
  -- so one balise alone is named as one, and more than five as so many.
  pub one : (ride : Ride) (r : Reason) → Joined 1 ride → ExplainGroup ride.group r → says_reason r ≡ because 10 (balises 1)
  pub many : (k : ℕ) (ride : Ride) (r : Reason) → Joined k ride → 5 < k → ExplainGroup ride.group r → says_reason r ≡ because 11 (balises (up_to255 k))
