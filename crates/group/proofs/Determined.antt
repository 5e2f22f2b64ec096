-- Each contract fixes its function's whole answer: any two answers that it allows are equal.
-- Assumes nothing.
use Prim.Native.Nat.{ℕ}
use mathlib.Core.Path.{◌≡◌, refl, sym, ◌∙◌}
use lib.Dec.{eqb}
use Rattle.std.specs.Prelude.{Result, Ok, Err}
use Rattle.words.specs.Answer.{Outcome, gives, refuses, pick}
use Rattle.words.proofs.Told.{Fixed, told}
use Rattle.group.specs.declared.NoDistance.{NoDistance}
use Rattle.group.specs.declared.Message.{Message}
use Rattle.group.specs.declared.GroupRefused.{GroupRefused}
use Rattle.group.specs.Says.{says_measured, says_group_judged}
use Rattle.group.proofs.distance.Kinds as distance_kinds
use Rattle.group.proofs.distance.Reads as distance_reads
use Rattle.group.proofs.no_increase.Kinds as no_increase_kinds
use Rattle.group.proofs.no_increase.Reads as no_increase_reads
use Rattle.group.proofs.speed.Kinds as speed_kinds
use Rattle.group.proofs.speed.Reads as speed_reads
use Rattle.group.proofs.judge.Kinds as judge_kinds
use Rattle.group.proofs.judge.Reads as judge_reads

-- From what an answer says, the answer.
pub measured : Outcome ℕ → Result ℕ NoDistance
measured (gives d) = Ok d
measured (refuses n) = Err (record {})

pub measured_back : (r : Result ℕ NoDistance) → measured (says_measured r) ≡ r
unfolding measured
measured_back (Ok d) = refl
measured_back (Err e) = refl

pub judged : Outcome Message → Result Message GroupRefused
judged (gives m) = Ok m
judged (refuses n) =
    pick (eqb n 10) (Err GroupRefused.One)
    (pick (eqb n 11) (Err GroupRefused.Many)
    (pick (eqb n 12) (Err GroupRefused.Unread)
    (pick (eqb n 13) (Err GroupRefused.NoRow) (Err GroupRefused.NoDistance))))

pub judged_back : (r : Result Message GroupRefused) → judged (says_group_judged r) ≡ r
unfolding judged
judged_back (Ok m) = refl
judged_back (Err GroupRefused.One) = refl
judged_back (Err GroupRefused.Many) = refl
judged_back (Err GroupRefused.Unread) = refl
judged_back (Err GroupRefused.NoRow) = refl
judged_back (Err GroupRefused.NoDistance) = refl

pub distance_determined : Fixed 0 distance_kinds.ps distance_kinds.r distance_reads.Post
distance_determined κs a r r' x x' p q = told says_measured measured measured_back r r' p q

pub no_increase_determined : Fixed 0 no_increase_kinds.ps no_increase_kinds.r no_increase_reads.Post
no_increase_determined κs a r r' x x' p q = p ∙ sym q

pub speed_determined : Fixed 0 speed_kinds.ps speed_kinds.r speed_reads.Post
speed_determined κs a r r' x x' p q = p ∙ sym q

pub judge_determined : Fixed 0 judge_kinds.ps judge_kinds.r judge_reads.Post
judge_determined κs a r r' x x' p q = told says_group_judged judged judged_back r r' p q
