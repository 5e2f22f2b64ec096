-- Each contract fixes the whole answer, and `write`'s every byte of the buffer: any two answers
-- that it allows are equal.
-- Assumes nothing.
use mathlib.Core.Path.{◌≡◌, refl, sym, ap, ◌∙◌}
use lib.Dec.{eqb}
use Rattle.words.specs.Answer.{Answer, gives, refuses, pick}
use Rattle.words.proofs.Told.{Fixed, told, FixedWith}
use Rattle.track_lead.specs.declared.TrackWay.{TrackWay}
use Rattle.track_lead.specs.declared.Taken.{Taken}
use Rattle.track_lead.specs.Way.{Bad, refused, too_near}
use Rattle.track_lead.specs.Feed.{Writing}
use Rattle.track_lead.specs.Says.{says_taken}
use Rattle.track_lead.proofs.fresh.Kinds as fresh_kinds
use Rattle.track_lead.proofs.fresh.Reads as fresh_reads
use Rattle.track_lead.proofs.take.Kinds as take_kinds
use Rattle.track_lead.proofs.take.Reads as take_reads
use Rattle.track_lead.proofs.until.Kinds as until_kinds
use Rattle.track_lead.proofs.until.Reads as until_reads
use Rattle.track_lead.proofs.begin.Kinds as begin_kinds
use Rattle.track_lead.proofs.begin.Reads as begin_reads
use Rattle.track_lead.proofs.passes.Kinds as passes_kinds
use Rattle.track_lead.proofs.passes.Reads as passes_reads
use Rattle.track_lead.proofs.write.Kinds as write_kinds
use Rattle.track_lead.proofs.write.Reads as write_reads

pub fresh_determined : Fixed 0 fresh_kinds.ps fresh_kinds.r fresh_reads.Post
fresh_determined κs a x y at_x at_y p q = p ∙ sym q

-- From what an answer says, the answer.
abbrev pub taken_bad : Bad → Taken
taken_bad (refused n) = pick (eqb n 18) Taken.TooHigh Taken.Lower
taken_bad too_near = Taken.TooNear

abbrev pub taken_of : Answer Bad TrackWay → Taken
taken_of (gives way) = Taken.On way
taken_of (refuses bad) = taken_bad bad

pub taken_back : (r : Taken) → taken_of (says_taken r) ≡ r
taken_back (Taken.On way) = refl
taken_back Taken.TooHigh = refl
taken_back Taken.Lower = refl
taken_back Taken.TooNear = refl

pub take_determined : Fixed 0 take_kinds.ps take_kinds.r take_reads.Post
take_determined κs a x y at_x at_y p q = told says_taken taken_of taken_back x y p q

pub until_determined : Fixed 0 until_kinds.ps until_kinds.r until_reads.Post
until_determined κs a x y at_x at_y p q = p ∙ sym q

pub begin_determined : Fixed 0 begin_kinds.ps begin_kinds.r begin_reads.Post
begin_determined κs a x y at_x at_y p q = p ∙ sym q

pub passes_determined : Fixed 0 passes_kinds.ps passes_kinds.r passes_reads.Post
passes_determined κs a x y at_x at_y p q = p ∙ sym q

pub write_determined : FixedWith 1 write_kinds.ps write_kinds.r write_reads.Post (λ κs x. x.1.1.0.now)
write_determined κs a r r' x x' p q =
    let same = p ∙ sym q in
    (ap (λ (w : Writing). record { feed = w.feed; count = w.count }) same, ap (λ (w : Writing). w.buffer) same)
