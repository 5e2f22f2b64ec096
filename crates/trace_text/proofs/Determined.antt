-- Each contract fixes its function's whole answer, and every byte of the buffer: any two that it
-- allows are equal.
-- Assumes nothing.
use mathlib.Core.Path.{◌≡◌, refl, sym, ap, ◌∙◌}
use lib.Dec.{eqb}
use Rattle.words.specs.Answer.{Outcome, gives, refuses, pick}
use Rattle.words.proofs.Told.{Fixed, FixedWith}
use Rattle.trace_text.specs.Record.{Made, Recording}
use Rattle.trace_text.specs.Says.{says_making_went, says_recorded}
use Rattle.trace_text.specs.declared.MakingWent.{MakingWent}
use Rattle.trace_text.specs.declared.Recorded.{Recorded}
use Rattle.trace_text.proofs.read.Kinds as read_kinds
use Rattle.trace_text.proofs.read.Reads as read_reads
use Rattle.trace_text.proofs.record_of.Kinds as record_of_kinds
use Rattle.trace_text.proofs.record_of.Reads as record_of_reads
use Rattle.trace_text.proofs.thing_at.Kinds as thing_at_kinds
use Rattle.trace_text.proofs.thing_at.Reads as thing_at_reads
use Rattle.trace_text.proofs.put_record.Kinds as put_record_kinds
use Rattle.trace_text.proofs.put_record.Reads as put_record_reads
use Rattle.trace_text.proofs.put_thing.Kinds as put_thing_kinds
use Rattle.trace_text.proofs.put_thing.Reads as put_thing_reads
use Rattle.text.proofs.Putting.{same_put}

-- From what an answer says, the answer.
abbrev pub how_of : Outcome Made → MakingWent
how_of (gives m) = MakingWent.Made
how_of (refuses n) = pick (eqb n 2) MakingWent.TooLarge MakingWent.Fifteen

pub how_back : (h : MakingWent) → how_of (says_making_went h) ≡ h
how_back MakingWent.Made = refl
how_back MakingWent.TooLarge = refl
how_back MakingWent.Fifteen = refl

abbrev pub recorded_of : Recording → Recorded
recorded_of r = record { bytes = r.bytes; how = how_of r.answer }

pub recorded_back : (r : Recorded) → recorded_of (says_recorded r) ≡ r
recorded_back r = ap (λ (h : MakingWent). record { bytes = r.bytes; how = h }) (how_back r.how)

pub read_determined : Fixed 0 read_kinds.ps read_kinds.r read_reads.Post
read_determined κs a r r' x x' p q = p ∙ sym q

pub record_of_determined : Fixed 0 record_of_kinds.ps record_of_kinds.r record_of_reads.Post
record_of_determined κs a r r' x x' p q = sym (recorded_back r) ∙ ap recorded_of (p ∙ sym q) ∙ recorded_back r'

pub thing_at_determined : Fixed 1 thing_at_kinds.ps thing_at_kinds.r thing_at_reads.Post
thing_at_determined κs a r r' x x' p q = p ∙ sym q

pub put_record_determined : FixedWith 1 put_record_kinds.ps put_record_kinds.r put_record_reads.Post (λ κs x. x.1.1.1.0.now)
put_record_determined κs a r r' x x' p q = same_put (p ∙ sym q)

pub put_thing_determined : FixedWith 1 put_thing_kinds.ps put_thing_kinds.r put_thing_reads.Post (λ κs x. x.1.1.0.now)
put_thing_determined κs a r r' x x' p q = same_put (p ∙ sym q)
