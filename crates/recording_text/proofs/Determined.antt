-- Each contract fixes the answer and every byte of the buffer: any two that it allows are equal.
-- Assumes nothing.
use mathlib.Core.Path.{◌≡◌, sym, ap, ◌∙◌}
use Prim.Native.Nat.{ℕ}
use mathlib.Core.List.{List}
use Rattle.words.proofs.Told.{Fixed, FixedWith}
use Rattle.text.specs.Put.{Put, came}
use Rattle.recording_text.proofs.no_frames.Kinds as no_frames_kinds
use Rattle.recording_text.proofs.no_frames.Reads as no_frames_reads
use Rattle.recording_text.proofs.count_frames.Kinds as count_frames_kinds
use Rattle.recording_text.proofs.count_frames.Reads as count_frames_reads
use Rattle.recording_text.proofs.no_records.Kinds as no_records_kinds
use Rattle.recording_text.proofs.no_records.Reads as no_records_reads
use Rattle.recording_text.proofs.count_record.Kinds as count_record_kinds
use Rattle.recording_text.proofs.count_record.Reads as count_record_reads
use Rattle.recording_text.proofs.put_first.Kinds as put_first_kinds
use Rattle.recording_text.proofs.put_first.Reads as put_first_reads
use Rattle.recording_text.proofs.put_end.Kinds as put_end_kinds
use Rattle.recording_text.proofs.put_end.Reads as put_end_reads

pub no_frames_determined : Fixed 0 no_frames_kinds.ps no_frames_kinds.r no_frames_reads.Post
no_frames_determined κs a r r' x x' p q = p ∙ sym q

pub count_frames_determined : Fixed 1 count_frames_kinds.ps count_frames_kinds.r count_frames_reads.Post
count_frames_determined κs a r r' x x' p q = p ∙ sym q

pub no_records_determined : Fixed 0 no_records_kinds.ps no_records_kinds.r no_records_reads.Post
no_records_determined κs a r r' x x' p q = p ∙ sym q

pub count_record_determined : Fixed 0 count_record_kinds.ps count_record_kinds.r count_record_reads.Post
count_record_determined κs a r r' x x' p q = p ∙ sym q

-- A place and a buffer that came of the same text.
same_put : {r r' : ℕ} {x x' : List ℕ} → came r x ≡ came r' x' → (r ≡ r') × (x ≡ x')
same_put e = (ap (λ (v : Put). v.next) e, ap (λ (v : Put). v.buffer) e)

pub put_first_determined : FixedWith 1 put_first_kinds.ps put_first_kinds.r put_first_reads.Post (λ κs x. x.1.1.0.now)
put_first_determined κs a r r' x x' p q = same_put (p ∙ sym q)

pub put_end_determined : FixedWith 1 put_end_kinds.ps put_end_kinds.r put_end_reads.Post (λ κs x. x.1.1.1.0.now)
put_end_determined κs a r r' x x' p q = same_put (p ∙ sym q)
