-- Each contract fixes its function's answer and what it leaves in a lent buffer.
-- Assumes nothing.
use mathlib.Core.Path.{◌≡◌, sym, ap, ◌∙◌}
use contract.Lifetimes.{Lfts}
use borrow.Fn.Kinds.{Dens, ended_of}
use denote.Triple.Clauses.{AtExit}
use Rattle.words.proofs.Told.{Fixed}
use Rattle.ear_bytes.specs.declared.Wrote.{Wrote}
use Rattle.ear_bytes.specs.Hearing.{Written}
use Rattle.ear_bytes.proofs.ear_bytes.Kinds as bytes_kinds
use Rattle.ear_bytes.proofs.ear_bytes.Reads as bytes_reads
use Rattle.ear_bytes.proofs.ear_in.Kinds as in_kinds
use Rattle.ear_bytes.proofs.ear_in.Reads as in_reads
use Rattle.ear_bytes.proofs.fresh.Kinds as fresh_kinds
use Rattle.ear_bytes.proofs.fresh.Reads as fresh_reads
use Rattle.ear_bytes.proofs.hear.Kinds as hear_kinds
use Rattle.ear_bytes.proofs.hear.Reads as hear_reads
use Rattle.ear_bytes.proofs.end.Kinds as end_kinds
use Rattle.ear_bytes.proofs.end.Reads as end_reads

pub ear_bytes_determined : Fixed 0 bytes_kinds.ps bytes_kinds.r bytes_reads.Post
ear_bytes_determined κs a r r' x x' p q = p.0 ∙ sym q.0

pub ear_in_determined : Fixed 1 in_kinds.ps in_kinds.r in_reads.Post
ear_in_determined κs a r r' x x' p q = p ∙ sym q

pub fresh_determined : Fixed 0 fresh_kinds.ps fresh_kinds.r fresh_reads.Post
fresh_determined κs a r r' x x' p q = p ∙ sym q

-- `buffer` is the fourth of the arguments of `hear`, the second of those of `end`.
pub hear_determined : (κs : Lfts 2) (a : Dens κs hear_kinds.ps) (r r' : Wrote)
    (x x' : AtExit (ended_of 2 hear_kinds.ps hear_kinds.r) κs)
    → hear_reads.Post κs a r x → hear_reads.Post κs a r' x' → (r ≡ r') × (x.1.1.1.0.now ≡ x'.1.1.1.0.now)
hear_determined κs a r r' x x' p q = (ap (λ (w : Written). w.wrote) (p ∙ sym q), ap (λ (w : Written). w.buffer) (p ∙ sym q))

pub end_determined : (κs : Lfts 1) (a : Dens κs end_kinds.ps) (r r' : Wrote)
    (x x' : AtExit (ended_of 1 end_kinds.ps end_kinds.r) κs)
    → end_reads.Post κs a r x → end_reads.Post κs a r' x' → (r ≡ r') × (x.1.0.now ≡ x'.1.0.now)
end_determined κs a r r' x x' p q = (ap (λ (w : Written). w.wrote) (p ∙ sym q), ap (λ (w : Written). w.buffer) (p ∙ sym q))
