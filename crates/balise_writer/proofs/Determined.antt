-- Each contract fixes the whole answer and every byte of the buffer: any two answers that it allows
-- are equal, and so are the buffers then.
-- Assumes nothing.
use mathlib.Core.Path.{◌≡◌, refl, sym, ap, ◌∙◌}
use Prim.Native.Nat.{ℕ}
use lib.Dec.{eqb}
use contract.Lifetimes.{Lfts}
use borrow.Fn.Kinds.{Dens, ended_of}
use denote.Triple.Clauses.{AtExit}
use Rattle.words.specs.Answer.{Outcome, gives, refuses, pick}
use Rattle.balise_writer.specs.Write.{Writing}
use Rattle.balise_writer.specs.Says.{says_answer, says_written}
use Rattle.balise_writer.specs.declared.Written.{Written}
use Rattle.balise_writer.proofs.write.Kinds as write_kinds
use Rattle.balise_writer.proofs.write.Reads as write_reads

-- From what an answer says, the answer.
abbrev pub written_of : Outcome ℕ → Written
written_of (gives n) = Written.Bytes n
written_of (refuses n) =
    pick (eqb n 2) Written.TooLarge (pick (eqb n 3) Written.Fifteen (pick (eqb n 4) Written.NotSeven (pick (eqb n 20) Written.Count Written.Short)))

pub written_back : (r : Written) → written_of (says_answer r) ≡ r
written_back (Written.Bytes n) = refl
written_back Written.TooLarge = refl
written_back Written.Fifteen = refl
written_back Written.NotSeven = refl
written_back Written.Count = refl
written_back Written.Short = refl

pub write_determined : (κs : Lfts 1) (a : Dens κs write_kinds.ps) (r r' : Written)
    (x x' : AtExit (ended_of 1 write_kinds.ps write_kinds.r) κs)
    → write_reads.Post κs a r x → write_reads.Post κs a r' x'
    → (r ≡ r') × (x.1.1.1.1.1.1.0.now ≡ x'.1.1.1.1.1.1.0.now)
write_determined κs a r r' x x' p q =
    let same : says_written r x.1.1.1.1.1.1.0.now ≡ says_written r' x'.1.1.1.1.1.1.0.now = p ∙ sym q in
    (sym (written_back r) ∙ ap (λ (w : Writing). written_of w.answer) same ∙ written_back r', ap (λ (w : Writing). w.buffer) same)
