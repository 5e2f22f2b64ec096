-- Each contract fixes its function's whole answer and every byte of what it was lent: any two
-- answers that it allows are equal, and so are the buffers then.
-- Assumes nothing.
use Prim.Native.Nat.{ℕ}
use mathlib.Core.Path.{◌≡◌, refl, sym, ap, ◌∙◌}
use mathlib.Core.List.{List}
use Rattle.words.specs.Answer.{Outcome, gives, refuses}
use Rattle.ride.specs.declared.TraceRefused.{TraceRefused}
use Rattle.ride.proofs.Determined.{trace_refused_of, trace_refused_back}
use Rattle.std.specs.Prelude.{Result, Ok, Err}
use Rattle.compaction.specs.declared.Compacted.{Compacted}
use Rattle.compaction.specs.declared.Block.{Block}
use Rattle.compaction.specs.Compact.{Compaction, Settling}
use Rattle.compaction.specs.Says.{says_size, says_compacted, says_block}
use Rattle.compaction.proofs.compact.Kinds as compact_kinds
use Rattle.compaction.proofs.compact.Reads as compact_reads
use Rattle.compaction.proofs.compact_block.Kinds as block_kinds
use Rattle.compaction.proofs.compact_block.Reads as block_reads
use Rattle.words.proofs.Told.{FixedWith}

-- From what an answer says, the answer.
abbrev pub size_of : Outcome ℕ → Result ℕ TraceRefused
size_of (gives n) = Ok n
size_of (refuses n) = Err (trace_refused_of n)

pub size_back : (s : Result ℕ TraceRefused) → size_of (says_size s) ≡ s
size_back (Ok n) = refl
size_back (Err r) = ap Err (trace_refused_back r)

abbrev pub compacted_of : Compaction → Compacted
compacted_of c = record { ride = c.ride; size = size_of c.answer }

pub compacted_back : (r : Compacted) (b : List ℕ) → compacted_of (says_compacted r b) ≡ r
compacted_back r b = ap (λ (s : Result ℕ TraceRefused). record { ride = r.ride; size = s }) (size_back r.size)

abbrev pub block_of : Settling → Block
block_of s = record { waiting = s.waiting; size = size_of s.answer }

pub block_back : (r : Block) (b : List ℕ) → block_of (says_block r b) ≡ r
block_back r b = ap (λ (s : Result ℕ TraceRefused). record { waiting = r.waiting; size = s }) (size_back r.size)

-- two compactions that say the same are the same
pub same_compaction : (r r' : Compacted) (b b' : List ℕ) → says_compacted r b ≡ says_compacted r' b' → (r ≡ r') × (b ≡ b')
same_compaction r r' b b' e = (sym (compacted_back r b) ∙ ap compacted_of e ∙ compacted_back r' b', ap (λ (c : Compaction). c.buffer) e)

pub compact_determined : FixedWith 1 compact_kinds.ps compact_kinds.r compact_reads.Post (λ κs x. x.1.1.0.now)
compact_determined κs a r r' x x' p q = same_compaction r r' x.1.1.0.now x'.1.1.0.now (p ∙ sym q)

pub compact_block_determined : FixedWith 1 block_kinds.ps block_kinds.r block_reads.Post (λ κs x. x.1.1.0.now)
compact_block_determined κs a r r' x x' p q =
    let same : says_block r x.1.1.0.now ≡ says_block r' x'.1.1.0.now = p ∙ sym q in
    (sym (block_back r x.1.1.0.now) ∙ ap block_of same ∙ block_back r' x'.1.1.0.now, ap (λ (s : Settling). s.buffer) same)
