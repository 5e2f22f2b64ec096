-- Each contract fixes its function's whole answer: any two answers that it allows are equal; of a
-- field, where it lies and what it holds, which is all of it that a program can tell.
-- Assumes nothing.
use Prim.Native.Nat.{ℕ}
use mathlib.Core.Path.{◌≡◌, sym, ◌∙◌}
use mathlib.Core.List.{List}
use contract.Lifetimes.{Lfts}
use denote.Ref.{Bor}
use borrow.Fn.Kinds.{Dens, ended_of}
use denote.Triple.Clauses.{AtExit}
use Rattle.figures.specs.Fields.{lies}
use Rattle.figures.proofs.decimal.Kinds as decimal_kinds
use Rattle.figures.proofs.decimal.Reads as decimal_reads
use Rattle.figures.proofs.hex.Kinds as hex_kinds
use Rattle.figures.proofs.hex.Reads as hex_reads
use Rattle.figures.proofs.fields.place_of.Kinds as place_kinds
use Rattle.figures.proofs.fields.place_of.Reads as place_reads
use Rattle.figures.proofs.fields.field.Kinds as field_kinds
use Rattle.figures.proofs.fields.field.Reads as field_reads
use Rattle.figures.proofs.fields.has.Kinds as has_kinds
use Rattle.figures.proofs.fields.has.Reads as has_reads
use Rattle.figures.proofs.fields.more.Kinds as more_kinds
use Rattle.figures.proofs.fields.more.Reads as more_reads
use Rattle.words.proofs.Told.{Fixed}

pub decimal_determined : Fixed 1 decimal_kinds.ps decimal_kinds.r decimal_reads.Post
decimal_determined κs a r r' x x' p q = p ∙ sym q

pub hex_determined : Fixed 1 hex_kinds.ps hex_kinds.r hex_reads.Post
hex_determined κs a r r' x x' p q = p ∙ sym q

pub place_of_determined : Fixed 1 place_kinds.ps place_kinds.r place_reads.Post
place_of_determined κs a r r' x x' p q = p ∙ sym q

pub field_determined : (κs : Lfts 1) (a : Dens κs field_kinds.ps) (r r' : Bor (List ℕ))
    (x x' : AtExit (ended_of 1 field_kinds.ps field_kinds.r) κs)
    → field_reads.Post κs a r x → field_reads.Post κs a r' x' → lies r ≡ lies r'
field_determined κs a r r' x x' p q = p ∙ sym q

pub has_determined : Fixed 1 has_kinds.ps has_kinds.r has_reads.Post
has_determined κs a r r' x x' p q = p ∙ sym q

pub more_determined : Fixed 0 more_kinds.ps more_kinds.r more_reads.Post
more_determined κs a r r' x x' p q = p ∙ sym q
