-- Each contract fixes its function's whole answer: any two answers that it allows are equal.
-- Assumes nothing.
use mathlib.Core.Path.{sym, ◌∙◌}
use Rattle.words.specs.Says.{says_read}
use Rattle.words.proofs.Told.{Fixed, told}
use Rattle.words.proofs.Determined.{word_read, word_read_back}
use Rattle.words_list.proofs.list.Kinds as list_kinds
use Rattle.words_list.proofs.list.Reads as list_reads
use Rattle.words_list.proofs.read_long.Kinds as read_long_kinds
use Rattle.words_list.proofs.read_long.Reads as read_long_reads

pub list_determined : Fixed 0 list_kinds.ps list_kinds.r list_reads.Post
list_determined κs a r r' x x' p q = p ∙ sym q

pub read_long_determined : Fixed 0 read_long_kinds.ps read_long_kinds.r read_long_reads.Post
read_long_determined κs a r r' x x' p q = told says_read word_read word_read_back r r' p q
