-- Each contract fixes its function's whole answer: any two answers that it allows are equal.
-- Assumes nothing.
use mathlib.Core.Path.{◌≡◌, refl}
use Prim.Native.Nat.{ℕ}
use Rattle.std.specs.Prelude.{Result, Ok, Err}
use Rattle.words.specs.Answer.{Answer, Outcome}
use Rattle.words.specs.Why.{Why, why, are, unsaid}
use Rattle.words.specs.Says.{says_read, says_written}
use Rattle.words.specs.declared.NotCode.{NotCode}
use Rattle.words.specs.declared.TooLarge.{TooLarge}
use Rattle.words.specs.declared.Parity.{Parity}
use Rattle.words.proofs.Told.{Fixed, told, two_cases}
use Rattle.words.proofs.read_short.Kinds as read_short_kinds
use Rattle.words.proofs.read_short.Reads as read_short_reads
use Rattle.words.proofs.write_short.Kinds as write_short_kinds
use Rattle.words.proofs.write_short.Reads as write_short_reads
use Rattle.words.proofs.read_long.Kinds as read_long_kinds
use Rattle.words.proofs.read_long.Reads as read_long_reads
use Rattle.words.proofs.write_long.Kinds as write_long_kinds
use Rattle.words.proofs.write_long.Reads as write_long_reads

-- The parity that a refusal says; of one that says none, any will do.
abbrev pub parity_of : Why → Parity
parity_of (why n (are p)) = p
parity_of (why n unsaid) = Parity.Odd

-- From what an answer says, the answer.
pub word_read : Answer Why ℕ → Result ℕ NotCode
word_read = two_cases Ok (λ b. Err (record { 0 = parity_of b }))

pub word_read_back : (r : Result ℕ NotCode) → word_read (says_read r) ≡ r
unfolding word_read
word_read_back (Ok x) = refl
word_read_back (Err e) = refl

pub word_written : Outcome ℕ → Result ℕ TooLarge
word_written = two_cases Ok (λ n. Err (record {}))

pub word_written_back : (r : Result ℕ TooLarge) → word_written (says_written r) ≡ r
unfolding word_written
word_written_back (Ok w) = refl
word_written_back (Err e) = refl

pub read_short_determined : Fixed 0 read_short_kinds.ps read_short_kinds.r read_short_reads.Post
read_short_determined κs a r r' x x' p q = told says_read word_read word_read_back r r' p q

pub write_short_determined : Fixed 0 write_short_kinds.ps write_short_kinds.r write_short_reads.Post
write_short_determined κs a r r' x x' p q = told says_written word_written word_written_back r r' p q

pub read_long_determined : Fixed 0 read_long_kinds.ps read_long_kinds.r read_long_reads.Post
read_long_determined κs a r r' x x' p q = told says_read word_read word_read_back r r' p q

pub write_long_determined : Fixed 0 write_long_kinds.ps write_long_kinds.r write_long_reads.Post
write_long_determined κs a r r' x x' p q = told says_written word_written word_written_back r r' p q
