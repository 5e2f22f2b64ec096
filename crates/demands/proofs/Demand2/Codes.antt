-- Both codes: a figure in range is written as a word that reads back as it, and a word that is read
-- is written back. One law over the width, over the contracts.
-- Assumes nothing.
use Prim.Native.Nat.{ℕ, ◌<◌, ◌≤◌}
use mathlib.Core.Path.{◌≡◌, sym, ap, ◌∙◌}
use mathlib.Core.Bool.{Bool, false}
use lib.Dec.{T, eqb, eqb→eq}
use lib.ListN.{get_or}
use borrow.Author.Tests.{le-leb}
use Rattle.words.specs.Answer.{Outcome, gives, refuses, pick}
use Rattle.words.specs.Bits.{word}
use Rattle.words.specs.Plain.{is_check, covers, count, carriers, carried, made_even, plain_word}
use Rattle.words.specs.Code.{other, exchanged, sent, write_word, read_word, write_short}
use Rattle.words.specs.Says.{says_read, says_written}
use Rattle.words.proofs.Told.{told}
use Rattle.words.proofs.Ranges.{below}
use Rattle.words.proofs.Codes.{short_written_read, short_read_written, long_written_read, long_read_written}
use Rattle.words.proofs.Determined as words_are
use Rattle.std.specs.Prelude.{Result, Ok}
use Rattle.words.specs.declared.NotCode.{NotCode}
use Rattle.words.specs.declared.TooLarge.{TooLarge}
use Rattle.demands.specs.Cases.{M8}
use Rattle.demands.specs.ByContract.{ReadShort, WriteShort, ReadLong, WriteLong}
use Rattle.demands.specs.Demand2.{WrittenBack, ReadBack, Words}

-- A figure in range is written.
in_range_law : (n largest x : ℕ) → x ≤ largest → write_word n largest x ≡ gives (sent n x)
unfolding write_word
in_range_law n largest x l = ap (λ (t : Bool). pick t (gives (sent n x)) (refuses 2)) (le-leb x largest l)

-- Of a code whose writer says `write_word n largest` and whose reader says `read_word n`, each told
-- from what it says.
module _ (n largest : ℕ) {A R : Type 0} (Writes : ℕ → A → Type 0) (word : ℕ → A) (Reads : ℕ → R → Type 0) (figure : ℕ → R)
    (written : (x w : ℕ) (a : A) → Writes x a → write_word n largest x ≡ gives w → a ≡ word w)
    (reading : (w x : ℕ) (r : R) → Reads w r → read_word n w ≡ gives x → r ≡ figure x)
    (figured : (w x : ℕ) → Reads w (figure x) → read_word n w ≡ gives x) where
  written_back : ((x w : ℕ) → write_word n largest x ≡ gives w → read_word n w ≡ gives x) → WrittenBack largest Writes word Reads figure
  written_back law x a l c =
      (sent n x, written x (sent n x) a c (in_range_law n largest x l), λ r k. reading (sent n x) x r k (law x (sent n x) (in_range_law n largest x l)))

  read_back : (many : ℕ) → ((w x : ℕ) → w < many → read_word n w ≡ gives x → write_word n largest x ≡ gives w) → ReadBack many Writes word Reads figure
  read_back many law w x a l c k = written x w a k (law w x l (figured w x c))

short_written : (x w : ℕ) (a : Result ℕ TooLarge) → WriteShort x a → write_word 8 15 x ≡ gives w → a ≡ Ok w
short_written x w a c e = told says_written words_are.word_written words_are.word_written_back a (Ok w) c.1 (sym e)

short_reading : (w x : ℕ) (r : Result ℕ NotCode) → ReadShort w r → read_word 8 w ≡ gives x → r ≡ Ok x
short_reading w x r c e = told says_read words_are.word_read words_are.word_read_back r (Ok x) c.1 (sym e)

long_written : (x w : ℕ) (a : Result ℕ TooLarge) → WriteLong x a → write_word 16 2047 x ≡ gives w → a ≡ Ok w
long_written x w a c e = told says_written words_are.word_written words_are.word_written_back a (Ok w) c.1 (sym e)

long_reading : (w x : ℕ) (r : Result ℕ NotCode) → ReadLong w r → read_word 16 w ≡ gives x → r ≡ Ok x
long_reading w x r c e = told says_read words_are.word_read words_are.word_read_back r (Ok x) c.1 (sym e)

-- ---- M(8,4) as printed

-- whether an answer gives this word
abbrev gives_this : Outcome ℕ → ℕ → Bool
gives_this (gives w) v = eqb w v
gives_this (refuses n) v = false

gives_this_law : (o : Outcome ℕ) (v : ℕ) → T (gives_this o v) → o ≡ gives v
gives_this_law (gives w) v t = ap gives (eqb→eq w v t)
gives_this_law (refuses n) v t = absurd t

-- whether the figure x is written as the table has it
abbrev as_printed : ℕ → Bool
as_printed x = gives_this (write_short x) (get_or M8 x 0)

m8_written : (x : ℕ) → x < 16 → write_short x ≡ gives (get_or M8 x 0)
unfolding write_word sent plain_word carried carriers made_even count covers is_check exchanged other word
m8_written x l = gives_this_law (write_short x) (get_or M8 x 0) (below as_printed 16 tt x l)

pub words : Words
words = record {
  short_back = written_back 8 15 WriteShort Ok ReadShort Ok short_written short_reading (λ w x c. sym c.1) short_written_read;
  long_back = written_back 16 2047 WriteLong Ok ReadLong Ok long_written long_reading (λ w x c. sym c.1) long_written_read;
  short_itself = read_back 8 15 WriteShort Ok ReadShort Ok short_written short_reading (λ w x c. sym c.1) 256 short_read_written;
  long_itself = read_back 16 2047 WriteLong Ok ReadLong Ok long_written long_reading (λ w x c. sym c.1) 65536 long_read_written;
  m8 = λ x a l c. c.1 ∙ m8_written x l;
}
