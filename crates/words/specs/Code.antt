-- The sent code M (document 01, "The two codes"): M(8,4) at n = 8, M(16,11) at n = 16.
-- "The sent code M is H with bits 3 and 4 exchanged, and in the long one also 11 and 12. A word
-- that is not a code word is refused. Nothing is corrected."
-- Assumes nothing.
use Rattle.std.specs.Prelude.{ℕ, eqb, leb}
use Rattle.words.specs.Answer.{Answer, Outcome, gives, refuses, pick}
use Rattle.words.specs.Bits.{bit, word}
use Rattle.words.specs.Plain.{is_code, figure, plain_word}
use Rattle.words.specs.Why.{Why, not_code_word}

-- The position with which the position i is exchanged: 3 with 4, 11 with 12, any other with itself.
unfoldable pub other : ℕ → ℕ
other i = pick (eqb i 3) 4 (pick (eqb i 4) 3 (pick (eqb i 11) 12 (pick (eqb i 12) 11 i)))

-- The word w of n bits with its bits exchanged: from sent to plain, and from plain to sent.
unfoldable pub exchanged : ℕ → ℕ → ℕ
exchanged n w = word (λ i. bit w (other i)) n

-- What a received word of n bits reads: its figure, or, if it is not a code word, refusal 1 with
-- whether its ones are odd or even.
unfoldable pub read_word : ℕ → ℕ → Answer Why ℕ
read_word n w = pick (is_code n (exchanged n w)) (gives (figure n (exchanged n w))) (refuses (not_code_word n w))

-- The word that is sent for the figure x.
unfoldable pub sent : ℕ → ℕ → ℕ
sent n x = exchanged n (plain_word n x)

-- What writing the figure x answers, the largest figure given: the word, or refusal 2 if x is above
-- it.
unfoldable pub write_word : ℕ → ℕ → ℕ → Outcome ℕ
write_word n largest x = pick (leb x largest) (gives (sent n x)) (refuses 2)

-- The short code M(8,4): what a received byte reads.
abbrev pub read_short : ℕ → Answer Why ℕ
read_short = read_word 8

-- Its figures are 0 to 15: what writing one answers.
abbrev pub write_short : ℕ → Outcome ℕ
write_short = write_word 8 15

-- The long code M(16,11): what sixteen received bits read.
abbrev pub read_long : ℕ → Answer Why ℕ
read_long = read_word 16

-- Its figures are 0 to 2,047: what writing one answers.
abbrev pub write_long : ℕ → Outcome ℕ
write_long = write_word 16 2047
