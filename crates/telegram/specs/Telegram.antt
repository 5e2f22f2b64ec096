-- The three words of a telegram (document 01, "A telegram").
-- "X is M(8,4). If X reads 12, Y and Z are one M(16,11) word; otherwise each is M(8,4). House: a
-- short word that reads 15 is refused in a telegram." "X is judged before Y, Y before Z, and the
-- first bad word decides whatever the numbers."
-- Assumes nothing.
use Rattle.std.specs.Prelude.{ℕ, ◌+◌, ◌*◌, eqb}
use Rattle.words.specs.Answer.{Answer, gives, refuses, then, pick}
use Rattle.words.specs.Why.{Why, why, unsaid}
use Rattle.words.specs.Code.{read_short, read_long}
use Rattle.telegram.specs.declared.Telegram.{Telegram}
use Rattle.telegram.specs.declared.Word.{Word}

-- The first bad word of a telegram: which it is, and why it is refused.
pub data BadWord : Type 0 where
  bad_word : Word → Why → BadWord

-- What the three received words are: a telegram (the figures of X, Y and Z, or, if X reads 12, the
-- number that Y and Z carry together), or refused for its first bad word.
abbrev pub Received : Type 0
Received = Answer BadWord Telegram

-- A word's answer; its refusal names the word.
abbrev pub named : Word → Answer Why ℕ → Answer BadWord ℕ
named word (gives x) = gives x
named word (refuses b) = refuses (bad_word word b)

-- A short word of a telegram that reads x: 15 is refused with 3, and nothing is said of its ones.
abbrev pub not_fifteen : ℕ → Answer Why ℕ
not_fifteen x = pick (eqb x 15) (refuses (why 3 unsaid)) (gives x)

-- What the received short word w of a telegram reads: as any short word, but for 15.
unfoldable pub short_word : ℕ → Answer Why ℕ
short_word w = then (read_short w) not_fifteen

-- Y and Z as one long word, Y its high byte.
unfoldable pub long_word : ℕ → ℕ → Answer Why ℕ
long_word y z = read_long (y * 256 + z)

-- The received words x, y, z as a telegram.
unfoldable pub telegram : ℕ → ℕ → ℕ → Received
telegram x y z =
    then (named Word.X (short_word x)) λ a.
    pick (eqb a 12)
    (then (named Word.YZ (long_word y z)) λ m. gives (Telegram.Number m))
    (then (named Word.Y (short_word y)) λ b. then (named Word.Z (short_word z)) λ c. gives (Telegram.Figures a b c))
