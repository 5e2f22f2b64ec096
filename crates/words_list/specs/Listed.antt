-- The printed list (document 02, M-105): "a table of all 2,048 words of the long code, indexed by
-- figure, searched for the received word".
-- Assumes nothing.
use Rattle.std.specs.Prelude.{ℕ, zero, suc, List, [], ◌∷◌, eqb, ltb, length}
use Rattle.words.specs.Answer.{Answer, gives, refuses, pick}
use Rattle.words.specs.Why.{Why, not_code_word}
use Rattle.words.specs.Code.{sent}

-- The words of n figures from x on: each is the one that is sent for its figure.
unfoldable pub words_from : ℕ → ℕ → List ℕ
words_from x zero = []
words_from x (suc n) = sent 16 x ∷ words_from (suc x) n

-- The list: all 2,048 words of the long code, that of figure 0 first.
unfoldable pub list : List ℕ
list = words_from 0 2048

-- How many words of a list one passes, from its first on, before one meets the word w: all of them,
-- if it is not there.
unfoldable pub passed : ℕ → List ℕ → ℕ
passed w [] = 0
passed w (e ∷ l) = pick (eqb e w) 0 (suc (passed w l))

-- What one reads with a list in hand: the figure at which one meets the received word w, or, if it
-- is not there, refusal 1 with whether its ones are odd or even.
unfoldable pub read_by : List ℕ → ℕ → Answer Why ℕ
read_by l w = pick (ltb (passed w l) (length l)) (gives (passed w l)) (refuses (not_code_word 16 w))
