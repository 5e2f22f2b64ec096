-- The bytes of a test balise (document 02, M-100): "write the packed bits into a lent buffer: a
-- sync word S first, telegrams with alternating sync words, one sync word to close, so 4n + 1
-- bytes. Bytes after them stay." "Refusals: 2 and 3 as in 01; 20 for n out of range; 21 for a short
-- buffer; order 2, 3, 4, 20, 21."
-- Assumes nothing.
use Rattle.std.specs.Prelude.{ℕ, zero, suc, ◌+◌, ◌*◌, Bool, not, ◌&&◌, List, [], ◌∷◌, ◌++◌, leb, ltb, length, drop}
use Rattle.words.specs.Answer.{Outcome, gives, refuses, then, pick}
use Rattle.telegram.specs.Sync.{is_good}
use Rattle.telegram.specs.Spelling.{asked, Words, spell}

-- n telegrams of the same words, the sync words s and t in turn, s first, and one sync word to
-- close.
unfoldable pub telegrams : ℕ → ℕ → Words → ℕ → List ℕ
telegrams s t w zero = s ∷ []
telegrams s t w (suc n) = s ∷ w.x ∷ w.y ∷ w.z ∷ telegrams t s w n

-- "A number n of telegrams from 2 to 1,000".
unfoldable pub in_range : ℕ → Bool
in_range n = leb 2 n && leb n 1000

-- The bytes to write into a buffer of `room` bytes, the words given: 4, then 20, then 21.
unfoldable pub bytes_of : ℕ → ℕ → ℕ → ℕ → Words → Outcome (List ℕ)
bytes_of s t n room w =
    pick (not (is_good s t)) (refuses 4)
    (pick (not (in_range n)) (refuses 20)
    (pick (ltb room (4 * n + 1)) (refuses 21)
    (gives (telegrams s t w n))))

-- What writing comes to: how many bytes were written, or the number of the refusal; and the buffer
-- then.
pub record Writing : Type 0 where
  pub answer : Outcome ℕ
  pub buffer : List ℕ

-- Bytes at the buffer's start, all after them as they were; a refusal leaves the buffer as it was.
abbrev pub onto : List ℕ → Outcome (List ℕ) → Writing
onto out (gives bytes) = record { answer = gives (length bytes); buffer = bytes ++ drop (length bytes) out }
onto out (refuses n) = record { answer = refuses n; buffer = out }

-- Writing a test balise: n telegrams of the figures x, y, z with the sync words s and t, into the
-- buffer `out`.
unfoldable pub write : ℕ → ℕ → ℕ → ℕ → ℕ → ℕ → List ℕ → Writing
write x y z s t n out = onto out (then (spell (asked x y z)) (bytes_of s t n (length out)))
