-- A text put into a lent buffer: every byte of the buffer after it.
-- Assumes nothing.
use Rattle.std.specs.Prelude.{ℕ, ◌+◌, List, ◌++◌, leb, length, take, drop}
use Rattle.words.specs.Answer.{pick}

-- The buffer with the text in it from the place `at` on: the bytes before and after the text stay.
unfoldable pub placed : List ℕ → List ℕ → ℕ → List ℕ
placed text buffer at = take at buffer ++ text ++ drop (at + length text) buffer

-- What putting a text comes to: the place of what comes next, and the buffer then.
pub record Put : Type 0 where
  pub next : ℕ
  pub buffer : List ℕ

-- A text that fits stands in the buffer from the place `at` on, and the next place is the one after
-- it; for want of room the buffer stays as it is, and so does the place.
unfoldable pub put : List ℕ → List ℕ → ℕ → Put
put text buffer at =
    pick (leb (at + length text) (length buffer))
    (record { next = at + length text; buffer = placed text buffer at })
    (record { next = at; buffer = buffer })

-- A place and a buffer together.
abbrev pub came : ℕ → List ℕ → Put
came next buffer = record { next = next; buffer = buffer }
