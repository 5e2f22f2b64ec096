-- A text cut into fields by a sign that stands between two of them, and counting. A text is the
-- list of its bytes.
-- Assumes nothing.
use Rattle.std.specs.Prelude.{ℕ, zero, suc, ◌+◌, Bool, ◌&&◌, List, [], ◌∷◌, eqb, ltb, length, take, drop}
use Rattle.std.specs.Borrow.{Bor}
use Rattle.words.specs.Answer.{pick}

-- How many bytes stand before the first sign: all of them, if there is none.
unfoldable pub before : ℕ → List ℕ → ℕ
before sign [] = 0
before sign (b ∷ bs) = pick (eqb b sign) 0 (suc (before sign bs))

-- The place of the first sign at or after the place `from`, or the text's end.
unfoldable pub place_of : List ℕ → ℕ → ℕ → ℕ
place_of text from sign = from + before sign (drop from text)

-- What stands after the first sign: nothing, if there is none.
unfoldable pub after : ℕ → List ℕ → List ℕ
after sign text = drop (suc (before sign text)) text

-- Whether the sign stands in the text.
unfoldable pub has : List ℕ → ℕ → Bool
has text sign = ltb (before sign text) (length text)

-- Where field k starts, counted from 0: field 0 at the beginning, the next after the first sign,
-- and so on; at the text's end, if there is none.
unfoldable pub start_of : List ℕ → ℕ → ℕ → ℕ
start_of text sign zero = 0
start_of text sign (suc k) = pick (has text sign) (suc (before sign text) + start_of (after sign text) sign k) (length text)

-- What stands before the first sign: all of it, if there is none.
abbrev pub first : ℕ → List ℕ → List ℕ
first sign text = take (before sign text) text

-- Field k: what stands from its start on before the next sign.
unfoldable pub field : List ℕ → ℕ → ℕ → List ℕ
field text sign k = first sign (drop (start_of text sign k) text)

-- A slice of bytes: where it lies, a block and an offset, and what it holds.
pub record Lies : Type 0 where
  pub at : ℕ × ℕ
  pub bytes : List ℕ

abbrev pub lies : Bor (List ℕ) → Lies
lies slice = record { at = slice.ref_ptr; bytes = slice.now }

-- The part of a text that begins with its byte n and holds these bytes.
abbrev pub part : Bor (List ℕ) → ℕ → List ℕ → Lies
part text n bytes = record { at = (text.ref_ptr.0, n + text.ref_ptr.1); bytes = bytes }

-- One more than n where it holds and n is below 4,000,000,000.
unfoldable pub more : ℕ → Bool → ℕ
more n holds = pick (ltb n 4000000000 && holds) (n + 1) n
