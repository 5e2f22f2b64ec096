-- What reading a text comes to: what is kept of a line is what its words are, and a line that is
-- cut by the end of a block is read as if it were not. Shown in proofs/Laws.antt.
-- Assumes nothing.
use Rattle.std.specs.Prelude.{ℕ, ◌+◌, ◌≡◌, true, List, ◌∷◌, ◌++◌, length}
use Rattle.lines.specs.declared.Reader.{Reader}
use Rattle.lines.specs.Text.{newline, up_to}
use Rattle.lines.specs.Words.{line_of}
use Rattle.lines.specs.Reading.{fresh, line_from}

-- A stretch of a text without the end of a line.
abbrev pub OneLine : List ℕ → Type 0
OneLine t = up_to newline t ≡ t

-- A line that ends, read from its first character on: what its words are; the next one begins after
-- its newline.
abbrev pub ReadsALine : Type 0
ReadsALine =
    (line rest : List ℕ) (at : ℕ) → OneLine line
    → line_from fresh (line ++ 10 ∷ rest) at ≡ record { line = line_of line; ends = true; next = at + length line + 1; reader = fresh }

-- The last line, which has no end.
abbrev pub ReadsTheLast : Type 0
ReadsTheLast = (line : List ℕ) → OneLine line → (line_from fresh line 0).line ≡ line_of line

-- A line that is cut by the end of a block, wherever that is: reading goes on from what the block
-- before has left.
abbrev pub InBlocks : Type 0
InBlocks =
    (r : Reader) (block next : List ℕ) (at : ℕ) → OneLine block
    → line_from r (block ++ next) at ≡ line_from (line_from r block at).reader next (at + length block)
