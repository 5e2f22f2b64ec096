-- A whole text, block by block: what is kept of its lines is what their words are, however it is
-- cut into blocks. Shown in proofs/Texts.antt.
-- Assumes nothing.
use Rattle.std.specs.Prelude.{ℕ, ◌≤◌, ◌≡◌, true, false, ◌⊎◌, List, [], ◌∷◌, ◌++◌, length}
use Rattle.lines.specs.declared.TextLine.{TextLine}
use Rattle.lines.specs.declared.Reader.{Reader}
use Rattle.lines.specs.declared.Got.{Got}
use Rattle.lines.specs.Text.{lines_in}
use Rattle.lines.specs.Words.{line_of}
use Rattle.lines_laws.specs.Calls.{Fresh, Begin, NextLine}

-- `next_line` is asked on and on over a block, each time from where the line before ended; every
-- answer is one that its contract allows. From a reader and a place: what is kept of the lines that
-- end in the block, and the reader of what is left.
pub data Through (block : List ℕ) : Reader → ℕ → List TextLine → Reader → Type 0 where
  line : {reader last : Reader} {from : ℕ} {rest : List TextLine} (g : Got)
      → NextLine reader block from g → g.ends ≡ true → Through block g.reader g.next rest last → Through block reader from (g.line ∷ rest) last
  used : {reader : Reader} {from : ℕ} (g : Got) → NextLine reader block from g → g.ends ≡ false → Through block reader from [] g.reader

-- Block after block.
pub data ThroughAll : Reader → List (List ℕ) → List TextLine → Reader → Type 0 where
  none : {reader : Reader} → ThroughAll reader [] [] reader
  block : {reader next last : Reader} {b : List ℕ} {bs : List (List ℕ)} {ls ms : List TextLine}
      → Through b reader 0 ls next → ThroughAll next bs ms last → ThroughAll reader (b ∷ bs) (ls ++ ms) last

-- A text in blocks was read to its end: its first block from where `begin` says, then the others,
-- then what stands after the last newline. These are the lines.
pub record ReadOut (first : List ℕ) (others : List (List ℕ)) (lines : List TextLine) : Type 0 where
  pub fresh : Reader
  pub is_fresh : Fresh fresh
  pub from : ℕ
  pub begins : Begin first from
  pub in_first : List TextLine
  pub next : Reader
  pub through : Through first fresh from in_first next
  pub in_others : List TextLine
  pub last : Reader
  pub on : ThroughAll next others in_others last
  pub end : Got
  pub ends : NextLine last [] 0 end
  pub all : lines ≡ in_first ++ (in_others ++ (end.line ∷ []))

-- The blocks of a text, byte after byte.
abbrev pub joined : List (List ℕ) → List ℕ
joined [] = []
joined (b ∷ bs) = b ++ joined bs

-- What is kept of each line.
abbrev pub kept_of : List (List ℕ) → List TextLine
kept_of [] = []
kept_of (l ∷ ls) = line_of l ∷ kept_of ls

-- The first block has three bytes, or it is the whole text.
abbrev pub Enough : List ℕ → List (List ℕ) → Type 0
Enough first others = (3 ≤ length first) ⊎ (joined others ≡ [])

-- They are the lines of the text (`lines_in` of crates/lines/specs/Text.antt), each with what its
-- words are.
abbrev pub AllLines : Type 0
AllLines =
    (first : List ℕ) (others : List (List ℕ)) (lines : List TextLine) → Enough first others → ReadOut first others lines
    → lines ≡ kept_of (lines_in (first ++ joined others))
