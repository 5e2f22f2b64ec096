-- Reading a line from its first character on gives what its words are, in one block or in several.
-- Assumes nothing.
use mathlib.Core.Path.{◌≡◌, refl, sym, ap, ◌∙◌}
use mathlib.Core.Bool.{Bool, true, false}
use mathlib.Core.List.{List, [], ◌∷◌, ◌++◌}
use Prim.Native.Nat.{ℕ, suc, ◌+◌}
use native.Mathlib.Omega.{arith}
use lib.ListN.{length}
use Rattle.words.specs.Answer.{pick}
use Rattle.words.proofs.Never.{cannot_be}
use Rattle.lines.specs.declared.TextLine.{TextLine}
use Rattle.lines.specs.declared.Reader.{Reader}
use Rattle.lines.specs.declared.Got.{Got}
use Rattle.lines.specs.Text.{newline, up_to, onto, cut, lines_of}
use Rattle.lines.specs.Reading.{character, fresh, whole, unfinished, line_from}
use Rattle.lines_laws.specs.Laws.{OneLine, ReadsALine, ReadsTheLast, InBlocks}
use Rattle.lines_laws.proofs.Wording.{read_on, reads_words}

-- The first character of a stretch without the end of a line is none, and so is what follows.
first_by : (b : Bool) (c : ℕ) (u cs : List ℕ) → pick b [] (c ∷ u) ≡ c ∷ cs → (b ≡ false) × (u ≡ cs)
first_by true c u cs e = cannot_be cc
first_by false c u cs e = (refl, cc)

first : (c : ℕ) (cs : List ℕ) → OneLine (c ∷ cs) → (newline c ≡ false) × OneLine cs
unfolding up_to
first c cs e = first_by (newline c) c (up_to newline cs) cs e

-- Reading goes on over such a stretch.
over : (r : Reader) (line next : List ℕ) (at : ℕ) → OneLine line → line_from r (line ++ next) at ≡ line_from (read_on r line) next (at + length line)
unfolding line_from read_on
over r [] next at one = let here : at ≡ at + 0 = omega arith in ap (line_from r next) here
over r (c ∷ cs) next at one =
    let parts = first c cs one in
    let here : at + 1 + length cs ≡ at + suc (length cs) = omega arith in
    ap (λ (b : Bool). pick b (whole r.line r.word (at + 1)) (line_from (character r c) (cs ++ next) (at + 1))) parts.0
    ∙ over (character r c) cs next (at + 1) parts.1
    ∙ ap (line_from (read_on (character r c) cs) next) here

at_the_end : (r : Reader) (line : List ℕ) (at : ℕ) → OneLine line
    → line_from r line at ≡ unfinished (read_on r line).line (read_on r line).word (read_on r line).comment (at + length line)
unfolding line_from read_on
at_the_end r [] at one = let here : at ≡ at + 0 = omega arith in ap (unfinished r.line r.word r.comment) here
at_the_end r (c ∷ cs) at one =
    let parts = first c cs one in
    let here : at + 1 + length cs ≡ at + suc (length cs) = omega arith in
    ap (λ (b : Bool). pick b (whole r.line r.word (at + 1)) (line_from (character r c) cs (at + 1))) parts.0
    ∙ at_the_end (character r c) cs (at + 1) parts.1
    ∙ ap (unfinished (read_on (character r c) cs).line (read_on (character r c) cs).word (read_on (character r c) cs).comment) here

newline_ends : (r : Reader) (rest : List ℕ) (at : ℕ) → line_from r (10 ∷ rest) at ≡ whole r.line r.word (at + 1)
unfolding line_from
newline_ends r rest at = refl

abbrev ended : TextLine → ℕ → Got
ended line next = record { line = line; ends = true; next = next; reader = fresh }

pub reads_a_line : ReadsALine
unfolding whole
reads_a_line line rest at one =
    over fresh line (10 ∷ rest) at one
    ∙ newline_ends (read_on fresh line) rest (at + length line)
    ∙ ap (λ (l : TextLine). ended l (at + length line + 1)) (reads_words line)

pub reads_the_last : ReadsTheLast
unfolding unfinished
reads_the_last line one = ap (λ (g : Got). g.line) (at_the_end fresh line 0 one) ∙ reads_words line

pub in_blocks : InBlocks
unfolding unfinished
in_blocks r block next at one =
    over r block next at one ∙ ap (λ (x : Reader). line_from x next (at + length block)) (sym (ap (λ (g : Got). g.reader) (at_the_end r block at one)))

-- The first line of a text, and the others.
pub first_line_law : (line rest : List ℕ) → OneLine line → lines_of (line ++ 10 ∷ rest) ≡ line ∷ lines_of rest
unfolding cut
first_line_law [] rest one = refl
first_line_law (c ∷ cs) rest one =
    let parts = first c cs one in
    ap (λ (b : Bool). pick b ([] ∷ lines_of (cs ++ 10 ∷ rest)) (onto c (lines_of (cs ++ 10 ∷ rest)))) parts.0
    ∙ ap (onto c) (first_line_law cs rest parts.1)
