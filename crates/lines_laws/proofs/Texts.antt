-- Reading on over block after block is reading on over the text, and each line that ends is what
-- its words are.
-- Assumes nothing.
use mathlib.Core.Path.{◌≡◌, refl, sym, ap, ◌∙◌}
use mathlib.Core.Bool.{Bool, true, false, ◌&&◌}
use mathlib.Core.Logic.{◌⊎◌, inl, inr}
use mathlib.Core.List.{List, [], ◌∷◌, ◌++◌, append_assoc, append-nil}
use Prim.Native.Nat.{ℕ, zero, suc, ◌+◌, ◌≤◌}
use native.Mathlib.Omega.{arith}
use lib.Dec.{eqb, leb}
use lib.ListN.{length, drop}
use borrow.Author.Tests.{le-leb}
use Rattle.words.specs.Answer.{pick}
use Rattle.words.proofs.Never.{cannot_be}
use Rattle.lines.specs.declared.TextLine.{TextLine}
use Rattle.lines.specs.declared.Reader.{Reader}
use Rattle.lines.specs.declared.Got.{Got}
use Rattle.lines.specs.Text.{newline, onto, cut, lines_of, beginning, lines_in}
use Rattle.lines.specs.Reading.{character, fresh, whole, unfinished, line_from, next_line}
use Rattle.lines_laws.specs.Calls.{NextLine}
use Rattle.lines_laws.specs.Texts.{Through, line, used, ThroughAll, none, block, joined, kept_of, AllLines}
use Rattle.lines_laws.proofs.Wording.{read_on, keeps, reads_words}

-- The lines of a text that is read on from a reader to its end.
unfoldable to_end_meant : Reader → List ℕ → List TextLine
to_end_meant r [] = keeps r ∷ []
to_end_meant r (c ∷ cs) = pick (newline c) (keeps r ∷ to_end_meant fresh cs) (to_end_meant (character r c) cs)

-- ---- one answer

after_first : (b : List ℕ) (at c : ℕ) (cs : List ℕ) → drop at b ≡ c ∷ cs → drop (at + 1) b ≡ cs
after_first [] zero c cs e = cannot_be cc
after_first [] (suc at) c cs e = cannot_be cc
after_first (x ∷ xs) zero c cs e = cc
after_first (x ∷ xs) (suc at) c cs e = let on : suc at + 1 ≡ suc (at + 1) = omega arith in ap (λ (n : ℕ). drop n (x ∷ xs)) on ∙ after_first xs at c cs e

-- A line that ends is kept, and reading goes on after its newline.
ended : (t b rest : List ℕ) (r : Reader) (at : ℕ) → drop at b ≡ t → (line_from r t at).ends ≡ true
    → to_end_meant r (t ++ rest) ≡ (line_from r t at).line ∷ to_end_meant (line_from r t at).reader (drop (line_from r t at).next b ++ rest)
unfolding line_from to_end_meant whole unfinished
ended [] b rest r at is e = cannot_be cc
ended (c ∷ cs) b rest r at is e = by (newline c) e (λ f. ended cs b rest (character r c) (at + 1) (after_first b at c cs is) f)
  where
    by : (n : Bool) → (pick n (whole r.line r.word (at + 1)) (line_from (character r c) cs (at + 1))).ends ≡ true
        → ((line_from (character r c) cs (at + 1)).ends ≡ true → to_end_meant (character r c) (cs ++ rest) ≡ (line_from (character r c) cs (at + 1)).line
        ∷ to_end_meant (line_from (character r c) cs (at + 1)).reader (drop (line_from (character r c) cs (at + 1)).next b ++ rest))
        → pick n (keeps r ∷ to_end_meant fresh (cs ++ rest)) (to_end_meant (character r c) (cs ++ rest))
        ≡ (pick n (whole r.line r.word (at + 1)) (line_from (character r c) cs (at + 1))).line
        ∷ to_end_meant (pick n (whole r.line r.word (at + 1)) (line_from (character r c) cs (at + 1))).reader (drop (pick n (whole r.line r.word (at + 1)) (line_from (character r c) cs (at + 1))).next b ++ rest)
    by true e on = ap (λ (l : List ℕ). keeps r ∷ to_end_meant fresh (l ++ rest)) (sym (after_first b at c cs is))
    by false e on = on e

-- One that does not is read on.
unended : (t rest : List ℕ) (r : Reader) (at : ℕ) → (line_from r t at).ends ≡ false → to_end_meant r (t ++ rest) ≡ to_end_meant (line_from r t at).reader rest
unfolding line_from to_end_meant whole unfinished
unended [] rest r at e = refl
unended (c ∷ cs) rest r at e = by (newline c) e (λ f. unended cs rest (character r c) (at + 1) f)
  where
    by : (n : Bool) → (pick n (whole r.line r.word (at + 1)) (line_from (character r c) cs (at + 1))).ends ≡ false
        → ((line_from (character r c) cs (at + 1)).ends ≡ false → to_end_meant (character r c) (cs ++ rest) ≡ to_end_meant (line_from (character r c) cs (at + 1)).reader rest)
        → pick n (keeps r ∷ to_end_meant fresh (cs ++ rest)) (to_end_meant (character r c) (cs ++ rest)) ≡ to_end_meant (pick n (whole r.line r.word (at + 1)) (line_from (character r c) cs (at + 1))).reader rest
    by true e on = cannot_be cc
    by false e on = on e

-- ---- block after block

-- What an answer that the contract allows is.
answered : (r : Reader) (b : List ℕ) (from : ℕ) (g : Got) → NextLine r b from g → g ≡ line_from r (drop from b) from
unfolding next_line
answered r b from g c = c.4 ∙ ap (λ (t : List ℕ). next_line r t from) c.3

over_block : (b rest : List ℕ) (r last : Reader) (from : ℕ) (ls : List TextLine) → Through b r from ls last → to_end_meant r (drop from b ++ rest) ≡ ls ++ to_end_meant last rest
over_block b rest r last from _ (line g asked ends more) =
    let is = answered r b from g asked in
    ended (drop from b) b rest r from refl (ap (λ (x : Got). x.ends) (sym is) ∙ ends)
    ∙ ap (λ (x : Got). x.line ∷ to_end_meant x.reader (drop x.next b ++ rest)) (sym is)
    ∙ ap (λ (l : List TextLine). g.line ∷ l) (over_block b rest g.reader last g.next _ more)
over_block b rest r last from _ (used g asked ends) =
    let is = answered r b from g asked in
    unended (drop from b) rest r from (ap (λ (x : Got). x.ends) (sym is) ∙ ends) ∙ ap (λ (x : Got). to_end_meant x.reader rest) (sym is)

over_blocks : (bs : List (List ℕ)) (rest : List ℕ) (r last : Reader) (ls : List TextLine) → ThroughAll r bs ls last → to_end_meant r (joined bs ++ rest) ≡ ls ++ to_end_meant last rest
over_blocks [] rest r last _ none = refl
over_blocks (b ∷ bs) rest r last _ (block {next = next} {ls = ls} {ms = ms} through more) =
    ap (to_end_meant r) (append_assoc b (joined bs) rest)
    ∙ over_block b (joined bs ++ rest) r next 0 ls through
    ∙ ap (λ (l : List TextLine). ls ++ l) (over_blocks bs rest next last ms more)
    ∙ sym (append_assoc ls ms (to_end_meant last rest))

-- ---- the lines of the text

-- The lines, of which the first is read on from a reader.
abbrev from_reader : Reader → List (List ℕ) → List TextLine
from_reader r [] = keeps r ∷ []
from_reader r (l ∷ ls) = keeps (read_on r l) ∷ kept_of ls

begun_with : (r : Reader) (c : ℕ) (ps : List (List ℕ)) → from_reader (character r c) ps ≡ from_reader r (onto c ps)
unfolding read_on
begun_with r c [] = refl
begun_with r c (p ∷ ps) = refl

-- There is always a line.
some_line : (t : List ℕ) → (p : List ℕ) × (ps : List (List ℕ)) × (lines_of t ≡ p ∷ ps)
unfolding cut
some_line [] = ([], [], refl)
some_line (c ∷ cs) = by (newline c) (lines_of cs)
  where
    by : (n : Bool) (qs : List (List ℕ)) → (p : List ℕ) × (ps : List (List ℕ)) × (pick n ([] ∷ qs) (onto c qs) ≡ p ∷ ps)
    by true qs = ([], qs, refl)
    by false [] = (c ∷ [], [], refl)
    by false (q ∷ qs) = (c ∷ q, qs, refl)

from_fresh : (t : List ℕ) → from_reader fresh (lines_of t) ≡ kept_of (lines_of t)
from_fresh t =
    let l = some_line t in
    ap (from_reader fresh) l.2 ∙ ap (λ (x : TextLine). x ∷ kept_of l.1) (reads_words l.0) ∙ ap kept_of (sym l.2)

to_end : (t : List ℕ) (r : Reader) → to_end_meant r t ≡ from_reader r (lines_of t)
unfolding to_end_meant cut read_on
to_end [] r = refl
to_end (c ∷ cs) r = by (newline c) (to_end cs fresh) (to_end cs (character r c))
  where
    by : (n : Bool) → to_end_meant fresh cs ≡ from_reader fresh (lines_of cs) → to_end_meant (character r c) cs ≡ from_reader (character r c) (lines_of cs)
        → pick n (keeps r ∷ to_end_meant fresh cs) (to_end_meant (character r c) cs) ≡ from_reader r (pick n ([] ∷ lines_of cs) (onto c (lines_of cs)))
    by true anew on = ap (λ (l : List TextLine). keeps r ∷ l) (anew ∙ from_fresh cs)
    by false anew on = on ∙ begun_with r c (lines_of cs)

-- ---- the beginning

-- A byte order mark is seen in the first block.
begins_alike : (a b c : ℕ) (t rest : List ℕ) → beginning ((a ∷ b ∷ c ∷ t) ++ rest) ≡ beginning (a ∷ b ∷ c ∷ t)
unfolding beginning
begins_alike a b c t rest =
    let one : 3 ≤ length ((a ∷ b ∷ c ∷ t) ++ rest) = omega arith in
    let two : 3 ≤ length (a ∷ b ∷ c ∷ t) = omega arith in
    simp (le-leb 3 (length ((a ∷ b ∷ c ∷ t) ++ rest)) one, le-leb 3 (length (a ∷ b ∷ c ∷ t)) two)

by_mark : (m : Bool) (a b c : ℕ) (t rest : List ℕ) → drop (pick m 3 0) (a ∷ b ∷ c ∷ t) ++ rest ≡ drop (pick m 3 0) ((a ∷ b ∷ c ∷ t) ++ rest)
by_mark true a b c t rest = refl
by_mark false a b c t rest = refl

from_the_first : (first rest : List ℕ) → (3 ≤ length first) ⊎ (rest ≡ []) → drop (beginning first) first ++ rest ≡ drop (beginning (first ++ rest)) (first ++ rest)
unfolding beginning
from_the_first (a ∷ b ∷ c ∷ t) rest either =
    by_mark (leb 3 (length (a ∷ b ∷ c ∷ t)) && (eqb a 0xEF && eqb b 0xBB && eqb c 0xBF)) a b c t rest
    ∙ ap (λ (n : ℕ). drop n ((a ∷ b ∷ c ∷ t) ++ rest)) (sym (begins_alike a b c t rest))
from_the_first (a ∷ b ∷ []) rest (inl l) = absurd (omega arith)
from_the_first (a ∷ []) rest (inl l) = absurd (omega arith)
from_the_first [] rest (inl l) = absurd (omega arith)
from_the_first (a ∷ b ∷ []) rest (inr e) = rw e refl
from_the_first (a ∷ []) rest (inr e) = rw e refl
from_the_first [] rest (inr e) = rw e refl

pub all_lines : AllLines
unfolding lines_in to_end_meant line_from unfinished
all_lines first others lines enough read =
    let text : List ℕ = drop (beginning first) first ++ joined others in
    let start : read.from ≡ beginning first = read.begins.4 ∙ ap beginning read.begins.3 in
    let end : read.end.line ≡ keeps read.last = ap (λ (g : Got). g.line) (answered read.last [] 0 read.end read.ends) in
    let body : to_end_meant read.fresh (drop read.from first ++ (joined others ++ [])) ≡ read.in_first ++ (read.in_others ++ to_end_meant read.last []) =
    over_block first (joined others ++ []) read.fresh read.next read.from read.in_first read.through
    ∙ ap (λ (l : List TextLine). read.in_first ++ l) (over_blocks others [] read.next read.last read.in_others read.on) in
    read.all
    ∙ ap (λ (x : TextLine). read.in_first ++ (read.in_others ++ (x ∷ []))) end
    ∙ sym body
    ∙ ap (λ (x : Reader). to_end_meant x (drop read.from first ++ (joined others ++ []))) read.is_fresh.1
    ∙ ap (λ (n : ℕ). to_end_meant fresh (drop n first ++ (joined others ++ []))) start
    ∙ ap (λ (l : List ℕ). to_end_meant fresh (drop (beginning first) first ++ l)) (append-nil (joined others))
    ∙ to_end text fresh ∙ from_fresh text
    ∙ ap (λ (l : List ℕ). kept_of (lines_of l)) (from_the_first first (joined others) enough)
