-- A text line by line: its first line, as it is read, and the lines after it.
-- Assumes nothing.
use mathlib.Core.Path.{◌≡◌, refl, ap, ◌∙◌}
use mathlib.Core.Bool.{Bool, true, false, ◌&&◌}
use mathlib.Core.List.{List, [], ◌∷◌}
use Prim.Native.Nat.{ℕ, suc, ◌+◌, ◌-◌, ◌≤◌, ◌<◌}
use native.Mathlib.Omega.{arith}
use lib.Dec.{eqb, leb}
use lib.ListN.{length, drop, get_or}
use borrow.Author.Tests.{leb-true}
use Rattle.words.specs.Answer.{pick}
use Rattle.words.proofs.Never.{cannot_be}
use Rattle.lines.specs.declared.Reader.{Reader}
use Rattle.lines.specs.Text.{newline, up_to, onto, cut, lines_of, beginning}
use Rattle.lines.specs.Words.{line_of}
use Rattle.lines.specs.Reading.{character, fresh, whole, unfinished, line_from}
use Rattle.lines_laws.proofs.Wording.{read_on, keeps, reads_words}

-- ---- what is kept of the first line

line_by : (b : Bool) (r : Reader) (c : ℕ) (cs : List ℕ) (at : ℕ) → (line_from (character r c) cs at).line ≡ keeps (read_on (character r c) (up_to newline cs))
    → (pick b (whole r.line r.word at) (line_from (character r c) cs at)).line ≡ keeps (read_on r (pick b [] (c ∷ up_to newline cs)))
unfolding read_on whole
line_by true r c cs at e = refl
line_by false r c cs at e = e

line_is : (r : Reader) (t : List ℕ) (at : ℕ) → (line_from r t at).line ≡ keeps (read_on r (up_to newline t))
unfolding line_from up_to read_on unfinished
line_is r [] at = refl
line_is r (c ∷ cs) at = line_by (newline c) r c cs (at + 1) (line_is (character r c) cs (at + 1))

pub reads_first : (t : List ℕ) (at : ℕ) → (line_from fresh t at).line ≡ line_of (up_to newline t)
reads_first t at = line_is fresh t at ∙ reads_words (up_to newline t)

-- ---- what comes after it

last_by : (b : Bool) (r : Reader) (c : ℕ) (cs : List ℕ) (at : ℕ) → ((line_from (character r c) cs at).ends ≡ false → cut newline cs ≡ up_to newline cs ∷ [])
    → (pick b (whole r.line r.word at) (line_from (character r c) cs at)).ends ≡ false
    → pick b ([] ∷ cut newline cs) (onto c (cut newline cs)) ≡ pick b [] (c ∷ up_to newline cs) ∷ []
unfolding whole
last_by true r c cs at next e = cannot_be cc
last_by false r c cs at next e = ap (onto c) (next e)

-- A line that has no end is the last.
pub no_more : (r : Reader) (t : List ℕ) (at : ℕ) → (line_from r t at).ends ≡ false → lines_of t ≡ up_to newline t ∷ []
unfolding line_from cut up_to
no_more r [] at e = refl
no_more r (c ∷ cs) at e = last_by (newline c) r c cs (at + 1) (no_more (character r c) cs (at + 1)) e

-- After a line that ends: the place of the next one lies beyond, and the lines of the text are this
-- one and those from there on.
pub record Goes (t : List ℕ) (at next : ℕ) : Type 0 where
  pub beyond : at < next
  pub within : next ≤ at + length t
  pub lines : lines_of t ≡ up_to newline t ∷ lines_of (drop (next - at) t)

goes_by : (b : Bool) (r : Reader) (c : ℕ) (cs : List ℕ) (at : ℕ) → newline c ≡ b
    → ((line_from (character r c) cs (at + 1)).ends ≡ true → Goes cs (at + 1) (line_from (character r c) cs (at + 1)).next)
    → (pick b (whole r.line r.word (at + 1)) (line_from (character r c) cs (at + 1))).ends ≡ true
    → Goes (c ∷ cs) at (pick b (whole r.line r.word (at + 1)) (line_from (character r c) cs (at + 1))).next
unfolding whole cut up_to
goes_by true r c cs at is next e =
    let one : at + 1 - at ≡ 1 = omega arith in
    record {
      beyond = omega arith;
      within = omega arith;
      lines = rw (is, one);
    }
goes_by false r c cs at is next e =
    let n = next e in
    let k : ℕ = (line_from (character r c) cs (at + 1)).next in
    let one : k - at ≡ suc (k - (at + 1)) = omega (arith, n.beyond) in
    record {
      beyond = omega (arith, n.beyond);
      within = omega (arith, n.within);
      lines = rw (is, one) (ap (onto c) n.lines);
    }

pub goes_on : (r : Reader) (t : List ℕ) (at : ℕ) → (line_from r t at).ends ≡ true → Goes t at (line_from r t at).next
unfolding line_from unfinished
goes_on r [] at e = cannot_be cc
goes_on r (c ∷ cs) at e = goes_by (newline c) r c cs at refl (goes_on (character r c) cs (at + 1)) e

-- ---- where a text begins

begins_by : (a b : Bool) (n : ℕ) → (a ≡ true → 3 ≤ n) → pick (a && b) 3 0 ≤ n
begins_by true true n h = h refl
begins_by true false n h = omega arith
begins_by false b n h = omega arith

pub begins : (t : List ℕ) → beginning t ≤ length t
unfolding beginning
begins t = begins_by (leb 3 (length t)) (eqb (get_or t 0 0) 0xEF && eqb (get_or t 1 0) 0xBB && eqb (get_or t 2 0) 0xBF) (length t) (leb-true 3 (length t))
