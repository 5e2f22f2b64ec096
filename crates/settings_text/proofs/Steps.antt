-- A text of settings by its first line: it is bad and decides, or the last, or what is left
-- decides.
-- Assumes nothing.
use mathlib.Core.Path.{◌≡◌, refl, sym, ap, ◌∙◌}
use mathlib.Core.Bool.{Bool, true, false}
use mathlib.Core.List.{List, [], ◌∷◌}
use Prim.Native.Nat.{ℕ, ◌+◌, ◌-◌, ◌≤◌, ◌<◌}
use native.Mathlib.Omega.{arith}
use lib.ListN.{length, drop}
use lib.Seq.{drop-drop}
use borrow.Author.Tests.{le-leb, lt-leb}
use Rattle.words.specs.Answer.{pick}
use Rattle.settings.specs.declared.Store.{Store}
use Rattle.settings.specs.Store.{no_store_meant}
use Rattle.lines.specs.Text.{newline, up_to, lines_of, beginning, lines_in}
use Rattle.lines.specs.Words.{line_of}
use Rattle.lines.specs.Reading.{fresh, next_line}
use Rattle.settings_text.specs.declared.Condition.{Condition}
use Rattle.settings_text.specs.declared.Taken.{Taken}
use Rattle.settings_text.specs.declared.Sheet.{Sheet}
use Rattle.settings_text.specs.Taking.{take_line}
use Rattle.settings_text.specs.Sheet.{is_fine, bad, ended, lines_from, sheet}
use Rattle.settings_text.proofs.Lines.{reads_first, no_more, Goes, goes_on}

-- What a first line leaves.
abbrev after : Taken → ℕ → List (List ℕ) → Sheet
after taken n rest = pick (is_fine taken.how) (lines_from taken.store (n + 1) rest) (bad n taken.how)

by_first : (store : Store) (n : ℕ) (ls : List (List ℕ)) (line : List ℕ) (rest : List (List ℕ)) → ls ≡ line ∷ rest → lines_from store n ls ≡ after (take_line store (line_of line)) n rest
unfolding lines_from
by_first store n ls line rest e = ap (lines_from store n) e

-- The text from a place on, the store so far, the number of the line, and what was taken of it.
module _ (store : Store) (n : ℕ) (text : List ℕ) (from : ℕ) (r : Taken) (is : r ≡ take_line store (next_line fresh text from).line) where
  took : r ≡ take_line store (line_of (up_to newline (drop from text)))
  unfolding next_line
  took = is ∙ ap (take_line store) (reads_first (drop from text) from)

  -- The last line:
  pub at_last : (next_line fresh text from).ends ≡ false → lines_from store n (lines_of (drop from text)) ≡ after r n []
  unfolding next_line
  at_last e =
      by_first store n (lines_of (drop from text)) (up_to newline (drop from text)) [] (no_more fresh (drop from text) from e)
      ∙ ap (λ (x : Taken). after x n []) (sym took)

  -- any other:
  pub goes : (next_line fresh text from).ends ≡ true → Goes (drop from text) from (next_line fresh text from).next
  unfolding next_line
  goes e = goes_on fresh (drop from text) from e

  pub at_next : (next_line fresh text from).ends ≡ true → lines_from store n (lines_of (drop from text)) ≡ after r n (lines_of (drop (next_line fresh text from).next text))
  at_next e =
      let g = goes e in
      let k : ℕ = (next_line fresh text from).next in
      let there : from + (k - from) ≡ k = omega (arith, g.beyond) in
      by_first store n (lines_of (drop from text)) (up_to newline (drop from text)) (lines_of (drop (k - from) (drop from text))) g.lines
      ∙ ap (λ (x : Taken). after x n (lines_of (drop (k - from) (drop from text)))) (sym took)
      ∙ ap (λ (x : List ℕ). after r n (lines_of x)) (drop-drop (k - from) from text ∙ ap (λ (j : ℕ). drop j text) there)

  by_end : (b : Bool) → (next_line fresh text from).ends ≡ b → is_fine r.how ≡ false → bad n r.how ≡ lines_from store n (lines_of (drop from text))
  by_end true e f = sym (at_next e ∙ simp f)
  by_end false e f = sym (at_last e ∙ simp f)

  -- A line that is not fine decides;
  pub bad_line : is_fine r.how ≡ false → bad n r.how ≡ lines_from store n (lines_of (drop from text))
  bad_line f = by_end (next_line fresh text from).ends refl f

  -- after the last one the text has ended;
  pub last_line : is_fine r.how ≡ true → (next_line fresh text from).ends ≡ false → ended r.store ≡ lines_from store n (lines_of (drop from text))
  unfolding lines_from
  last_line f e = sym (at_last e ∙ simp f)

  -- after any other it goes on.
  pub next_line_law : is_fine r.how ≡ true → (next_line fresh text from).ends ≡ true
      → lines_from store n (lines_of (drop from text)) ≡ lines_from r.store (n + 1) (lines_of (drop (next_line fresh text from).next text))
  next_line_law f e = at_next e ∙ simp f

-- A text that is not too long is its lines.
pub too_long : (t : List ℕ) → 1048576 < length t → bad 0 Condition.TooLong ≡ sheet t
unfolding sheet
too_long t h = simp (lt-leb _ _ h)

pub all_lines : (t : List ℕ) → length t ≤ 1048576 → lines_from no_store_meant 1 (lines_of (drop (beginning t) t)) ≡ sheet t
unfolding sheet lines_in
all_lines t h = simp (le-leb _ _ h)
