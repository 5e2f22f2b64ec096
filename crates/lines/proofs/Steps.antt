-- A line read on from a place, by the character that stands there.
-- Assumes nothing.
use mathlib.Core.Path.{◌≡◌, refl, sym, ap, ◌∙◌}
use mathlib.Core.Bool.{true, false}
use mathlib.Core.List.{List, ◌∷◌}
use Prim.Native.Nat.{ℕ, ◌+◌, ◌≤◌, ◌<◌}
use native.Mathlib.Numerals.{add-one}
use lib.Dec.{eqb}
use lib.ListN.{length, get_or, drop, drop_of_length-le}
use lib.Seq.{drop-cons}
use borrow.Author.Tests.{eq-eqb, ne_eqb}
use Rattle.words.specs.Answer.{pick}
use Rattle.lines.specs.declared.TextLine.{TextLine}
use Rattle.lines.specs.declared.Letters.{Letters}
use Rattle.lines.specs.declared.Reader.{Reader}
use Rattle.lines.specs.Text.{hash}
use Rattle.lines.specs.Reading.{stops, letter_on, no_letters, closed, character, whole, unfinished, line_from}

module _ (r : Reader) (text : List ℕ) (i : ℕ) where
  -- At the end of the block the line is unfinished.
  pub at_the_end : length text ≤ i → unfinished r.line r.word r.comment i ≡ line_from r (drop i text) i
  unfolding line_from
  at_the_end h = sym (ap (λ (l : List ℕ). line_from r l i) (drop_of_length-le text h))

  module _ (in-text : i < length text) where
    abbrev c : ℕ
    c = get_or text i 0

    by_first : line_from r (drop i text) i ≡ pick (eqb c 10) (whole r.line r.word (i + 1)) (line_from (character r c) (drop (i + 1) text) (i + 1))
    unfolding line_from
    by_first = ap (λ (l : List ℕ). line_from r l i) (drop-cons text i 0 in-text ∙ ap (λ (k : ℕ). c ∷ drop k text) (sym (add-one i)))

    -- A newline ends it,
    pub at_newline : c ≡ 10 → whole r.line r.word (i + 1) ≡ line_from r (drop i text) i
    at_newline e = sym (by_first ∙ simp (eq-eqb _ _ e))

    -- any other character carries it on.
    pub goes_on : (c ≡ 10 → ⊥) → (next : Reader) → next ≡ character r c → line_from r (drop i text) i ≡ line_from next (drop (i + 1) text) (i + 1)
    goes_on e next is = by_first ∙ simp (ne_eqb _ _ e) (ap (λ (x : Reader). line_from x (drop (i + 1) text) (i + 1)) (sym is))

-- One character more, by its kind.
module _ (line : TextLine) (word : Letters) (c : ℕ) where
  pub in_comment : ◌≡◌ {A = Reader} (record { line = line; word = word; comment = true }) (character (record { line = line; word = word; comment = true }) c)
  unfolding character
  in_comment = refl

  pub at_stop : stops c ≡ true
      → ◌≡◌ {A = Reader} (record { line = closed line word; word = no_letters; comment = hash c }) (character (record { line = line; word = word; comment = false }) c)
  unfolding character
  at_stop e = simp e

  pub at_letter : stops c ≡ false
      → ◌≡◌ {A = Reader} (record { line = line; word = letter_on word c; comment = false }) (character (record { line = line; word = word; comment = false }) c)
  unfolding character
  at_letter e = simp e
