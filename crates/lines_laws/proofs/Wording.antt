-- The words of a line, read character by character, are its words.
-- Assumes nothing.
use mathlib.Core.Path.{◌≡◌, refl, sym, ap, ◌∙◌}
use mathlib.Core.Bool.{Bool, true, false, ◌||◌}
use mathlib.Core.List.{List, [], ◌∷◌, ◌++◌, append_assoc, append-nil}
use Prim.Native.Nat.{ℕ}
use native.Mathlib.Omega.{arith}
use lib.Dec.{eqb}
use lib.ListN.{length}
use borrow.Author.Tests.{ne_eqb}
use Rattle.words.specs.Answer.{pick}
use Rattle.figures.specs.Figures.{hex}
use Rattle.std.specs.Prelude.{Option, Some, Result}
use Rattle.figures.specs.declared.NotFigure.{NotFigure}
use Rattle.lines.specs.declared.Name.{Name}
use Rattle.lines.specs.declared.Word.{Word}
use Rattle.lines.specs.declared.TextLine.{TextLine}
use Rattle.lines.specs.declared.Letters.{Letters}
use Rattle.lines.specs.declared.Reader.{Reader}
use Rattle.lines.specs.Text.{blank, hash, up_to, onto, cut, some, words_of}
use Rattle.lines.specs.Words.{number, name, word_of, no_words, kept, kept_all, line_of}
use Rattle.lines.specs.Reading.{letters_on, spelled_on, letter_on, no_letters, named, byte_of, done, closed, character, fresh}
use Rattle.lines_laws.proofs.Spelling.{spelled, by_letter, as_number, spelled_number}
use Rattle.lines_laws.proofs.Naming.{as_name}

-- ---- what a word is

same_letters : (w : Letters) (c : ℕ) → (letter_on w c).letters ≡ letters_on w.letters c
same_letters w c = by_letter (λ (x : Letters). x.letters ≡ letters_on w.letters c) w c refl refl refl

spelled_letters : (w : Letters) (cs : List ℕ) → (spelled w cs).letters ≡ spelled_on w.letters cs
unfolding spelled spelled_on
spelled_letters w [] = refl
spelled_letters w (c ∷ cs) = spelled_letters (letter_on w c) cs ∙ ap (λ (n : ℕ). spelled_on n cs) (same_letters w c)

-- Some characters stay some, and three stay three.
some_on : (w : Letters) (c : ℕ) → (letter_on w c).count ≡ 0 → ⊥
some_on w c = by_letter (λ (x : Letters). x.count ≡ 0 → ⊥) w c (λ e. omega arith) (λ e. omega arith) (λ e. omega arith)

pub some_stay : (w : Letters) (c : ℕ) (cs : List ℕ) → (spelled w (c ∷ cs)).count ≡ 0 → ⊥
unfolding spelled
some_stay w c [] = some_on w c
some_stay w c (d ∷ cs) = some_stay (letter_on w c) d cs

three_on : (w : Letters) (c : ℕ) → w.count ≡ 3 → (letter_on w c).count ≡ 3
unfolding letter_on
three_on w c e =
    let no : w.count ≡ 0 → ⊥ = λ z. omega arith in
    let not_one : w.count ≡ 1 → ⊥ = λ z. omega arith in
    simp (ne_eqb _ _ no, ne_eqb _ _ not_one)

three_stay : (w : Letters) (cs : List ℕ) → w.count ≡ 3 → (spelled w cs).count ≡ 3
unfolding spelled
three_stay w [] e = e
three_stay w (c ∷ cs) e = three_stay (letter_on w c) cs (three_on w c e)

abbrev byte_in : Letters → Option ℕ
byte_in w = byte_of w.first w.second w.count

-- A word as two hex digits.
as_byte : (c : ℕ) (cs : List ℕ) → byte_in (spelled no_letters (c ∷ cs)) ≡ hex (c ∷ cs)
unfolding spelled letter_on no_letters byte_of hex
as_byte c [] = refl
as_byte c (d ∷ []) = refl
as_byte c (d ∷ e ∷ es) =
    let w : Letters = spelled (letter_on (letter_on (letter_on no_letters c) d) e) es in
    let three : w.count ≡ 3 = three_stay (letter_on (letter_on (letter_on no_letters c) d) e) es refl in
    let odd : length (c ∷ d ∷ e ∷ es) ≡ 2 → ⊥ = λ z. omega arith in
    simp (three, ne_eqb (length (c ∷ d ∷ e ∷ es)) 2 odd)

no_count : eqb no_letters.count 0 ≡ true
unfolding no_letters
no_count = refl

-- A word that was read is what the word is.
as_word : (c : ℕ) (cs : List ℕ) → done (spelled no_letters (c ∷ cs)) ≡ word_of (c ∷ cs)
unfolding done word_of no_letters
as_word c cs =
    let w : Letters = spelled no_letters (c ∷ cs) in
    let n : w.number ≡ number (c ∷ cs) = spelled_number no_letters (c ∷ cs) ∙ as_number c cs in
    let m : named w.letters ≡ name (c ∷ cs) = ap named (spelled_letters no_letters (c ∷ cs)) ∙ as_name (c ∷ cs) in
    ap (λ (x : Result ℕ NotFigure). record { number = x; byte = byte_in w; name = named w.letters }) n
    ∙ ap (λ (x : Option ℕ). record { number = number (c ∷ cs); byte = x; name = named w.letters }) (as_byte c cs)
    ∙ ap (λ (x : Name). record { number = number (c ∷ cs); byte = hex (c ∷ cs); name = x }) m

-- ---- the words of a line

-- A line read on, character by character.
unfoldable pub read_on : Reader → List ℕ → Reader
read_on r [] = r
read_on r (c ∷ cs) = read_on (character r c) cs

-- What is kept of it then.
abbrev pub keeps : Reader → TextLine
keeps r = closed r.line r.word

in_comment : (line : TextLine) (w : Letters) (cs : List ℕ) → read_on (record { line = line; word = w; comment = true }) cs ≡ record { line = line; word = w; comment = true }
unfolding read_on character
in_comment line w [] = refl
in_comment line w (c ∷ cs) = in_comment line w cs

-- Characters before the pieces that follow: they begin the first of them.
abbrev front : List ℕ → List (List ℕ) → List (List ℕ)
front u [] = u ∷ []
front u (p ∷ ps) = (u ++ p) ∷ ps

front_onto : (u : List ℕ) (c : ℕ) (ps : List (List ℕ)) → front (u ++ (c ∷ [])) ps ≡ front u (onto c ps)
front_onto u c [] = refl
front_onto u c (p ∷ ps) = ap (λ (l : List ℕ). l ∷ ps) (append_assoc u (c ∷ []) p)

onto_some : (c : ℕ) (ps : List (List ℕ)) → front [] (onto c ps) ≡ onto c ps
onto_some c [] = refl
onto_some c (p ∷ ps) = refl

front_by : (b : Bool) (c : ℕ) (ps : List (List ℕ)) → front [] (pick b ([] ∷ ps) (onto c ps)) ≡ pick b ([] ∷ ps) (onto c ps)
front_by true c ps = refl
front_by false c ps = onto_some c ps

front_none : (t : List ℕ) → front [] (cut blank t) ≡ cut blank t
unfolding cut
front_none [] = refl
front_none (c ∷ cs) = front_by (blank c) c (cut blank cs)

-- One character more.
snoc : (w : Letters) (u : List ℕ) (c : ℕ) → spelled w (u ++ (c ∷ [])) ≡ letter_on (spelled w u) c
unfolding spelled
snoc w [] c = refl
snoc w (d ∷ u) c = snoc (letter_on w d) u c

-- A word that ends is kept, if it has a character.
ends : (line : TextLine) (u : List ℕ) (ps : List (List ℕ)) → kept_all (closed line (spelled no_letters u)) (some ps) ≡ kept_all line (some (u ∷ ps))
unfolding closed kept_all some spelled
ends line [] ps = simp no_count
ends line (c ∷ cs) ps = simp (ne_eqb _ _ (some_stay no_letters c cs)) (ap (λ (w : Word). kept_all (kept line w) (some ps)) (as_word c cs))

-- The line after what is left of it, with u the characters of the word that is being read.
abbrev Comes : List ℕ → Type 0
Comes t =
    (line : TextLine) (u : List ℕ)
    → keeps (read_on (record { line = line; word = spelled no_letters u; comment = false }) t) ≡ kept_all line (some (front u (cut blank (up_to hash t))))

closed_none : (line : TextLine) → closed line no_letters ≡ line
unfolding closed
closed_none line = simp no_count

nothing_more : (line : TextLine) → kept_all line (some []) ≡ line
unfolding kept_all some
nothing_more line = refl

-- A word at the end of what counts.
at_end : (line : TextLine) (u : List ℕ) → closed line (spelled no_letters u) ≡ kept_all line (some ((u ++ []) ∷ []))
at_end line u =
    sym (nothing_more (closed line (spelled no_letters u))) ∙ ends line u [] ∙ ap (λ (l : List ℕ). kept_all line (some (l ∷ []))) (sym (append-nil u))

-- A comment: nothing more counts.
comment_on : (line : TextLine) (u cs : List ℕ)
    → keeps (read_on (record { line = closed line (spelled no_letters u); word = no_letters; comment = true }) cs) ≡ kept_all line (some (front u (cut blank [])))
unfolding cut
comment_on line u cs =
    ap keeps (in_comment (closed line (spelled no_letters u)) no_letters cs) ∙ closed_none (closed line (spelled no_letters u)) ∙ at_end line u

-- A blank: the word is over.
word_over : (line : TextLine) (u cs : List ℕ) → Comes cs
    → keeps (read_on (record { line = closed line (spelled no_letters u); word = no_letters; comment = false }) cs) ≡ kept_all line (some (u ∷ cut blank (up_to hash cs)))
unfolding spelled
word_over line u cs next =
    next (closed line (spelled no_letters u)) []
    ∙ ap (λ (l : List (List ℕ)). kept_all (closed line (spelled no_letters u)) (some l)) (front_none (up_to hash cs))
    ∙ ends line u (cut blank (up_to hash cs))

by_kind : (b h : Bool) (c : ℕ) (cs : List ℕ) → blank c ≡ b → hash c ≡ h → Comes cs → (line : TextLine) (u : List ℕ)
    → keeps (read_on (pick (b || h) (record { line = closed line (spelled no_letters u); word = no_letters; comment = h }) (record { line = line; word = letter_on (spelled no_letters u) c; comment = false })) cs)
    ≡ kept_all line (some (front u (cut blank (pick h [] (c ∷ up_to hash cs)))))
unfolding cut
by_kind true true c cs eb eh next line u = comment_on line u cs
by_kind false true c cs eb eh next line u = comment_on line u cs
by_kind true false c cs eb eh next line u =
    word_over line u cs next
    ∙ ap (λ (l : List ℕ). kept_all line (some (l ∷ cut blank (up_to hash cs)))) (sym (append-nil u))
    ∙ ap (λ (t : Bool). kept_all line (some (front u (pick t ([] ∷ cut blank (up_to hash cs)) (onto c (cut blank (up_to hash cs))))))) (sym eb)
by_kind false false c cs eb eh next line u =
    ap (λ (w : Letters). keeps (read_on (record { line = line; word = w; comment = false }) cs)) (sym (snoc no_letters u c))
    ∙ next line (u ++ (c ∷ []))
    ∙ ap (λ (l : List (List ℕ)). kept_all line (some l)) (front_onto u c (cut blank (up_to hash cs)))
    ∙ ap (λ (t : Bool). kept_all line (some (front u (pick t ([] ∷ cut blank (up_to hash cs)) (onto c (cut blank (up_to hash cs))))))) (sym eb)

pub comes : (t : List ℕ) → Comes t
unfolding read_on character up_to cut
comes [] line u = at_end line u
comes (c ∷ cs) line u = by_kind (blank c) (hash c) c cs refl refl (comes cs) line u

-- What is kept of a line that was read from its beginning on.
pub reads_words : (t : List ℕ) → keeps (read_on fresh t) ≡ line_of t
unfolding fresh line_of words_of spelled
reads_words t = comes t no_words [] ∙ ap (λ (l : List (List ℕ)). kept_all no_words (some l)) (front_none (up_to hash t))
