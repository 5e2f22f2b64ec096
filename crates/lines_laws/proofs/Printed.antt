-- A line of words with single blanks and a comment is cut at its blanks, up to the comment, into
-- those words.
-- Assumes nothing.
use mathlib.Core.Path.{◌≡◌, refl, ap, ◌∙◌}
use mathlib.Core.Bool.{Bool, true, false, not, ◌||◌}
use mathlib.Core.List.{List, [], ◌∷◌, ◌++◌}
use Prim.Native.Nat.{ℕ, ◌<◌}
use native.Mathlib.Omega.{arith}
use lib.ListN.{length}
use Rattle.words.specs.Answer.{pick}
use Rattle.words.proofs.Never.{cannot_be}
use Rattle.words.proofs.Linear.{and_parts}
use Rattle.lines.specs.Text.{blank, newline, hash, up_to, onto, cut, some, words_of}
use Rattle.lines_laws.specs.Laws.{OneLine}
use Rattle.lines_laws.specs.Printed.{plain, AWord, Words, spaced, WordsBack}

-- What is known of the first character of a word.
record Plain (c : ℕ) (cs : List ℕ) : Type 0 where
  pub no_blank : blank c ≡ false
  pub no_hash : hash c ≡ false
  pub no_newline : newline c ≡ false
  pub rest : plain cs ≡ true

first : (c : ℕ) (cs : List ℕ) → plain (c ∷ cs) ≡ true → Plain c cs
unfolding plain
first c cs e =
    let parts = and_parts (not (blank c || hash c || newline c)) (plain cs) e in
    by (blank c) (hash c) (newline c) refl refl refl parts.0 parts.1
  where
    by : (b h n : Bool) → blank c ≡ b → hash c ≡ h → newline c ≡ n → not (b || h || n) ≡ true → plain cs ≡ true → Plain c cs
    by false false false eb eh en is rest = record { no_blank = eb; no_hash = eh; no_newline = en; rest = rest }
    by true h n eb eh en is rest = cannot_be cc
    by false true n eb eh en is rest = cannot_be cc
    by false false true eb eh en is rest = cannot_be cc

-- A word has no `#` and no newline, so that what stands before the first of them goes on behind it;
up_to_hash : (u t : List ℕ) → plain u ≡ true → up_to hash (u ++ t) ≡ u ++ up_to hash t
unfolding up_to
up_to_hash [] t e = refl
up_to_hash (c ∷ cs) t e =
    let p = first c cs e in
    ap (λ (b : Bool). pick b [] (c ∷ up_to hash (cs ++ t))) p.no_hash ∙ ap (λ (l : List ℕ). c ∷ l) (up_to_hash cs t p.rest)

up_to_newline : (u t : List ℕ) → plain u ≡ true → up_to newline (u ++ t) ≡ u ++ up_to newline t
unfolding up_to
up_to_newline [] t e = refl
up_to_newline (c ∷ cs) t e =
    let p = first c cs e in
    ap (λ (b : Bool). pick b [] (c ∷ up_to newline (cs ++ t))) p.no_newline ∙ ap (λ (l : List ℕ). c ∷ l) (up_to_newline cs t p.rest)

-- and a blank after it ends it.
cut_after : (u t : List ℕ) → plain u ≡ true → cut blank (u ++ 32 ∷ t) ≡ u ∷ cut blank t
unfolding cut
cut_after [] t e = refl
cut_after (c ∷ cs) t e =
    let p = first c cs e in
    ap (λ (b : Bool). pick b ([] ∷ cut blank (cs ++ 32 ∷ t)) (onto c (cut blank (cs ++ 32 ∷ t)))) p.no_blank
    ∙ ap (onto c) (cut_after cs t p.rest)

-- Word after word.
before_comment : (w : List ℕ) (ws : List (List ℕ)) (comment : List ℕ) → AWord w → Words ws → up_to hash (w ++ spaced ws (32 ∷ 35 ∷ comment)) ≡ w ++ spaced ws (32 ∷ [])
unfolding up_to
before_comment w [] comment is are = up_to_hash w (32 ∷ 35 ∷ comment) is.1
before_comment w (v ∷ vs) comment is are =
    up_to_hash w (32 ∷ (v ++ spaced vs (32 ∷ 35 ∷ comment))) is.1 ∙ ap (λ (l : List ℕ). w ++ 32 ∷ l) (before_comment v vs comment are.0 are.1)

one_line : (w : List ℕ) (ws : List (List ℕ)) (comment : List ℕ) → AWord w → Words ws → OneLine comment → OneLine (w ++ spaced ws (32 ∷ 35 ∷ comment))
unfolding up_to
one_line w [] comment is are one = up_to_newline w (32 ∷ 35 ∷ comment) is.1 ∙ ap (λ (l : List ℕ). w ++ 32 ∷ 35 ∷ l) one
one_line w (v ∷ vs) comment is are one =
    up_to_newline w (32 ∷ (v ++ spaced vs (32 ∷ 35 ∷ comment))) is.1 ∙ ap (λ (l : List ℕ). w ++ 32 ∷ l) (one_line v vs comment are.0 are.1 one)

-- A piece that is not empty counts.
is_some : (w : List ℕ) (ps : List (List ℕ)) → 0 < length w → some (w ∷ ps) ≡ w ∷ some ps
unfolding some
is_some [] ps h = absurd (omega arith)
is_some (c ∷ cs) ps h = refl

no_more : some (cut blank []) ≡ []
unfolding some cut
no_more = refl

the_words : (w : List ℕ) (ws : List (List ℕ)) → AWord w → Words ws → some (cut blank (w ++ spaced ws (32 ∷ []))) ≡ w ∷ ws
the_words w [] is are = ap some (cut_after w [] is.1) ∙ is_some w (cut blank []) is.0 ∙ ap (λ (l : List (List ℕ)). w ∷ l) no_more
the_words w (v ∷ vs) is are =
    ap some (cut_after w (v ++ spaced vs (32 ∷ [])) is.1)
    ∙ is_some w (cut blank (v ++ spaced vs (32 ∷ []))) is.0
    ∙ ap (λ (l : List (List ℕ)). w ∷ l) (the_words v vs are.0 are.1)

-- A word has no end of a line in it.
pub of_word : (u : List ℕ) → plain u ≡ true → OneLine u
unfolding up_to
of_word [] e = refl
of_word (c ∷ cs) e =
    let p = first c cs e in
    ap (λ (b : Bool). pick b [] (c ∷ up_to newline cs)) p.no_newline ∙ ap (λ (l : List ℕ). c ∷ l) (of_word cs p.rest)

pub words_back : WordsBack
unfolding words_of
words_back w ws comment is are one =
    (one_line w ws comment is are one, ap (λ (l : List ℕ). some (cut blank l)) (before_comment w ws comment is are) ∙ the_words w ws is are)
