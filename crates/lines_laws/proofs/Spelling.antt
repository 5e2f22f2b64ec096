-- A word read character by character is what the word is.
-- Assumes nothing.
use mathlib.Core.Path.{◌≡◌, refl, sym, ap, ◌∙◌}
use mathlib.Core.Bool.{Bool, true, false, ◌&&◌}
use mathlib.Core.List.{List, [], ◌∷◌}
use Prim.Native.Nat.{ℕ, ◌+◌, ◌-◌, ◌*◌, ◌≤◌, ◌<◌}
use native.Mathlib.Omega.{arith}
use lib.Dec.{eqb, leb}
use lib.ListN.{length}
use borrow.Author.Tests.{le-leb, lt-leb, leb-true, leb-false, lt-ltb}
use Rattle.words.specs.Answer.{pick}
use Rattle.figures.specs.Figures.{between, all_digits_meant, continued, decimal}
use Rattle.std.specs.Prelude.{Ok, Err, Result}
use Rattle.figures.specs.declared.NotFigure.{NotFigure}
use Rattle.figures.proofs.Characters.{grows}
use Rattle.lines.specs.declared.Letters.{Letters}
use Rattle.lines.specs.Words.{largest, number}
use Rattle.lines.specs.Reading.{digit_on, number_on, letters_on, letter_on}

-- A word after some characters more.
unfoldable pub spelled : Letters → List ℕ → Letters
spelled w [] = w
spelled w (c ∷ cs) = spelled (letter_on w c) cs

-- A number after some characters more.
unfoldable pub numbers_on : Result ℕ NotFigure → List ℕ → Result ℕ NotFigure
numbers_on n [] = n
numbers_on n (c ∷ cs) = numbers_on (number_on n c) cs

-- What is no number stays none;
odd_by : (b : Bool) (cs : List ℕ) → numbers_on (Err NotFigure.Odd) cs ≡ Err NotFigure.Odd → numbers_on (pick b (Err NotFigure.Odd) (Err NotFigure.Odd)) cs ≡ Err NotFigure.Odd
odd_by true cs e = e
odd_by false cs e = e

odd_on : (cs : List ℕ) → numbers_on (Err NotFigure.Odd) cs ≡ Err NotFigure.Odd
unfolding numbers_on number_on
odd_on [] = refl
odd_on (c ∷ cs) = odd_by (between 48 57 c) cs (odd_on cs)

-- what is too large stays so as long as digits follow.
above_by : (b : Bool) (cs : List ℕ) → numbers_on (Err NotFigure.Above) cs ≡ pick (all_digits_meant cs) (Err NotFigure.Above) (Err NotFigure.Odd)
    → numbers_on (pick b (Err NotFigure.Above) (Err NotFigure.Odd)) cs ≡ pick (b && all_digits_meant cs) (Err NotFigure.Above) (Err NotFigure.Odd)
above_by true cs e = e
above_by false cs e = odd_on cs

above_on : (cs : List ℕ) → numbers_on (Err NotFigure.Above) cs ≡ pick (all_digits_meant cs) (Err NotFigure.Above) (Err NotFigure.Odd)
unfolding numbers_on number_on all_digits_meant
above_on [] = refl
above_on (c ∷ cs) = above_by (between 48 57 c) cs (above_on cs)

-- What holds of a word with one character more, however many it has.
pub by_count : (P : Letters → Type 0) (a b : Bool) (x y z : Letters) → P x → P y → P z → P (pick a x (pick b y z))
by_count P true b x y z p q r = p
by_count P false true x y z p q r = q
by_count P false false x y z p q r = r

abbrev pub one : Letters → ℕ → Letters
one w c = record { number = number_on w.number c; first = c; second = w.second; count = 1; letters = letters_on w.letters c }

abbrev pub two : Letters → ℕ → Letters
two w c = record { number = number_on w.number c; first = w.first; second = c; count = 2; letters = letters_on w.letters c }

abbrev pub three : Letters → ℕ → Letters
three w c = record { number = number_on w.number c; first = w.first; second = w.second; count = 3; letters = letters_on w.letters c }

pub by_letter : (P : Letters → Type 0) (w : Letters) (c : ℕ) → P (one w c) → P (two w c) → P (three w c) → P (letter_on w c)
unfolding letter_on
by_letter P w c = by_count P (eqb w.count 0) (eqb w.count 1) (one w c) (two w c) (three w c)

same_number : (w : Letters) (c : ℕ) → (letter_on w c).number ≡ number_on w.number c
same_number w c = by_letter (λ (x : Letters). x.number ≡ number_on w.number c) w c refl refl refl

-- What a number so far and its digits come to.
abbrev comes : ℕ → List ℕ → Result ℕ NotFigure
comes n cs = pick (all_digits_meant cs) (pick (leb (continued n cs) largest) (Ok (continued n cs)) (Err NotFigure.Above)) (Err NotFigure.Odd)

-- A digit that takes it above the largest,
too_large : (m : ℕ) (cs : List ℕ) → largest < m → pick (all_digits_meant cs) (Err NotFigure.Above) (Err NotFigure.Odd) ≡ comes m cs
too_large m cs h = let g : m ≤ continued m cs = grows m cs in let over : largest < continued m cs = omega arith in simp (lt-leb _ _ over)

digit_by : (b : Bool) (m : ℕ) (cs : List ℕ) → leb m largest ≡ b → (m ≤ largest → numbers_on (Ok m) cs ≡ comes m cs)
    → numbers_on (pick b (Ok m) (Err NotFigure.Above)) cs ≡ comes m cs
digit_by true m cs e next = next (leb-true m largest e)
digit_by false m cs e next = above_on cs ∙ too_large m cs (leb-false m largest e)

-- or any other character.
is_by : (b : Bool) (m : ℕ) (cs : List ℕ) → (m ≤ largest → numbers_on (Ok m) cs ≡ comes m cs)
    → numbers_on (pick b (pick (leb m largest) (Ok m) (Err NotFigure.Above)) (Err NotFigure.Odd)) cs
    ≡ pick (b && all_digits_meant cs) (pick (leb (continued m cs) largest) (Ok (continued m cs)) (Err NotFigure.Above)) (Err NotFigure.Odd)
is_by true m cs next = digit_by (leb m largest) m cs refl next
is_by false m cs next = odd_on cs

is_on : (n : ℕ) (cs : List ℕ) → n ≤ largest → numbers_on (Ok n) cs ≡ comes n cs
unfolding numbers_on number_on digit_on all_digits_meant continued
is_on n [] h = simp (le-leb n largest h)
is_on n (c ∷ cs) h = is_by (between 48 57 c) (n * 10 + (c - 48)) cs (is_on (n * 10 + (c - 48)) cs)

-- A word as a number is the number that its characters make.
pub as_number : (c : ℕ) (cs : List ℕ) → numbers_on (Ok 0) (c ∷ cs) ≡ number (c ∷ cs)
unfolding number decimal
as_number c cs =
    let v : ℕ = continued 0 (c ∷ cs) in
    let some : 0 < length (c ∷ cs) = omega arith in
    is_on 0 (c ∷ cs) (omega arith)
    ∙ ap (λ (t : Bool). pick (t && all_digits_meant (c ∷ cs)) (pick (leb v largest) (Ok v) (Err NotFigure.Above)) (Err NotFigure.Odd)) (sym (lt-ltb 0 (length (c ∷ cs)) some))

-- The number of a word that is spelled.
pub spelled_number : (w : Letters) (cs : List ℕ) → (spelled w cs).number ≡ numbers_on w.number cs
unfolding spelled numbers_on
spelled_number w [] = refl
spelled_number w (c ∷ cs) = spelled_number (letter_on w c) cs ∙ ap (λ (n : Result ℕ NotFigure). numbers_on n cs) (same_number w c)
