-- No heading needs an escape: a line is made of words that have neither mark, and of digits.
-- Assumes nothing.
use mathlib.Core.Path.{◌≡◌, refl, ap, ◌∙◌}
use mathlib.Core.Bool.{Bool, true, false, ◌&&◌}
use mathlib.Core.List.{List, [], ◌∷◌, ◌++◌}
use Prim.Native.String.{String}
use Prim.Native.Nat.{ℕ, zero, suc, ◌-◌, ◌/◌, ◌%◌, ◌<◌}
use native.Mathlib.Omega.{arith}
use lib.Dec.{eqb, ltb}
use borrow.Author.Tests.{ltb-true, ne_eqb}
use Rattle.words.specs.Answer.{pick}
use Rattle.words.proofs.Linear.{and_parts}
use Rattle.text.specs.Text.{codes, digit, digits, decimal}
use Rattle.refusals.specs.Words.{table, worded, refused}
use Rattle.telegram.specs.declared.Telegram.{Telegram}
use Rattle.contact.specs.declared.Judged.{Judged}
use Rattle.contact.specs.Says.{says_judged}
use Rattle.antenna.specs.Line.{placed}
use Rattle.contact_text.specs.Lines.{figures, what, heard}
use Rattle.antenna_text.specs.Lines.{judged_as, told_line, closed_before, end_line}
use Rattle.contact_drawing.specs.Laws.{is_plain, are_plain, NoEscape}

-- A text that needs no escape.
record Plain (t : List ℕ) : Type 0 where
  is : are_plain t ≡ true

more : (c : ℕ) (cs : List ℕ) → is_plain c ≡ true → are_plain cs ≡ true → are_plain (c ∷ cs) ≡ true
unfolding are_plain
more c cs e f = ap (λ (b : Bool). b && are_plain cs) e ∙ f

joined : (s t : List ℕ) → are_plain s ≡ true → are_plain t ≡ true → are_plain (s ++ t) ≡ true
unfolding are_plain
joined [] t e f = f
joined (c ∷ s) t e f =
    let parts = and_parts (is_plain c) (are_plain s) e in
    more c (s ++ t) parts.0 (joined s t parts.1 f)

join : {s t : List ℕ} → Plain s → Plain t → Plain (s ++ t)
join {s} {t} e f = record { is = joined s t e.is f.is }

words : (s : String) → are_plain (codes s) ≡ true → Plain (codes s)
words s e = record { is = e }

-- ---- digits

digit_plain : (d : ℕ) → d < 10 → are_plain (digit d ∷ []) ≡ true
unfolding are_plain
digit_plain d h =
    let a : eqb (digit d) 60 ≡ false = ne_eqb (digit d) 60 (λ e. omega arith) in
    let b : eqb (digit d) 38 ≡ false = ne_eqb (digit d) 38 (λ e. omega arith) in
    simp (a, b)

last_by : (n : ℕ) (front : List ℕ) (b : Bool) → ltb n 10 ≡ b → are_plain front ≡ true → are_plain (pick b (digit n ∷ []) (front ++ (digit (n % 10) ∷ []))) ≡ true
last_by n front true e f = digit_plain n (ltb-true n 10 e)
last_by n front false e f = joined front (digit (n % 10) ∷ []) f (digit_plain (n % 10) (omega arith))

digits_plain : (k n : ℕ) → are_plain (digits k n) ≡ true
unfolding digits are_plain
digits_plain zero n = refl
digits_plain (suc k) n = last_by n (digits k (n / 10)) (ltb n 10) refl (digits_plain k (n / 10))

number : (n : ℕ) → Plain (decimal n)
unfolding decimal
number n = record { is = digits_plain 20 n }

-- ---- lines

figures_plain : (t : Telegram) → Plain (figures t)
unfolding figures are_plain
figures_plain (Telegram.Figures x y z) =
    join (join (join (join (join (words " " refl) (number x)) (words " " refl)) (number y)) (words " " refl)) (number z)
figures_plain (Telegram.Number m) = join (words " 12 " refl) (number m)

what_plain : (j : Judged) → Plain (what j)
unfolding what worded table are_plain
what_plain (Judged.Read t first count) =
    join (join (join (join (join (words " telegram" refl) (figures_plain t)) (words " places " refl)) (number count)) (words " from " refl)) (number first)
what_plain Judged.Marker = record { is = refl }
what_plain Judged.NotSeven = record { is = refl }
what_plain Judged.Beyond = record { is = refl }
what_plain Judged.Differ = record { is = refl }
what_plain Judged.Neither = record { is = refl }

heard_plain : (start bits : ℕ) (j : Judged) → Plain (heard start bits j)
unfolding heard are_plain
heard_plain start bits j = join (join (join (join (number start) (words " " refl)) (number bits)) (what_plain j)) (words "\n" refl)

lines : (end bits : ℕ) (judged : Judged) → are_plain (told_line (closed_before end bits judged)) ≡ true
unfolding told_line
lines end bits judged = (heard_plain (end - bits) bits (judged_as (placed (end - bits) (says_judged judged)))).is

ending : (cut : Bool) → are_plain (end_line cut) ≡ true
unfolding end_line refused worded table decimal digits are_plain
ending true = refl
ending false = refl

pub no_escape : NoEscape
no_escape = record { lines = lines; ending = ending }
