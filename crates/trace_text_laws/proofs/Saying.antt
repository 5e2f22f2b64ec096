-- The words of a thing that has a record say it, at its place.
-- Assumes nothing.
use Rattle.std.specs.Prelude.{Option, Some, Ok, Result}
use Rattle.figures.specs.declared.NotFigure.{NotFigure}
use mathlib.Core.Path.{◌≡◌, refl, sym, ap, subst, ◌∙◌}
use mathlib.Core.Bool.{Bool, true, false}
use mathlib.Core.List.{List, [], ◌∷◌}
use Prim.Native.Nat.{ℕ, ◌≤◌, ◌<◌}
use native.Mathlib.Omega.{arith}
use lib.Dec.{eqb}
use borrow.Author.Tests.{le-leb}
use Rattle.words.specs.Answer.{gives, then, pick}
use Rattle.text.specs.Text.{codes, digits, decimal}
use Rattle.figures.specs.Figures.{hex}
use Rattle.telegram.specs.declared.Telegram.{Telegram}
use Rattle.telegram.specs.Spelling.{asked, spell}
use Rattle.lines.specs.Words.{largest, number, same, name, word_of, no_words, kept, kept_all}
use Rattle.lines_laws.specs.Printed as printed
use Rattle.lines_laws.specs.Printed.{plain}
use Rattle.lines_laws.proofs.Numbers.{numbers_back}
use Rattle.trace_text.specs.declared.What.{What}
use Rattle.trace_text.specs.declared.Said.{Said}
use Rattle.trace_text.specs.Said.{figure_of, named, numbered, figures, raw, what_of, at_place, said}
use Rattle.trace_text.specs.Record.{bytes_of, record_of_meant}
use Rattle.trace_text_laws.specs.Laws.{Bytes, HasRecord, as_said}
use Rattle.trace_text_laws.proofs.Words.{in_hex, words_in, byte_back, hex_word, its_figures}

-- Two words, three, four and six.
two : (p a : List ℕ) → said (kept_all no_words (p ∷ a ∷ [])) ≡ at_place (number p) (named (name a))
unfolding said what_of kept_all kept no_words word_of
two p a = refl

three : (p a b : List ℕ) → said (kept_all no_words (p ∷ a ∷ b ∷ [])) ≡ at_place (number p) (numbered (number a) (number b))
unfolding said what_of kept_all kept no_words word_of
three p a b = refl

four : (p a b c : List ℕ) → said (kept_all no_words (p ∷ a ∷ b ∷ c ∷ [])) ≡ at_place (number p) (figures (number a) (number b) (number c))
unfolding said what_of kept_all kept no_words word_of
four p a b c = refl

six : (p a b c d e : List ℕ) → said (kept_all no_words (p ∷ a ∷ b ∷ c ∷ d ∷ e ∷ [])) ≡ at_place (number p) (raw (name a) (hex b) (hex c) (hex d) (hex e))
unfolding said what_of kept_all kept no_words word_of
six p a b c d e = refl

-- What stands after the place.
twelve_is : number (codes "12") ≡ Ok 12
unfolding decimal digits
twelve_is = numbers_back.reads 12 (omega arith)

reads_number : (y : ℕ) → y ≤ 2047 → numbered (number (codes "12")) (number (decimal y)) ≡ Some (What.Balise 12 y 0)
unfolding numbered figure_of
reads_number y h =
    let fits : y ≤ 65535 = omega arith in
    simp (twelve_is, numbers_back.reads y (omega arith), le-leb y 65535 fits)

reads_figures : (x y z : ℕ) → eqb x 12 ≡ false → x ≤ 15 → y ≤ 15 → z ≤ 15 → figures (number (decimal x)) (number (decimal y)) (number (decimal z)) ≡ Some (What.Balise x y z)
unfolding figures figure_of
reads_figures x y z other hx hy hz =
    let a : x ≤ 255 = omega arith in
    let b : y ≤ 65535 = omega arith in
    let c : z ≤ 255 = omega arith in
    simp (numbers_back.reads x (omega arith), numbers_back.reads y (omega arith), numbers_back.reads z (omega arith), le-leb x 255 a, le-leb y 65535 b, le-leb z 255 c, other)

reads_raw : (kind x y z : ℕ) → kind < 256 → x < 256 → y < 256 → z < 256
    → raw (name (codes "raw")) (hex (in_hex kind)) (hex (in_hex x)) (hex (in_hex y)) (hex (in_hex z)) ≡ Some (What.Raw kind x y z)
unfolding raw name same
reads_raw kind x y z hk hx hy hz = simp (byte_back kind hk, byte_back x hx, byte_back y hy, byte_back z hz)

-- The words of a thing that has a record are words, and say it at its place.
abbrev pub SaysIt : ℕ → What → Type 0
SaysIt place what = printed.Words (words_in what) × (said (kept_all no_words (decimal place ∷ words_in what)) ≡ Said.Thing place (as_said what))

at_its_place : (place : ℕ) → place ≤ largest → (r : Option What) → at_place (number (decimal place)) r ≡ at_place (Ok place) r
at_its_place place low r = ap (λ (n : Result ℕ NotFigure). at_place n r) (numbers_back.reads place low)

of_name : (place : ℕ) (a : List ℕ) (what : What) → place ≤ largest → named (name a) ≡ Some what → said (kept_all no_words (decimal place ∷ a ∷ [])) ≡ Said.Thing place what
of_name place a what low is = two (decimal place) a ∙ at_its_place place low (named (name a)) ∙ ap (at_place (Ok place)) is

pub says_it : (place : ℕ) (what : What) → place ≤ largest → HasRecord place what → SaysIt place what
unfolding record_of_meant name same plain
says_it place (What.Balise x y z) low has = by (eqb x 12) refl
  where
    by : (t : Bool) → eqb x 12 ≡ t
        → printed.Words (pick t (codes "12" ∷ decimal y ∷ []) (decimal x ∷ decimal y ∷ decimal z ∷ []))
        × (said (kept_all no_words (decimal place ∷ pick t (codes "12" ∷ decimal y ∷ []) (decimal x ∷ decimal y ∷ decimal z ∷ []))) ≡ Said.Thing place (pick t (What.Balise 12 y 0) (What.Balise x y z)))
    by true is =
        let known = (its_figures place x y z has.0 has.1).as_number is in (
          (((omega arith, refl), (numbers_back.a_word y, tt))),
          three (decimal place) (codes "12") (decimal y) ∙ at_its_place place low (numbered (number (codes "12")) (number (decimal y))) ∙ ap (at_place (Ok place)) (reads_number y known),
        )
    by false is =
        let known = (its_figures place x y z has.0 has.1).as_figures is in (
          (numbers_back.a_word x, (numbers_back.a_word y, (numbers_back.a_word z, tt))),
          four (decimal place) (decimal x) (decimal y) (decimal z)
              ∙ at_its_place place low (figures (number (decimal x)) (number (decimal y)) (number (decimal z)))
              ∙ ap (at_place (Ok place)) (reads_figures x y z is known.0 known.1 known.2),
        )
says_it place What.Marker low has = (((omega arith, refl), tt), of_name place (codes "marker") What.Marker low refl)
says_it place What.Unreadable low has = (((omega arith, refl), tt), of_name place (codes "unreadable") What.Unreadable low refl)
says_it place What.Position low has = (((omega arith, refl), tt), of_name place (codes "position") What.Position low refl)
says_it place (What.Raw kind x y z) low has =
    let same_bytes : bytes_of place kind x y z ≡ has.0 = cc in
    let all : Bytes (bytes_of place kind x y z) = subst Bytes (sym same_bytes) has.2 in
    let words = all.1.1.1.1 in (
      ((omega arith, refl), (hex_word kind words.0, (hex_word x words.1.0, (hex_word y words.1.1.0, (hex_word z words.1.1.1.0, tt))))),
      six (decimal place) (codes "raw") (in_hex kind) (in_hex x) (in_hex y) (in_hex z)
          ∙ at_its_place place low (raw (name (codes "raw")) (hex (in_hex kind)) (hex (in_hex x)) (hex (in_hex y)) (hex (in_hex z)))
          ∙ ap (at_place (Ok place)) (reads_raw kind x y z words.0 words.1.0 words.1.1.0 words.1.1.1.0),
    )

-- The third figure of a number balise is not looked at.
pub same_record : (place : ℕ) (what : What) → record_of_meant place (as_said what) ≡ record_of_meant place what
unfolding record_of_meant asked
same_record place (What.Balise x y z) = by (eqb x 12) refl
  where
    by : (t : Bool) → eqb x 12 ≡ t → record_of_meant place (pick t (What.Balise 12 y 0) (What.Balise x y z)) ≡ record_of_meant place (What.Balise x y z)
    by true is = ap (λ (m : Telegram). then (spell m) λ w. gives (bytes_of place 0 w.x w.y w.z)) (ap (λ (t : Bool). pick t (Telegram.Number y) (Telegram.Figures x y z)) (sym is))
    by false is = refl
same_record place What.Marker = refl
same_record place What.Unreadable = refl
same_record place What.Position = refl
same_record place (What.Raw kind x y z) = refl
