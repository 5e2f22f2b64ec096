-- The words of a thing: two hex digits are a byte, and the figures of a balise that has a record
-- are small.
-- Assumes nothing.
use mathlib.Core.Path.{◌≡◌, refl, sym, ap, ap₂, ◌∙◌}
use mathlib.Core.Bool.{Bool, true, false, ◌||◌}
use mathlib.Core.List.{List, [], ◌∷◌, ◌++◌, append_assoc}
use Prim.Native.Nat.{ℕ, ◌+◌, ◌-◌, ◌*◌, ◌/◌, ◌%◌, ◌≤◌, ◌<◌}
use native.Mathlib.Omega.{arith}
use lib.Dec.{eqb, ltb}
use borrow.Author.Tests.{ltb-false, ltb-true}
use Rattle.words.specs.Answer.{Outcome, gives, refuses, then, pick}
use Rattle.words.proofs.Never.{cannot_be}
use Rattle.text.specs.Text.{codes, decimal}
use Rattle.figures.specs.Figures.{hex_digit, hex}
use Rattle.std.specs.Prelude.{Some}
use Rattle.figures.proofs.Characters.{decimal_digit, large_letter, two_digits}
use Rattle.telegram.specs.declared.Telegram.{Telegram}
use Rattle.telegram.specs.Spelling.{Words, asked, too_large, has_fifteen, words_of, spell}
use Rattle.lines_laws.specs.Printed.{plain, AWord, spaced}
use Rattle.lines_laws.proofs.Numbers.{no_mark}
use Rattle.trace_text.specs.declared.What.{What}
use Rattle.trace_text.specs.Record.{bytes_of, record_of_meant}
use Rattle.trace_text.specs.Line.{hex_sign, byte_text, balise, what_text}

-- ---- the words of a thing

abbrev pub in_hex : ℕ → List ℕ
in_hex b = hex_sign (b / 16) ∷ hex_sign (b % 16) ∷ []

abbrev pub words_in : What → List (List ℕ)
words_in (What.Balise x y z) = pick (eqb x 12) (codes "12" ∷ decimal y ∷ []) (decimal x ∷ decimal y ∷ decimal z ∷ [])
words_in What.Marker = codes "marker" ∷ []
words_in What.Unreadable = codes "unreadable" ∷ []
words_in What.Position = codes "position" ∷ []
words_in (What.Raw kind x y z) = codes "raw" ∷ in_hex kind ∷ in_hex x ∷ in_hex y ∷ in_hex z ∷ []

-- Its text is those words, each after a blank.
pub in_words : (what : What) (rest : List ℕ) → what_text what ++ rest ≡ spaced (words_in what) rest
unfolding what_text balise byte_text
in_words (What.Balise x y z) rest = by (eqb x 12)
  where
    by : (t : Bool) → pick t (codes " 12 " ++ decimal y) (codes " " ++ decimal x ++ codes " " ++ decimal y ++ codes " " ++ decimal z) ++ rest
        ≡ spaced (pick t (codes "12" ∷ decimal y ∷ []) (decimal x ∷ decimal y ∷ decimal z ∷ [])) rest
    by true = refl
    by false = simp append_assoc
in_words What.Marker rest = refl
in_words What.Unreadable rest = refl
in_words What.Position rest = refl
in_words (What.Raw kind x y z) rest = refl

-- ---- two hex digits

sign : (d : ℕ) → d ≤ 15 → (hex_digit (hex_sign d) ≡ d) × (48 ≤ hex_sign d)
unfolding hex_sign
sign d h = by (ltb d 10) refl
  where
    by : (t : Bool) → ltb d 10 ≡ t → (hex_digit (pick t (48 + d) (55 + d)) ≡ d) × (48 ≤ pick t (48 + d) (55 + d))
    by true e =
        let small = ltb-true d 10 e in
        (sym (decimal_digit (48 + d) (omega arith) (omega arith)) ∙ (let z : 48 + d - 48 ≡ d = omega arith in z), omega arith)
    by false e =
        let large = ltb-false d 10 e in
        (sym (large_letter (55 + d) (omega arith) (omega arith)) ∙ (let z : 55 + d - 55 ≡ d = omega arith in z), omega arith)

pub byte_back : (b : ℕ) → b < 256 → hex (in_hex b) ≡ Some b
byte_back b small =
    let high = sign (b / 16) (omega arith) in
    let low = sign (b % 16) (omega arith) in
    let h : hex_digit (hex_sign (b / 16)) < 16 = omega (arith, high.0) in
    let l : hex_digit (hex_sign (b % 16)) < 16 = omega (arith, low.0) in
    sym (two_digits (in_hex b) refl h l)
    ∙ ap₂ (λ (v w : ℕ). Some (v * 16 + w)) high.0 low.0
    ∙ ap Some (let z : b / 16 * 16 + b % 16 ≡ b = omega arith in z)

pub hex_word : (b : ℕ) → b < 256 → AWord (in_hex b)
unfolding plain
hex_word b small =
    let high = sign (b / 16) (omega arith) in
    let low = sign (b % 16) (omega arith) in
    (omega arith, simp (no_mark (hex_sign (b / 16)) high.1, no_mark (hex_sign (b % 16)) low.1))

-- ---- what is known of a thing that has a record

-- The figures of a balise, as far as they are looked at.
pub record Small (x y z : ℕ) : Type 0 where
  pub as_number : eqb x 12 ≡ true → y ≤ 2047
  pub as_figures : eqb x 12 ≡ false → (x ≤ 15) × (y ≤ 15) × (z ≤ 15)

spelt_small : (m : Telegram) (w : Words) → spell m ≡ gives w → too_large m ≡ false
unfolding spell
spelt_small m w e = by (too_large m) (has_fifteen m) e
  where
    by : (a b : Bool) → pick {A = Outcome Words} a (refuses 2) (pick b (refuses 3) (gives (words_of m))) ≡ gives w → a ≡ false
    by false b e = refl
    by true b e = cannot_be cc

none_large : (a b c : Bool) → (a || b || c) ≡ false → (a ≡ false) × (b ≡ false) × (c ≡ false)
none_large false false false e = (refl, refl, refl)
none_large true b c e = cannot_be cc
none_large false true c e = cannot_be cc
none_large false false true e = cannot_be cc

small : (x y z : ℕ) → too_large (asked x y z) ≡ false → Small x y z
unfolding asked too_large
small x y z e =
    record {
      as_number = λ is. ltb-false 2047 y (ap (λ (t : Bool). too_large (pick t (Telegram.Number y) (Telegram.Figures x y z))) (sym is) ∙ e);
      as_figures = λ is.
          let all = none_large (ltb 15 x) (ltb 15 y) (ltb 15 z) (ap (λ (t : Bool). too_large (pick t (Telegram.Number y) (Telegram.Figures x y z))) (sym is) ∙ e) in
          (ltb-false 15 x all.0, ltb-false 15 y all.1, ltb-false 15 z all.2);
    }

pub its_figures : (place x y z : ℕ) (bytes : List ℕ) → record_of_meant place (What.Balise x y z) ≡ gives bytes → Small x y z
unfolding record_of_meant
its_figures place x y z bytes e = by (spell (asked x y z)) refl e
  where
    by : (o : Outcome Words) → spell (asked x y z) ≡ o → then o (λ w. gives (bytes_of place 0 w.x w.y w.z)) ≡ gives bytes → Small x y z
    by (gives w) is e = small x y z (spelt_small (asked x y z) w is)
    by (refuses n) is e = cannot_be cc
