-- Texts of a command line, computed.
-- Assumes nothing.
use mathlib.Core.Path.{◌≡◌, refl}
use mathlib.Core.List.{[]}
use Rattle.figures.specs.Figures.{all_digits_meant, continued, decimal, hex_digit, hex}
use Rattle.std.specs.Prelude.{Ok, Err, Some, None}
use Rattle.figures.specs.declared.NotFigure.{NotFigure}
use Rattle.text.specs.Text.{codes}

pub numbers : (decimal (codes "0") 15 ≡ Ok 0) × (decimal (codes "0015") 15 ≡ Ok 15) × (decimal (codes "16") 15 ≡ Err NotFigure.Above)
    × (decimal (codes "18446744073709551616") 18446744073709551615 ≡ Err NotFigure.Above) × (decimal (codes "99999999999999999999999999") 255 ≡ Err NotFigure.Above)
unfolding decimal all_digits_meant continued
numbers = (refl, refl, refl, refl, refl)

pub odd_ones : (decimal [] 15 ≡ Err NotFigure.Odd) × (decimal (codes "1 ") 15 ≡ Err NotFigure.Odd) × (decimal (codes "-1") 15 ≡ Err NotFigure.Odd) × (decimal (codes "99x") 15 ≡ Err NotFigure.Odd)
unfolding decimal all_digits_meant continued
odd_ones = (refl, refl, refl, refl)

pub words : (hex (codes "00") ≡ Some 0) × (hex (codes "fF") ≡ Some 255) × (hex (codes "1e") ≡ Some 0x1e) × (hex (codes "A9") ≡ Some 0xa9)
unfolding hex hex_digit
words = (refl, refl, refl, refl)

pub no_words : (hex [] ≡ None) × (hex (codes "7") ≡ None) × (hex (codes "100") ≡ None) × (hex (codes "g0") ≡ None) × (hex (codes "0x") ≡ None)
unfolding hex hex_digit
no_words = (refl, refl, refl, refl, refl)
