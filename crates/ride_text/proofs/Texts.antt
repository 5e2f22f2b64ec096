-- The text of lines that follow each other, and the room that a record's lines need.
-- Assumes nothing.
use mathlib.Core.Path.{◌≡◌, refl, sym, ap, ◌∙◌}
use mathlib.Core.List.{List, [], ◌∷◌, ◌++◌, append_assoc, append-nil}
use Prim.Native.Nat.{ℕ, ◌+◌, ◌≤◌}
use native.Mathlib.Omega.{arith}
use native.Mathlib.Nat.{add-zero}
use lib.ListN.{length, length-append}
use Rattle.text.specs.Text.{codes}
use Rattle.text.specs.Put.{put, came}
use Rattle.text.proofs.Placing.{placed_none}
use Rattle.text.proofs.Standing.{numbered, was_put}
use Rattle.group.specs.declared.Group.{Group}
use Rattle.ride.specs.declared.Line.{Line}
use Rattle.ride.specs.declared.Lines.{Lines}
use Rattle.std.specs.Prelude.{Result, Ok, Err}
use Rattle.ride.specs.declared.Wrong.{Wrong}
use Rattle.ride.specs.Over.{lines_for}
use Rattle.ride.specs.Says.{says_wrong, says_lines, says_given}
use Rattle.ride_text.specs.Style.{Style, plain}
use Rattle.ride_text.specs.Text.{text_with, text, text_of, line_text, lines_text}
use Rattle.ride_text.specs.List.{room_for}
use Rattle.ride_text.proofs.Longest.{halves, line_length}

-- ---- as document 01 has them

pub text_one : (l : Line) → text l ≡ text_of (l ∷ [])
unfolding text_of
text_one l = sym (append-nil (text l))

pub text_join : (xs ys : List Line) → text_of (xs ++ ys) ≡ text_of xs ++ text_of ys
unfolding text_of
text_join [] ys = refl
text_join (l ∷ xs) ys = ap (λ (t : List ℕ). text l ++ t) (text_join xs ys) ∙ sym (append_assoc (text l) (text_of xs) (text_of ys))

-- Without reasons no group is asked.
pub plain_is : (g : Group) (ls : List Line) → lines_text plain g ls ≡ text_of ls
unfolding lines_text text_of
plain_is g [] = refl
plain_is g (l ∷ ls) = ap (λ (t : List ℕ). text l ++ t) (plain_is g ls)

-- ---- pieces

pub fault_is : (place n : ℕ) (why : List ℕ) → numbered "" place ++ numbered " fault " n ++ why ++ codes "\n" ≡ text_with why (Line.Fault place n)
unfolding text_with
fault_is place n why = simp append_assoc

-- No text put is nothing changed.
pub put_nothing : (b : List ℕ) (at : ℕ) → at ≤ length b → came at b ≡ put [] b at
put_nothing b at h = was_put (record { put = (sym (add-zero at), sym (placed_none b at)); fits = omega arith })

module _ (style : Style) (g : Group) where
  pub one_is : (l : Line) → line_text style g l ≡ lines_text style g (l ∷ [])
  unfolding lines_text
  one_is l = sym (append-nil (line_text style g l))

  pub two_is : (l m : Line) → line_text style g l ++ line_text style g m ≡ lines_text style g (l ∷ m ∷ [])
  unfolding lines_text
  two_is l m = ap (λ (t : List ℕ). line_text style g l ++ t) (sym (append-nil (line_text style g m)))

  pub lines_join : (xs ys : List Line) → lines_text style g (xs ++ ys) ≡ lines_text style g xs ++ lines_text style g ys
  unfolding lines_text
  lines_join [] ys = refl
  lines_join (l ∷ xs) ys =
      ap (λ (t : List ℕ). line_text style g l ++ t) (lines_join xs ys) ∙ sym (append_assoc (line_text style g l) (lines_text style g xs) (lines_text style g ys))

  pub one_fits : (l : Line) (b : List ℕ) (at : ℕ) → at + room_for style ≤ length b → at + length (line_text style g l) ≤ length b
  one_fits l b at h = omega (arith, line_length style g l, halves style)

  pub two_fit : (l m : Line) (b : List ℕ) (at : ℕ) → at + room_for style ≤ length b → at + length (line_text style g l ++ line_text style g m) ≤ length b
  two_fit l m b at h = omega (arith, line_length style g l, line_length style g m, halves style, length-append (line_text style g l) (line_text style g m))

  -- The lines of a record have no more bytes than there is room for.
  one_short : (l : Line) → length (lines_text style g (l ∷ [])) ≤ room_for style
  one_short l = omega (arith, line_length style g l, halves style, ap length (one_is l))

  pub lines_short : (ls : Lines) → length (lines_text style g (says_lines ls)) ≤ room_for style
  unfolding lines_text
  lines_short Lines.None = omega arith
  lines_short (Lines.One l) = one_short l
  lines_short (Lines.Two l m) = omega (arith, line_length style g l, line_length style g m, halves style, length-append (line_text style g l) (line_text style g m), ap length (two_is l m))

  pub given_short : (number : ℕ) (given : Result Lines Wrong) → length (lines_text style g (lines_for number (says_given given))) ≤ room_for style
  given_short number (Err w) = one_short (Line.Record number (says_wrong w))
  given_short number (Ok ls) = lines_short ls
