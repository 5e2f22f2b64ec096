-- The lines by their pieces, as they are put, and how long they are at most.
-- Assumes nothing.
use mathlib.Core.Path.{◌≡◌, refl}
use mathlib.Core.Bool.{Bool, true, false}
use mathlib.Core.List.{List, [], ◌++◌, append_assoc}
use Prim.Native.Nat.{ℕ, ◌+◌, ◌≤◌}
use native.Mathlib.Omega.{arith}
use lib.Dec.{eqb}
use lib.ListN.{length, length-append}
use borrow.Author.Tests.{eq-eqb, ne_eqb}
use Rattle.words.specs.Answer.{pick}
use Rattle.text.specs.Text.{codes, decimal}
use Rattle.text.proofs.Decimal.{decimal_length}
use Rattle.text.proofs.Standing.{numbered}
use Rattle.refusals.specs.Words.{refused}
use Rattle.refusals.proofs.Lengths.{refused_length as words_length}
use Rattle.std.specs.Prelude.{Option, Some, None}
use Rattle.recording_text.specs.declared.RefusedFrame.{RefusedFrame}
use Rattle.recording_text.specs.declared.Frames.{Frames}
use Rattle.recording_text.specs.declared.Records.{Records}
use Rattle.recording_text.specs.Lines.{refused_line, first_line, where_any, sum_line, end_lines}

pub refused_is : (frame number : ℕ) → numbered "record: frame " frame ++ codes " " ++ refused number ≡ refused_line frame number
unfolding refused_line
refused_is frame number = simp append_assoc

-- The first refused frame came just now.
pub first_is : {before after : Option RefusedFrame} {first : RefusedFrame} → before ≡ None → after ≡ Some first
    → refused_line first.frame first.number ≡ first_line before after
unfolding first_line
first_is e f = rw (e, f) refl

pub none_is : (n : ℕ) (words : List ℕ) → n ≡ 0 → [] ≡ where_any n words
unfolding where_any
none_is n words e = simp (eq-eqb n 0 e)

pub any_is : (n : ℕ) (words : List ℕ) → (n ≡ 0 → ⊥) → words ++ decimal n ++ codes "\n" ≡ where_any n words
unfolding where_any
any_is n words h = simp (ne_eqb n 0 h)

-- The line that is always said in two halves.
abbrev pub contacts_part : ℕ → ℕ → ℕ → List ℕ
contacts_part frames contacts read = numbered "record: frames " frames ++ numbered ", contacts " contacts ++ numbered ", read " read

abbrev pub others_part : ℕ → ℕ → ℕ → List ℕ
others_part markers unreadable records =
    numbered ", markers " markers ++ numbered ", unreadable " unreadable ++ numbered ", records " records ++ codes "\n"

pub sum_is : (frames : ℕ) (c : Records)
    → contacts_part frames c.contacts c.read ++ others_part c.markers c.unreadable c.records ≡ sum_line frames c
unfolding sum_line
sum_is frames c = refl

pub end_is : (f : Frames) (c : Records) (bytes : ℕ)
    → where_any f.refused (codes "record: frames refused ") ++ where_any bytes (codes "record: bytes after the last frame ") ++ sum_line f.frames c ≡ end_lines f c bytes
unfolding end_lines
end_is f c bytes = refl

-- No line is longer than this.
refused_length : (frame number : ℕ) → length (refused_line frame number) ≤ 128
unfolding refused_line
refused_length frame number = simp length-append (omega (arith, decimal_length frame, words_length number))

pub first_length : (before after : Option RefusedFrame) → length (first_line before after) ≤ 128
unfolding first_line
first_length None None = omega arith
first_length None (Some first) = refused_length first.frame first.number
first_length (Some first) after = omega arith

any_length : (n : ℕ) (words : List ℕ) → length (where_any n words) ≤ length words + 21
unfolding where_any
any_length n words = go (eqb n 0)
  where
    go : (b : Bool) → length (pick b [] (words ++ decimal n ++ codes "\n")) ≤ length words + 21
    go true = omega arith
    go false = simp length-append (omega (arith, decimal_length n))

sum_length : (frames : ℕ) (c : Records) → length (sum_line frames c) ≤ 192
unfolding sum_line
sum_length frames c =
    simp length-append
    (omega (arith, decimal_length frames, decimal_length c.contacts, decimal_length c.read, decimal_length c.markers, decimal_length c.unreadable, decimal_length c.records))

pub end_length : (f : Frames) (c : Records) (bytes : ℕ) → length (end_lines f c bytes) ≤ 384
unfolding end_lines
end_length f c bytes =
    simp length-append
    (omega (arith, any_length f.refused (codes "record: frames refused "), any_length bytes (codes "record: bytes after the last frame "), sum_length f.frames c))
