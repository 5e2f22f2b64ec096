-- What stands for a contact has the room that a program lends: each piece has its words and a
-- number, and 2,000 bits have at most 1,961 telegrams and 21 strips.
-- Assumes nothing.
use Prim.Native.Nat.{ℕ, zero, suc, ◌+◌, ◌-◌, ◌*◌, ◌≤◌}
use native.Mathlib.Nat.{mul-suc}
use native.Mathlib.Omega.{arith}
use mathlib.Core.Path.{◌≡◌, refl, ◌∙◌}
use mathlib.Core.Bool.{Bool, true, false}
use mathlib.Core.List.{List, [], ◌∷◌, ◌++◌}
use lib.Dec.{eqb, ltb}
use lib.ListN.{length, length-append}
use Rattle.words.specs.Answer.{pick}
use Rattle.text.specs.Text.{codes, decimal}
use Rattle.text.specs.Pieces.{whole}
use Rattle.text.proofs.Decimal.{decimal_length}
use Rattle.text.proofs.Standing.{stands}
use Rattle.text.proofs.Fitting.{fitting}
use Rattle.telegram.specs.Stretch.{bit_at, bits_at}
use Rattle.telegram.specs.Place.{find}
use Rattle.contact.specs.declared.Judged.{Judged}
use Rattle.contact.specs.Says.{says_judged}
use Rattle.antenna.specs.Line.{placed as placed_on}
use Rattle.antenna_text.specs.Lines.{shown, judged_as, told_line, closed_before}
use Rattle.contact_text.proofs.Pieces.{heard_length}
use Rattle.contact_drawing.specs.Strips.{drawn, each, level, bit_of, boxes, is_found, boxed, telegram_of, telegrams, strip, strips_of, cut_at, waveform, picture_with, strips_with, strips}
use Rattle.contact_drawing.specs.Laws.{Call, asked, Roomy}
use Rattle.contact_drawing.proofs.Each.{drawn_most}

-- The bytes of some pieces.
unfoldable size : List (List ℕ) → ℕ
size ps = length (whole ps)

size_none : size [] ≡ 0
unfolding size
size_none = refl

size_one : (t : List ℕ) (ts : List (List ℕ)) → size (t ∷ ts) ≡ length t + size ts
unfolding size
size_one t ts = length-append t (whole ts)

size_append : (ts us : List (List ℕ)) → size (ts ++ us) ≡ size ts + size us
size_append [] us = omega (arith, size_none)
size_append (t ∷ ts) us = omega (arith, size_one t (ts ++ us), size_one t ts, size_append ts us)

either : (b : Bool) (xs ys : List (List ℕ)) (most : ℕ) → size xs ≤ most → size ys ≤ most → size (pick b xs ys) ≤ most
either true xs ys most x y = x
either false xs ys most x y = y

-- Each number's pieces have so many bytes at most: so many times as many have all.
each_size : (f : ℕ → List (List ℕ)) (most : ℕ) → ((i : ℕ) → size (f i) ≤ most) → (n i : ℕ) → size (each f i n) ≤ most * n
unfolding each
each_size f most small zero i = omega (arith, size_none)
each_size f most small (suc n) i =
    let more : most * suc n ≡ most * n + most = mul-suc most n in
    omega (arith, size_append (f i) (each f (i + 1) n), small i, each_size f most small n (i + 1), more)

-- ---- the pieces

level_length : (bit : ℕ) → length (level bit) ≤ 5
unfolding level
level_length bit = go (eqb bit 0)
  where
    go : (b : Bool) → length (pick b (codes "V28h4") (codes "V16h4")) ≤ 5
    go true = omega arith
    go false = omega arith

bit_size : (b : List ℕ) (first i : ℕ) → size (bit_of b first i) ≤ 5
bit_size b first i = omega (arith, size_one (level (bit_at b (first + i))) [], size_none, level_length (bit_at b (first + i)))

boxes_length : (b : List ℕ) (p s : ℕ) → length (boxes b p s) ≤ 19
unfolding boxes
boxes_length b p s = go (eqb (bits_at b p 8) s)
  where
    go : (x : Bool) → length (pick x (codes "<use href='#t1' x='") (codes "<use href='#t2' x='")) ≤ 19
    go true = omega arith
    go false = omega arith

boxed_size : (b : List ℕ) (p s x n : ℕ) → size (boxed b p s x n) ≤ 108
unfolding size boxed
boxed_size b p s x n = simp length-append (omega (arith, boxes_length b p s, decimal_length x, decimal_length (shown n)))

telegram_size : (b : List ℕ) (first start s t i : ℕ) → size (telegram_of b first start s t i) ≤ 108
unfolding telegram_of
telegram_size b first start s t i =
    either (is_found (find b (first + i) 40 s t)) (boxed b (first + i) s (4 * i) (start + i)) [] 108 (boxed_size b (first + i) s (4 * i) (start + i)) (omega (arith, size_none))

strip_size : (start k : ℕ) → size (strip start k) ≤ 194
unfolding size strip
strip_size start k =
    simp length-append (omega (arith, decimal_length (384 * k), decimal_length start, decimal_length (shown (start + 96 * k))))

cut_size : (n : ℕ) → size (cut_at n) ≤ 60
unfolding cut_at
cut_size n = either (ltb 2000 n) _ [] 60 said (omega (arith, size_none))
  where
    said : size ((codes "<p>the first 2,000 of " ++ decimal n) ∷ codes " bits</p>\n" ∷ []) ≤ 60
    said =
        omega
        (arith, size_one (codes "<p>the first 2,000 of " ++ decimal n) (codes " bits</p>\n" ∷ []), size_one (codes " bits</p>\n") [], size_none, length-append (codes "<p>the first 2,000 of ") (decimal n), decimal_length n)

head_size : (end bits : ℕ) (judged : Judged) → size (codes "<h2>" ∷ told_line (closed_before end bits judged) ∷ codes "</h2>\n" ∷ []) ≤ 202
unfolding told_line
head_size end bits judged =
    let line : List ℕ = told_line (closed_before end bits judged) in
    omega (arith, size_one (codes "<h2>") (line ∷ codes "</h2>\n" ∷ []), size_one line (codes "</h2>\n" ∷ []), size_one (codes "</h2>\n") [], size_none, heard_length (end - bits) bits (judged_as (placed_on (end - bits) (says_judged judged))))

-- ---- the whole

wave_size : (b : List ℕ) (first start n : ℕ) → size (waveform b first start n) ≤ 80 + 5 * n
unfolding waveform
wave_size b first start n =
    let head : List (List ℕ) = (codes "<svg class='h'><defs><g id='c" ++ decimal start) ∷ codes "'><path class='w' d='M0 28" ∷ [] in
    let bits : List (List ℕ) = each (bit_of b first) 0 n in
    omega (
      arith,
      size_append head (bits ++ (codes "'/>\n" ∷ [])),
      size_append bits (codes "'/>\n" ∷ []),
      each_size (bit_of b first) 5 (bit_size b first) n 0,
      size_one (codes "<svg class='h'><defs><g id='c" ++ decimal start) (codes "'><path class='w' d='M0 28" ∷ []),
      size_one (codes "'><path class='w' d='M0 28") [],
      size_one (codes "'/>\n") [],
      size_none,
      length-append (codes "<svg class='h'><defs><g id='c") (decimal start),
      decimal_length start,
    )

picture_size : (b : List ℕ) (first start n s t : ℕ) → n ≤ 2000 → size (picture_with (telegrams b first start n s t) b first start n) ≤ 229000
unfolding picture_with telegrams
picture_size b first start n s t h =
    let boxes_of : List (List ℕ) = each (telegram_of b first start s t) 0 (n - 39) in
    let row : List (List ℕ) = each (strip start) 0 (strips_of n) in
    omega (
      arith,
      h,
      size_append (waveform b first start n) (boxes_of ++ (codes "</g></defs></svg>\n" ∷ row)),
      size_append boxes_of (codes "</g></defs></svg>\n" ∷ row),
      size_one (codes "</g></defs></svg>\n") row,
      wave_size b first start n,
      each_size (telegram_of b first start s t) 108 (telegram_size b first start s t) (n - 39) 0,
      each_size (strip start) 194 (strip_size start) (strips_of n) 0,
    )

strips_size : (end bits : ℕ) (judged : Judged) (b : List ℕ) (first s t : ℕ) → size (strips end bits judged b first s t) ≤ 229376
unfolding strips strips_with
strips_size end bits judged b first s t =
    let head : List (List ℕ) = codes "<h2>" ∷ told_line (closed_before end bits judged) ∷ codes "</h2>\n" ∷ [] in
    let drawing : List (List ℕ) = picture_with (telegrams b first (end - bits) (drawn bits) s t) b first (end - bits) (drawn bits) in
    omega (
      arith,
      size_append head (cut_at bits ++ drawing),
      size_append (cut_at bits) drawing,
      head_size end bits judged,
      cut_size bits,
      picture_size b first (end - bits) (drawn bits) s t (drawn_most bits),
    )

most : (c : Call) → length (whole (asked c)) ≤ 229376
unfolding size
most c = strips_size c.end c.bits c.judged c.kept c.first c.s c.t

pub roomy : Roomy
roomy =
    record {
      all =
          λ c allowed lent.
          let room : c.at + length (whole (asked c)) ≤ length c.before = omega (arith, most c, lent.room, lent.used) in
          (stands room (allowed ∙ fitting (asked c) c.before c.at room)).put;
    }
