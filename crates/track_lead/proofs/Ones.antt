-- After all that a thing sends there are ones.
-- Assumes nothing.
use Prim.Native.Nat.{ℕ, zero, suc, ◌+◌, ◌*◌, ◌≤◌, ◌<◌}
use mathlib.Core.Path.{◌≡◌, sym, ap, ◌∙◌}
use mathlib.Core.List.{List, [], ◌∷◌, ◌++◌}
use native.Mathlib.Omega.{arith}
use native.Mathlib.Numerals.{add-one}
use lib.ListN.{length, take, drop, get_or, drop_of_length-le, length-take, length-append}
use lib.Seq.{drop-cons}
use Rattle.balise_writer.specs.Write.{telegrams}
use Rattle.track_lead.specs.declared.Thing.{Thing}
use Rattle.track_lead.specs.Sent.{twelve, sends, line_in}

-- So many bytes before frame j: nothing is left to send.
pub ones_there : (s t : ℕ) (thing : Thing) (j : ℕ) → length (sends s t thing) ≤ 12 * j → line_in s t thing j ≡ twelve 255
unfolding line_in
ones_there s t thing j over = ap (λ (l : List ℕ). take 12 (l ++ twelve 255)) (drop_of_length-le (sends s t thing) over)

pub balise_over : (s t x y z j : ℕ) → 3 ≤ j → length (sends s t (Thing.Balise x y z)) ≤ 12 * j
unfolding telegrams
balise_over s t x y z j late = omega arith

-- A list by its elements, from element i on.
unfoldable pub elements : List ℕ → ℕ → ℕ → List ℕ
elements l i zero = []
elements l i (suc n) = get_or l i 0 ∷ elements l (i + 1) n

pub by_elements : (l : List ℕ) (i n : ℕ) → length l ≡ i + n → drop i l ≡ elements l i n
unfolding elements
by_elements l i zero long = let over : length l ≤ i = omega arith in drop_of_length-le l over
by_elements l i (suc n) long = drop-cons l i 0 (omega arith) ∙ ap (λ (r : List ℕ). get_or l i 0 ∷ r) (ap (λ (k : ℕ). drop k l) (sym (add-one i)) ∙ by_elements l (i + 1) n (omega arith))

-- A frame's line is twelve bytes.
pub line_long : (s t : ℕ) (thing : Thing) (j : ℕ) → length (line_in s t thing j) ≡ 12
unfolding line_in
line_long s t thing j =
    let there = drop (12 * j) (sends s t thing) in
    length-take 12 (there ++ twelve 255) ∙ simp length-append (omega arith)

-- One frame of twelve bytes alike, and ones after it.
pub once_over : (byte j : ℕ) → 0 < j → take 12 (drop (12 * j) (twelve byte) ++ twelve 255) ≡ twelve 255
once_over byte j late = let over : length (twelve byte) ≤ 12 * j = omega arith in ap (λ (l : List ℕ). take 12 (l ++ twelve 255)) (drop_of_length-le (twelve byte) over)
