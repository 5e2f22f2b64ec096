-- The drawing record by record: from each record on it comes to the same.
-- Assumes nothing.
use Prim.Native.Nat.{ℕ, suc, ◌+◌, ◌-◌, ◌*◌, ◌≤◌}
use native.Mathlib.Omega.{arith}
use native.Mathlib.Nat.{add-zero, zero-add, sub-zero}
use mathlib.Core.Path.{◌≡◌, refl, ap, sym, ◌∙◌}
use mathlib.Core.Bool.{Bool, true, false, ◌&&◌}
use mathlib.Core.List.{List, [], ◌∷◌, ◌++◌, append_assoc}
use lib.Dec.{ltb}
use lib.ListN.{length, take, drop, length-append}
use borrow.Author.Tests.{ltb-true, ltb-false}
use Rattle.words.specs.Answer.{gives, pick}
use Rattle.ride.specs.declared.Ride.{Ride}
use Rattle.ride.specs.Record.{odometer_of}
use Rattle.ride.specs.Step.{Step, treat}
use Rattle.ride.specs.Over.{first_records}
use Rattle.ride_text.proofs.Turns.{left_of, left_next}
use Rattle.text.specs.Put.{placed}
use Rattle.text.proofs.Placing.{placed_none, placed_length, placed_join}
use Rattle.ride_drawing.specs.declared.Pen.{Pen}
use Rattle.ride_drawing.specs.declared.Plan.{Plan}
use Rattle.ride_drawing.specs.declared.Drawing.{Drawing}
use Rattle.text.specs.Pieces.{whole}
use Rattle.ride_drawing.specs.Element.{Element, pieces_of, pieces}
use Rattle.ride_drawing.specs.Draw.{text_of, step_elements, step_pen, Picture, draw_over, is_taken, taken, Block, draw_of}

-- ---- the text of elements after others

pub whole_append : (ts us : List (List ℕ)) → whole (ts ++ us) ≡ whole ts ++ whole us
whole_append [] us = refl
whole_append (t ∷ ts) us = ap (λ (w : List ℕ). t ++ w) (whole_append ts us) ∙ sym (append_assoc t (whole ts) (whole us))

pub text_append : (es fs : List Element) → text_of (es ++ fs) ≡ text_of es ++ text_of fs
text_append [] fs = refl
text_append (e ∷ es) fs =
    whole_append (pieces_of e) (pieces (es ++ fs))
    ∙ ap (λ (w : List ℕ). whole (pieces_of e) ++ w) (text_append es fs)
    ∙ sym (append_assoc (whole (pieces_of e)) (text_of es) (text_of fs))
    ∙ ap (λ (w : List ℕ). w ++ text_of fs) (sym (whole_append (pieces_of e) (pieces es)))

-- ---- records

abbrev pub block : ℕ → ℕ → Ride → ℕ → Pen → List ℕ → Block
block n bytes ride number pen out = record { answer = gives (record { records = n; bytes = bytes }); drawing = record { ride = ride; number = number; pen = pen }; out = out }

-- n records more, after i records that gave `at` bytes
abbrev after : Plan → (ℕ → ℕ) → Pen → Ride → ℕ → ℕ → ℕ → List (List ℕ) → List ℕ → ℕ → Block
after plan gaps pen ride number i at rs out n =
    let p : Picture = draw_over plan gaps pen ride number (take n rs) in
    block (i + n) (at + length (text_of p.elements)) p.ride (number + n) p.pen (placed (text_of p.elements) out at)

-- as many more as are taken
unfoldable pub from_here : Plan → (ℕ → ℕ) → Pen → Ride → ℕ → ℕ → ℕ → List (List ℕ) → List ℕ → Block
from_here plan gaps pen ride number i at rs out = after plan gaps pen ride number i at rs out (taken plan gaps pen ride number (length out - at) rs)

-- From the first record it is the whole.
pub from_first : (plan : Plan) (gaps : ℕ → ℕ) (d : Drawing) (rs : List (List ℕ)) (out : List ℕ)
    → from_here plan gaps d.pen d.ride d.number 0 0 rs out ≡ draw_of plan gaps d (taken plan gaps d.pen d.ride d.number (length out) rs) rs out
unfolding from_here draw_of
from_first plan gaps d rs out = simp (sub-zero, zero-add)

-- The step of a record.
abbrev pub step_at : (ℕ → ℕ) → Ride → List ℕ → Step
step_at gaps ride r = treat ride (gaps (odometer_of r)) r

module _ (plan : Plan) (gaps : ℕ → ℕ) (pen : Pen) (ride : Ride) (number i at : ℕ) (r : List ℕ) (rs : List (List ℕ)) (out : List ℕ) where
  abbrev t : List ℕ
  t = text_of (step_elements plan pen ride number (step_at gaps ride r))

  abbrev pen' : Pen
  pen' = step_pen pen ride (step_at gaps ride r)

  abbrev ride' : Ride
  ride' = (step_at gaps ride r).ride

  one_more : (n : ℕ) → at + length t ≤ length out
      → after plan gaps pen ride number i at (r ∷ rs) out (suc n) ≡ after plan gaps pen' ride' (suc number) (i + 1) (at + length t) rs (placed t out at) n
  unfolding draw_over
  one_more n fits =
      let rest : Picture = draw_over plan gaps pen' ride' (suc number) (take n rs) in
      let u : List ℕ = text_of rest.elements in
      let w : List ℕ = text_of (step_elements plan pen ride number (step_at gaps ride r) ++ rest.elements) in
      let is : w ≡ t ++ u = text_append (step_elements plan pen ride number (step_at gaps ride r)) rest.elements in
      let counted : i + suc n ≡ i + 1 + n = omega arith in
      let numbered : number + suc n ≡ suc number + n = omega arith in
      let bytes : at + length (t ++ u) ≡ at + length t + length u = omega (arith, length-append t u) in
      ap (λ (x : List ℕ). block (i + suc n) (at + length x) rest.ride (number + suc n) rest.pen (placed x out at)) is
      ∙ ap (λ (k : ℕ). block k (at + length (t ++ u)) rest.ride (number + suc n) rest.pen (placed (t ++ u) out at)) counted
      ∙ ap (λ (k : ℕ). block (i + 1 + n) k rest.ride (number + suc n) rest.pen (placed (t ++ u) out at)) bytes
      ∙ ap (λ (k : ℕ). block (i + 1 + n) (at + length t + length u) rest.ride k rest.pen (placed (t ++ u) out at)) numbered
      ∙ ap (block (i + 1 + n) (at + length t + length u) rest.ride (suc number + n) rest.pen) (sym (placed_join t out at fits u))

  -- A record that is taken.
  pub from_next : is_taken number (length out - at) ≡ true → at + length t ≤ length out
      → from_here plan gaps pen ride number i at (r ∷ rs) out ≡ from_here plan gaps pen' ride' (suc number) (i + 1) (at + length t) rs (placed t out at)
  unfolding from_here taken
  from_next e fits =
      let n : ℕ = taken plan gaps pen' ride' (suc number) (length out - at - length t) rs in
      let room : length out - at - length t ≡ length (placed t out at) - (at + length t) = omega (arith, placed_length t out at fits) in
      ap (λ (b : Bool). after plan gaps pen ride number i at (r ∷ rs) out (pick b (suc n) 0)) e
      ∙ one_more n fits
      ∙ ap (λ (k : ℕ). after plan gaps pen' ride' (suc number) (i + 1) (at + length t) rs (placed t out at) (taken plan gaps pen' ride' (suc number) k rs)) room

-- No record more.
pub from_last : (plan : Plan) (gaps : ℕ → ℕ) (pen : Pen) (ride : Ride) (number i at : ℕ) (rs : List (List ℕ)) (out : List ℕ) → taken plan gaps pen ride number (length out - at) rs ≡ 0
    → block i at ride number pen out ≡ from_here plan gaps pen ride number i at rs out
unfolding from_here draw_over
from_last plan gaps pen ride number i at rs out e =
    sym (ap (after plan gaps pen ride number i at rs out) e ∙ simp (add-zero, placed_none))

-- Where none is left, none is taken.
pub none_left : (plan : Plan) (gaps : ℕ → ℕ) (pen : Pen) (ride : Ride) (number room : ℕ) (trace : List ℕ) (count i : ℕ) → count ≤ i → taken plan gaps pen ride number room (left_of trace count i) ≡ 0
unfolding taken first_records
none_left plan gaps pen ride number room trace count i h =
    let none : count - i ≡ 0 = omega arith in
    ap (λ (k : ℕ). taken plan gaps pen ride number room (first_records k (drop (i * 8) trace))) none

-- Where the loop stops, no record is taken.
stopped : (plan : Plan) (gaps : ℕ → ℕ) (pen : Pen) (ride : Ride) (number room : ℕ) (trace : List ℕ) (count i : ℕ) (b : Bool) → ltb i count ≡ b → (b && is_taken number room) ≡ false
    → taken plan gaps pen ride number room (left_of trace count i) ≡ 0
unfolding taken
stopped plan gaps pen ride number room trace count i true more e =
    ap (taken plan gaps pen ride number room) (left_next trace count i (ltb-true i count more)) ∙ simp e
stopped plan gaps pen ride number room trace count i false more e = none_left plan gaps pen ride number room trace count i (ltb-false i count more)

pub no_more : (plan : Plan) (gaps : ℕ → ℕ) (pen : Pen) (ride : Ride) (number room : ℕ) (trace : List ℕ) (count i : ℕ) → (ltb i count && is_taken number room) ≡ false
    → taken plan gaps pen ride number room (left_of trace count i) ≡ 0
no_more plan gaps pen ride number room trace count i e = stopped plan gaps pen ride number room trace count i (ltb i count) refl e
