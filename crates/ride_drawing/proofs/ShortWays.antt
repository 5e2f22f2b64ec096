-- The way past the entries of a plan is no longer than its share of a record's room, and neither is
-- the mark of an extra group.
-- Assumes nothing.
use Prim.Native.Nat.{ℕ, zero, suc, ◌+◌, ◌*◌, ◌≤◌}
use native.Mathlib.Omega.{arith}
use mathlib.Core.Path.{◌≡◌, ap, sym, ◌∙◌}
use mathlib.Core.Bool.{Bool, true, false}
use mathlib.Core.List.{List, [], ◌∷◌, ◌++◌}
use lib.ListN.{length, take}
use Rattle.words.specs.Answer.{pick}
use Rattle.group.specs.declared.Group.{Group}
use Rattle.ride.specs.declared.Known.{Known}
use Rattle.ride.specs.declared.Line.{Line}
use Rattle.ride.specs.declared.Seen.{Seen}
use Rattle.acceptance.specs.declared.Entry.{Entry}
use Rattle.acceptance.specs.Taking.{planned}
use Rattle.ride_drawing.specs.declared.Pen.{Pen}
use Rattle.ride_drawing.specs.declared.Plan.{Plan}
use Rattle.ride_drawing.specs.Strip.{is_further, arrive}
use Rattle.ride_drawing.specs.Sign.{sign}
use Rattle.ride_drawing.specs.Row.{row, entry_sign, is_extra, extra_sign, is_on_the_way}
use Rattle.ride_drawing.specs.Element.{Element, plain, mark, entry, extra, pieces}
use Rattle.ride_drawing.specs.Way.{way, Past, come_by, past, way_past}
use Rattle.ride_drawing.specs.Drawing.{extra_mark}
use Rattle.ride_drawing.proofs.Elements.{pieces_append}
use Rattle.ride_drawing.proofs.Sizes.{size, size_none, size_append, way_size}
use Rattle.ride_drawing.proofs.Bounds.{sign_size, entry_size, extra_size}

-- The bytes of some elements.
unfoldable pub bytes : List Element → ℕ
bytes es = size (pieces es)

pub bytes_none : bytes [] ≡ 0
unfolding bytes
bytes_none = size_none

pub bytes_plain : (ps : List (List ℕ)) (es : List Element) → bytes (plain ps ∷ es) ≡ size ps + bytes es
unfolding bytes
bytes_plain ps es = size_append ps (pieces es)

pub bytes_mark : (g : Group) (l : Line) (edge place : ℕ) (es : List Element) → bytes (mark g l edge place ∷ es) ≤ 480 + bytes es
unfolding bytes
bytes_mark g l edge place es = omega (arith, size_append (sign g l edge place) (pieces es), sign_size g l edge place)

pub bytes_append : (es fs : List Element) → bytes (es ++ fs) ≡ bytes es + bytes fs
unfolding bytes
bytes_append es fs = ap size (sym (pieces_append es fs)) ∙ size_append (pieces es) (pieces fs)

bytes_entry : (i : ℕ) (e : Entry) (edge : ℕ) (es : List Element) → bytes (entry i e edge ∷ es) ≤ 400 + bytes es
unfolding bytes
bytes_entry i e edge es = omega (arith, size_append (entry_sign i e edge) (pieces es), entry_size i e edge)

bytes_extra : (s : Seen) (edge : ℕ) (es : List Element) → bytes (extra s edge ∷ es) ≤ 200 + bytes es
unfolding bytes
bytes_extra s edge es = omega (arith, size_append (extra_sign s edge) (pieces es), extra_size s edge)

-- An entry that the pen comes by, with the strip that it may need,
by_size : (began : Pen) (i : ℕ) (e : Entry) (place until : ℕ) (known : Known) (pen : Pen) → bytes (come_by began i e place until known pen).elements ≤ 2304
unfolding come_by
by_size began i e place until known pen = go (is_on_the_way began place e)
  where
    edge : ℕ
    edge = (arrive pen e.place until).edge

    w : List (List ℕ)
    w = way pen e.place until known

    on : Past
    on = record { elements = plain w ∷ entry i e edge ∷ []; pen = arrive pen e.place until }

    by : Past
    by = record { elements = []; pen = pen }

    go : (b : Bool) → bytes (pick b on by).elements ≤ 2304
    go true = omega (arith, bytes_plain w (entry i e edge ∷ []), bytes_entry i e edge [], bytes_none, way_size pen e.place until known)
    go false = omega (arith, bytes_none)

past_size : (began : Pen) (es : List Entry) (pen : Pen) (i place until : ℕ) (known : Known) → bytes (past began pen i es place until known).elements ≤ 2304 * length es
unfolding past
past_size began [] pen i place until known = omega (arith, bytes_none)
past_size began (e ∷ es) pen i place until known =
    let here : Past = come_by began i e place until known pen in
    let rest : Past = past began here.pen (suc i) es place until known in
    omega (arith, bytes_append here.elements rest.elements, by_size began i e place until known pen, past_size began es here.pen (suc i) place until known)

-- all of them,
row_most : (plan : Plan) → length (row plan) ≤ 64
row_most plan = length_take_most 64 (planned plan.run)
  where
    length_take_most : (n : ℕ) (l : List Entry) → length (take n l) ≤ n
    length_take_most zero l = omega arith
    length_take_most (suc n) [] = omega arith
    length_take_most (suc n) (x ∷ l) = omega (arith, length_take_most n l)

pub all_size : (plan : Plan) (pen : Pen) (place until : ℕ) (known : Known) → bytes (past pen pen 0 (row plan) place until known).elements ≤ 147456
all_size plan pen place until known = omega (arith, past_size pen (row plan) pen 0 place until known, row_most plan)

-- the way past them,
pub past_way : (plan : Plan) (pen : Pen) (place until : ℕ) (known : Known) → bytes (way_past plan pen place until known) ≤ 149356
unfolding way_past
past_way plan pen place until known = go (is_further pen place)
  where
    p : Past
    p = past pen pen 0 (row plan) place until known

    w : List (List ℕ)
    w = way p.pen place until known

    go : (b : Bool) → bytes (pick b (p.elements ++ plain w ∷ []) []) ≤ 149356
    go true = omega (arith, bytes_append p.elements (plain w ∷ []), bytes_plain w [], bytes_none, all_size plan pen place until known, way_size p.pen place until known)
    go false = omega (arith, bytes_none)

pub extra_most : (plan : Plan) (l : Line) (edge : ℕ) → bytes (extra_mark plan l edge) ≤ 200
extra_most plan (Line.Group s) edge = go (is_extra plan s)
  where
    go : (b : Bool) → bytes (pick b (extra s edge ∷ []) []) ≤ 200
    go true = omega (arith, bytes_extra s edge [], bytes_none)
    go false = omega (arith, bytes_none)
extra_most plan (Line.Fault place n) edge = omega (arith, bytes_none)
extra_most plan (Line.Missed place) edge = omega (arith, bytes_none)
extra_most plan (Line.Record number n) edge = omega (arith, bytes_none)
extra_most plan (Line.Trace n) edge = omega (arith, bytes_none)
