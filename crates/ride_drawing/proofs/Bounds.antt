-- How long a sign is, of a line and in the row.
-- Assumes nothing.
use Prim.Native.Nat.{ℕ, ◌+◌, ◌-◌, ◌/◌, ◌%◌, ◌≤◌}
use native.Mathlib.Omega.{arith}
use mathlib.Core.List.{List, [], ◌∷◌, ◌++◌}
use lib.Dec.{ltb}
use lib.ListN.{length, length-append}
use lib.Seq.{length-take-le}
use Rattle.text.specs.Text.{codes, decimal}
use Rattle.text.proofs.Decimal.{decimal_length}
use Rattle.group_rows.specs.declared.Direction.{Direction}
use Rattle.group.specs.declared.Number.{Number}
use Rattle.group.specs.declared.Group.{Group}
use Rattle.ride.specs.declared.Line.{Line}
use Rattle.ride.specs.declared.Seen.{Seen}
use Rattle.acceptance.specs.declared.Entry.{Entry}
use Rattle.acceptance.specs.Taking.{one_more}
use Rattle.acceptance_text.specs.Lines.{entry_line}
use Rattle.acceptance_text.proofs.Pieces.{entry_length}
use Rattle.ride_text.specs.Style.{with_reasons}
use Rattle.ride_text.specs.Text.{kind_word, line_text}
use Rattle.ride_text.proofs.Longest.{kind_length, line_within}
use Rattle.ride_drawing.specs.Metres.{metres}
use Rattle.ride_drawing.specs.Strip.{on_strip}
use Rattle.ride_drawing.specs.Sign.{title, shape, beside, beside_fault, number_beside, place_beside, label, sign}
use Rattle.ride_drawing.specs.Row.{entry_shape, entry_title, row_number, entry_sign, extra_sign}
use Rattle.ride_drawing.proofs.Sizes.{size, size_none, size_one, size_append, worded, metres_size, either, nothing}

-- ---- signs

title_size : (g : Group) (l : Line) → length (title g l) ≤ 160
unfolding title
title_size g l =
    let t : List ℕ = line_text with_reasons g l in
    let less : length t - 1 ≤ length t = omega arith in
    omega (arith, length-take-le (length t - 1) t less, line_within with_reasons g l)

number_size : (d : Direction) (n : Number) (x : ℕ) → size (number_beside d n x) ≤ 160
unfolding size
number_size d Number.None x = omega arith
number_size d (Number.Figure m) x = simp length-append (omega (arith, decimal_length (x / 10), decimal_length (x % 10), decimal_length (beside d), decimal_length m))

place_size : (edge place : ℕ) → size (place_beside edge place) ≤ 30
place_size edge place =
    either (ltb (place + 1000) edge) ((codes " at " ++ decimal place) ∷ []) [] 30
    (omega (arith, size_one (codes " at " ++ decimal place) [], size_none, worded (codes " at ") place)) (nothing 30)

label_size : (l : Line) (edge x : ℕ) → size (label l edge x) ≤ 160
unfolding label
label_size (Line.Group s) edge x = number_size s.direction s.number x
label_size (Line.Fault place n) edge x =
    let w : List ℕ = codes "<text class='x' dx='9' x='" in
    let rest : List (List ℕ) = place_beside edge place ++ codes "</text>" ∷ [] in
    let high : List ℕ = codes "' y='" ++ decimal (beside_fault x) in
    let figure : List ℕ = codes "'>" ++ decimal n in
    omega (
      arith,
      size_append (metres w x) (high ∷ figure ∷ rest),
      metres_size w x,
      size_one high (figure ∷ rest),
      worded (codes "' y='") (beside_fault x),
      size_one figure rest,
      worded (codes "'>") n,
      size_append (place_beside edge place) (codes "</text>" ∷ []),
      place_size edge place,
      size_one (codes "</text>") [],
      size_none,
    )
label_size (Line.Missed place) edge x = nothing 160
label_size (Line.Record number n) edge x = nothing 160
label_size (Line.Trace n) edge x = nothing 160

pub sign_size : (g : Group) (l : Line) (edge place : ℕ) → size (sign g l edge place) ≤ 480
unfolding sign
sign_size g l edge place =
    let x : ℕ = on_strip edge place in
    let a : List (List ℕ) = codes "</g>\n" ∷ [] in
    let b : List (List ℕ) = label l edge x ++ a in
    let c : List (List ℕ) = codes "'/>" ∷ b in
    let d : List (List ℕ) = metres (codes "' x='") x ++ c in
    let t : List ℕ = codes "</title><use href='#s" ++ decimal (shape l) in
    omega (
      arith,
      size_one (codes "<g><title>") (title g l ∷ t ∷ d),
      size_one (title g l) (t ∷ d),
      size_one t d,
      size_append (metres (codes "' x='") x) c,
      size_one (codes "'/>") b,
      size_append (label l edge x) a,
      size_one (codes "</g>\n") [],
      size_none,
      title_size g l,
      worded (codes "</title><use href='#s") (shape l),
      metres_size (codes "' x='") x,
      label_size l edge x,
    )

-- ---- the row

entry_title_law : (i : ℕ) (e : Entry) → length (entry_title i e) ≤ 128
unfolding entry_title
entry_title_law i e =
    let t : List ℕ = entry_line i e in
    let less : length t - 1 ≤ length t = omega arith in
    omega (arith, length-take-le (length t - 1) t less, entry_length i e)

row_size : (x n : ℕ) → size (row_number x n) ≤ 120
unfolding size
row_size x n = simp length-append (omega (arith, decimal_length (x / 10), decimal_length (x % 10), decimal_length n))

pub entry_size : (i : ℕ) (e : Entry) (edge : ℕ) → size (entry_sign i e edge) ≤ 400
unfolding entry_sign
entry_size i e edge =
    let x : ℕ = on_strip edge e.place in
    let last : List (List ℕ) = row_number x (one_more i) in
    let d : List (List ℕ) = metres (codes "' x='") x ++ last in
    let t : List ℕ = codes "</title><use href='#s" ++ decimal (entry_shape e.met) in
    omega (
      arith,
      size_one (codes "<g class='e'><title>") (entry_title i e ∷ t ∷ d),
      size_one (entry_title i e) (t ∷ d),
      size_one t d,
      size_append (metres (codes "' x='") x) last,
      entry_title_law i e,
      worded (codes "</title><use href='#s") (entry_shape e.met),
      metres_size (codes "' x='") x,
      row_size x (one_more i),
    )

pub extra_size : (s : Seen) (edge : ℕ) → size (extra_sign s edge) ≤ 200
unfolding extra_sign
extra_size s edge =
    let x : ℕ = on_strip edge s.place in
    let last : List (List ℕ) = codes "'/></g>\n" ∷ [] in
    let d : List (List ℕ) = metres (codes "' x='") x ++ last in
    let t : List ℕ = codes "<g class='e'><title>" ++ decimal s.place in
    let u : List ℕ = codes " extra</title><use href='#s32" in
    omega (
      arith,
      size_one t (kind_word s.kind ∷ u ∷ d),
      size_one (kind_word s.kind) (u ∷ d),
      size_one u d,
      size_append (metres (codes "' x='") x) last,
      size_one (codes "'/></g>\n") [],
      size_none,
      worded (codes "<g class='e'><title>") s.place,
      kind_length s.kind,
      metres_size (codes "' x='") x,
    )
