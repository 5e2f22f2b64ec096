-- Lines taken one after the other: their text by their parts, how long it is, and that what was
-- written before stays before it.
-- Assumes nothing.
use Prim.Native.Nat.{ℕ, ◌+◌, ◌≤◌}
use native.Mathlib.Omega.{arith}
use native.Mathlib.Nat.{add-zero}
use mathlib.Core.Path.{◌≡◌, refl, sym, ap, ap₂, ◌∙◌}
use mathlib.Core.Bool.{Bool, true, false}
use mathlib.Core.List.{List, [], ◌∷◌, ◌++◌, append_assoc, append-nil}
use lib.Dec.{leb}
use lib.ListN.{length, length-append}
use Rattle.words.specs.Answer.{Outcome, gives, refuses, pick}
use Rattle.text.specs.Put.{Put, placed, put, came}
use Rattle.text.proofs.Placing.{placed_none}
use Rattle.text.proofs.Standing.{keeps, stands, join}
use Rattle.ride.specs.declared.Seen.{Seen}
use Rattle.ride.specs.declared.Line.{Line}
use Rattle.ride.specs.declared.Lines.{Lines}
use Rattle.std.specs.Prelude.{Result, Ok, Err}
use Rattle.ride.specs.declared.Wrong.{Wrong}
use Rattle.ride.specs.Over.{lines_for}
use Rattle.ride.specs.Says.{says_lines, says_given}
use Rattle.acceptance.specs.declared.Acceptance.{Acceptance}
use Rattle.acceptance.specs.declared.Role.{Role}
use Rattle.acceptance.specs.Taking.{take_line}
use Rattle.acceptance_text.specs.declared.taking.Troubles.{Troubles}
use Rattle.acceptance_text.specs.declared.taking.Written.{Written}
use Rattle.acceptance_text.specs.Lines.{group_line}
use Rattle.acceptance_text.specs.Taking.{part_line, troubled_by, Taking, started, take_one, take_all}
use Rattle.acceptance_text.specs.Inside.{Writing, writes, written}
use Rattle.acceptance_text.proofs.Pieces.{group_length}

-- ---- the text of a line

-- Nothing put is nothing changed.
pub put_nothing : (b : List ℕ) (at : ℕ) → came at b ≡ put [] b at
unfolding put
put_nothing b at = by_room (leb (at + 0) (length b))
  where
    by_room : (fits : Bool) → came at b ≡ pick fits (record { next = at + 0; buffer = placed [] b at }) (record { next = at; buffer = b })
    by_room true = ap₂ came (sym (add-zero at)) (sym (placed_none b at))
    by_room false = refl

-- A line whose part has no text: nothing is put.
pub no_text : (line : Line) (part : Role) (b : List ℕ) (at : ℕ) → part_line line part ≡ [] → came at b ≡ put (part_line line part) b at
no_text line part b at e = put_nothing b at ∙ ap (λ (u : List ℕ). put u b at) (sym e)

-- A group whose part has a text: its line is put.
pub group_text : (line : Line) (part : Role) (g : Seen) (p : Role) → line ≡ Line.Group g → part ≡ p
    → part_line (Line.Group g) p ≡ group_line g.place g.kind p → group_line g.place g.kind part ≡ part_line line part
group_text line part g p l a e = ap (group_line g.place g.kind) a ∙ sym e ∙ ap₂ part_line (sym l) (sym a)

-- No text is longer than 64 bytes.
part_short : (line : Line) (part : Role) → length (part_line line part) ≤ 64
part_short (Line.Group g) (Role.Wanted i) = group_length g.place g.kind (Role.Wanted i)
part_short (Line.Group g) Role.Extra = group_length g.place g.kind Role.Extra
part_short (Line.Group g) Role.NoPart = omega arith
part_short (Line.Fault place n) part = omega arith
part_short (Line.Missed place) part = omega arith
part_short (Line.Record number n) part = omega arith
part_short (Line.Trace n) part = omega arith

-- ---- some lines

-- A line more has 64 bytes of text more at most.
pub one_short : (t : Taking) (l : Line) → length (take_one t l).text ≤ length t.text + 64
unfolding take_one
one_short t l =
    let p : List ℕ = part_line l (take_line t.run l).answer in
    omega (arith, length-append t.text p, part_short l (take_line t.run l).answer)

pub lines_short : (t : Taking) (ls : Lines) → length (take_all t (says_lines ls)).text ≤ length t.text + 128
unfolding take_all
lines_short t Lines.None = omega arith
lines_short t (Lines.One a) = omega (arith, one_short t a)
lines_short t (Lines.Two a b) = omega (arith, one_short t a, one_short (take_one t a) b)

-- What a record gives has 128 bytes at most.
pub given_short : (t : Taking) (g : Result Lines Wrong) → length (take_all t (lines_for 0 (says_given g))).text ≤ length t.text + 128
unfolding take_all take_one take_line
given_short t (Err w) = omega (arith, ap length (append-nil t.text))
given_short t (Ok ls) = lines_short t ls

-- Some lines and then others.
pub take_on : (t : Taking) (xs ys : List Line) → take_all t (xs ++ ys) ≡ take_all (take_all t xs) ys
unfolding take_all
take_on t [] ys = refl
take_on t (x ∷ xs) ys = take_on (take_one t x) xs ys

-- The number of a refused record counts for nothing.
pub any_number : (t : Taking) (m n : ℕ) (o : Outcome (List Line)) → take_all t (lines_for m o) ≡ take_all t (lines_for n o)
unfolding take_all take_one take_line
any_number t m n (gives lines) = refl
any_number t m n (refuses k) = refl

-- ---- what was written before

-- A text before that of what was taken.
abbrev pub behind : List ℕ → Taking → Taking
behind w t = record { run = t.run; troubles = t.troubles; text = w ++ t.text }

one_behind : (w : List ℕ) (t : Taking) (l : Line) → take_one (behind w t) l ≡ behind w (take_one t l)
unfolding take_one
one_behind w t l =
    ap (λ (u : List ℕ). record { run = (take_line t.run l).state; troubles = troubled_by t.troubles l; text = u }) (append_assoc w t.text (part_line l (take_line t.run l).answer))

all_behind : (w : List ℕ) (t : Taking) (ls : List Line) → take_all (behind w t) ls ≡ behind w (take_all t ls)
unfolding take_all
all_behind w t [] = refl
all_behind w t (l ∷ ls) = ap (λ (u : Taking). take_all u ls) (one_behind w t l) ∙ all_behind w (take_one t l) ls

-- What some lines come to after a text is that text, and then what they come to alone.
pub after_text : (run : Acceptance) (troubles : Troubles) (w : List ℕ) (ls : List Line)
    → take_all (record { run = run; troubles = troubles; text = w }) ls ≡ behind w (take_all (started run troubles) ls)
after_text run troubles w ls =
    ap (λ (u : List ℕ). take_all (record { run = run; troubles = troubles; text = u }) ls) (sym (append-nil w))
    ∙ all_behind w (started run troubles) ls

-- ---- one line and then another, as they are put

-- After the first of two lines there is room for the second.
pub room_for_one : (run : Acceptance) (troubles : Troubles) (l : Line) (w : Written) (b x : List ℕ) (at : ℕ) → at + 128 ≤ length b
    → written w x ≡ writes (take_all (started run troubles) (l ∷ [])) b at → w.next + 64 ≤ length x
unfolding take_all
room_for_one run troubles l w b x at h e =
    let t : Taking = take_one (started run troubles) l in
    let short = one_short (started run troubles) l in
    let s = stands {t = t.text} (omega (arith, short)) (ap (λ (v : Writing). v.text) e) in
    omega (arith, short, s.put.0, keeps s)

-- Two lines taken and put one after the other are both taken, and their text put.
pub one_then_one : (run : Acceptance) (troubles : Troubles) (l m : Line) (v w : Written) (b x y : List ℕ) (at : ℕ) → at + 128 ≤ length b
    → written v x ≡ writes (take_all (started run troubles) (l ∷ [])) b at → written w y ≡ writes (take_all (started v.run v.troubles) (m ∷ [])) x v.next
    → written w y ≡ writes (take_all (started run troubles) (l ∷ m ∷ [])) b at
unfolding take_all
one_then_one run troubles l m v w b x y at h e f =
    let t : Taking = take_one (started run troubles) l in
    let u : Taking = take_one (started t.run t.troubles) m in
    let second : written w y ≡ writes u x v.next =
    f ∙ ap₂ (λ (r : Acceptance) (q : Troubles). writes (take_one (started r q) m) x v.next) (ap (λ (z : Writing). z.run) e) (ap (λ (z : Writing). z.troubles) e) in
    let both : take_one t m ≡ behind t.text u = after_text t.run t.troubles t.text (m ∷ []) in
    let room : at + length (t.text ++ u.text) ≤ length b =
    omega (arith, length-append t.text u.text, one_short (started run troubles) l, one_short (started t.run t.troubles) m) in
    let text = join b at t.text u.text room (ap (λ (z : Writing). z.text) e) (ap (λ (z : Writing). z.text) second) in
    ap₂ (λ (r : Acceptance) (q : Troubles). record { run = r; troubles = q; text = came w.next y }) (ap (λ (z : Writing). z.run) second) (ap (λ (z : Writing). z.troubles) second)
    ∙ ap (λ (p : Put). record { run = u.run; troubles = u.troubles; text = p }) text
    ∙ ap (λ (z : Taking). writes z b at) (sym both)
