-- Each title is its line: every line ends with a newline, and the title is what stands before it.
-- Assumes nothing.
use Rattle.std.proofs.Common.{Option, Some, None}
use Prim.Native.Nat.{ℕ, ◌-◌}
use native.Mathlib.Omega.{arith}
use mathlib.Core.Path.{◌≡◌, refl, sym, ap, ◌∙◌}
use mathlib.Core.List.{List, [], ◌∷◌, ◌++◌, append_assoc}
use lib.ListN.{length, take, length-append}
use lib.Seq.{take_at}
use Rattle.text.specs.Text.{codes, decimal}
use Rattle.text.specs.Pieces.{whole}
use Rattle.group.specs.declared.Group.{Group}
use Rattle.ride.specs.declared.Line.{Line}
use Rattle.ride.specs.declared.Seen.{Seen}
use Rattle.ride_text.specs.Style.{with_reasons}
use Rattle.ride_text.specs.Text.{direction_word, kind_word, mark, number, seen, text_with, why_text, line_text}
use Rattle.acceptance.specs.declared.Entry.{Entry}
use Rattle.acceptance.specs.declared.Role.{Role}
use Rattle.acceptance.specs.Taking.{one_more}
use Rattle.acceptance_text.specs.Lines.{part_words, group_line, met_words, entry_line}
use Rattle.ride_drawing.specs.Metres.{metres}
use Rattle.ride_drawing.specs.Strip.{on_strip}
use Rattle.ride_drawing.specs.Sign.{shape, title, label, sign}
use Rattle.ride_drawing.specs.Row.{entry_shape, entry_title, row_number, entry_sign, extra_title, extra_sign}
use Rattle.ride_drawing.specs.Titles.{HasTitle, BeginsWith, Titled}

-- ---- what stands before the newline

abbrev Ends : List ℕ → Type 0
Ends t = (s : List ℕ) × (t ≡ s ++ codes "\n")

before : (t : List ℕ) → Ends t → take (length t - 1) t ++ codes "\n" ≡ t
before t e =
    let s : List ℕ = e.0 in
    let long : length t - 1 ≡ length s = omega (arith, ap length e.1, length-append s (codes "\n")) in
    let short : take (length t - 1) t ≡ s = ap (λ (k : ℕ). take k t) long ∙ ap (take (length s)) e.1 ∙ take_at s (codes "\n") (length s) refl in
    ap (λ (x : List ℕ). x ++ codes "\n") short ∙ sym e.1

line_ends : (reason : List ℕ) (l : Line) → Ends (text_with reason l)
unfolding text_with seen
line_ends reason (Line.Group s) = (decimal s.place ++ direction_word s.direction ++ kind_word s.kind ++ mark s.mark ++ number s.number, refl)
line_ends reason (Line.Fault place n) = (decimal place ++ codes " fault " ++ decimal n ++ reason, refl)
line_ends reason (Line.Missed place) = (decimal place ++ codes " missed", sym (append_assoc (decimal place) (codes " missed") (codes "\n")))
line_ends reason (Line.Record number n) = (codes "record " ++ decimal number ++ codes " refused " ++ decimal n, refl)
line_ends reason (Line.Trace n) = (codes "trace refused " ++ decimal n, refl)

explained : (closed : Group) (line : Line) → title closed line ++ codes "\n" ≡ line_text with_reasons closed line
unfolding title
explained closed line = before (line_text with_reasons closed line) (line_ends (why_text closed) line)

-- ---- the place at its head

more : (place : ℕ) (t u : List ℕ) → BeginsWith place t → BeginsWith place (t ++ u)
more place t u b = (b.0 ++ u, ap (λ (x : List ℕ). x ++ u) b.1 ∙ append_assoc (decimal place) b.0 u)

group : (closed : Group) (s : Seen) → BeginsWith s.place (line_text with_reasons closed (Line.Group s))
unfolding text_with seen
group closed s =
    let p : ℕ = s.place in
    let a : List ℕ = decimal p ++ direction_word s.direction in
    let b : List ℕ = a ++ kind_word s.kind in
    let c : List ℕ = b ++ mark s.mark in
    let d : List ℕ = c ++ number s.number in
    more p d (codes "\n") (more p c (number s.number) (more p b (mark s.mark) (more p a (kind_word s.kind) (direction_word s.direction, refl))))

fault : (closed : Group) (place n : ℕ) → BeginsWith place (line_text with_reasons closed (Line.Fault place n))
unfolding text_with
fault closed place n =
    let a : List ℕ = decimal place ++ codes " fault " in
    let b : List ℕ = a ++ decimal n in
    more place (b ++ why_text closed) (codes "\n") (more place b (why_text closed) (more place a (decimal n) (codes " fault ", refl)))

missed : (closed : Group) (place : ℕ) → BeginsWith place (line_text with_reasons closed (Line.Missed place))
unfolding text_with
missed closed place = (codes " missed\n", refl)

-- ---- what `accept` writes

entry_ends : (front : List ℕ) (m : Option ℕ) → Ends (front ++ met_words m)
unfolding met_words
entry_ends front None = (front ++ codes " absent", sym (append_assoc front (codes " absent") (codes "\n")))
entry_ends front (Some place) = (front ++ (codes " met at " ++ decimal place), sym (append_assoc front (codes " met at " ++ decimal place) (codes "\n")))

reported : (i : ℕ) (e : Entry) → entry_title i e ++ codes "\n" ≡ entry_line i e
unfolding entry_title entry_line
reported i e = before (entry_line i e) (entry_ends (codes "entry " ++ decimal (one_more i) ++ codes " at " ++ decimal e.place ++ kind_word e.kind) e.met)

answered : (s : Seen) → extra_title s ++ codes "\n" ≡ group_line s.place s.kind Role.Extra
unfolding group_line part_words
answered s = append_assoc (decimal s.place ++ kind_word s.kind) (codes " extra") (codes "\n")

-- ---- where it stands

lines : (closed : Group) (line : Line) (edge place : ℕ) → HasTitle "<g><title>" (title closed line) (sign closed line edge place)
unfolding sign
lines closed line edge place =
    let rest : List ℕ = whole (metres (codes "' x='") (on_strip edge place) ++ codes "'/>" ∷ label line edge (on_strip edge place) ++ codes "</g>\n" ∷ []) in
    (codes "<use href='#s" ++ (decimal (shape line) ++ rest), ap (λ (x : List ℕ). codes "<g><title>" ++ (title closed line ++ x)) (append_assoc (codes "</title><use href='#s") (decimal (shape line)) rest))

entries : (i : ℕ) (e : Entry) (edge : ℕ) → HasTitle "<g class='e'><title>" (entry_title i e) (entry_sign i e edge)
unfolding entry_sign
entries i e edge =
    let x : ℕ = on_strip edge e.place in
    let rest : List ℕ = whole (metres (codes "' x='") x ++ row_number x (one_more i)) in
    (codes "<use href='#s" ++ (decimal (entry_shape e.met) ++ rest), ap (λ (y : List ℕ). codes "<g class='e'><title>" ++ (entry_title i e ++ y)) (append_assoc (codes "</title><use href='#s") (decimal (entry_shape e.met)) rest))

extras : (s : Seen) (edge : ℕ) → HasTitle "<g class='e'><title>" (extra_title s) (extra_sign s edge)
unfolding extra_sign
extras s edge =
    let d : List ℕ = decimal s.place in
    let k : List ℕ = kind_word s.kind in
    let rest : List ℕ = whole (metres (codes "' x='") (on_strip edge s.place) ++ codes "'/></g>\n" ∷ []) in
    let tail : List ℕ = codes "</title>" ++ (codes "<use href='#s32" ++ rest) in (
      codes "<use href='#s32" ++ rest,
      append_assoc (codes "<g class='e'><title>") d (k ++ (codes " extra" ++ tail))
          ∙ ap (λ (x : List ℕ). codes "<g class='e'><title>" ++ x) (sym (append_assoc (d ++ k) (codes " extra") tail ∙ append_assoc d k (codes " extra" ++ tail))),
    )

pub titled : Titled
titled = record { lines = lines; explained = explained; group = group; fault = fault; missed = missed; entries = entries; reported = reported; extras = extras; answered = answered }
