-- A printed line stands in the buffer where it was put, and its words, read there, say the thing.
-- Assumes nothing.
use mathlib.Core.Path.{◌≡◌, sym, ap, ◌∙◌}
use mathlib.Core.Bool.{true}
use mathlib.Core.List.{List, [], ◌∷◌, ◌++◌, append_assoc}
use Prim.Native.Nat.{ℕ, ◌+◌, ◌≤◌}
use native.Mathlib.Omega.{arith}
use lib.ListN.{length, take, drop, length-append}
use lib.Seq.{length-take-le, drop_at}
use Rattle.text.specs.Text.{codes, decimal}
use Rattle.text.specs.Put.{placed, put, came}
use Rattle.text.proofs.Standing.{Stands, stands}
use Rattle.lines.specs.declared.Got.{Got}
use Rattle.lines.specs.Text.{up_to, newline, words_of}
use Rattle.lines.specs.Words.{largest, line_of, no_words, kept_all}
use Rattle.lines.specs.Reading.{fresh, line_from, next_line}
use Rattle.lines_laws.specs.Laws.{OneLine}
use Rattle.lines_laws.specs.Printed.{spaced}
use Rattle.lines_laws.proofs.Laws.{reads_a_line}
use Rattle.lines_laws.proofs.Printed.{of_word, words_back}
use Rattle.lines_laws.proofs.Numbers.{numbers_back}
use Rattle.trace_text.specs.declared.What.{What}
use Rattle.trace_text.specs.declared.Said.{Said}
use Rattle.trace_text.specs.Said.{said}
use Rattle.trace_text.specs.Line.{what_text, record_line}
use Rattle.trace_text.proofs.Pieces.{line_length}
use Rattle.trace_text_laws.specs.Laws.{HasRecord, as_said, LineBack}
use Rattle.trace_text_laws.specs.Calls.{PutRecord}
use Rattle.trace_text_laws.proofs.Words.{words_in, in_words}
use Rattle.trace_text_laws.proofs.Saying.{says_it, same_record}

-- The line of a thing without its newline.
abbrev pub bare : ℕ → ℕ → What → List ℕ
bare number place what = decimal place ++ (what_text what ++ (codes " # " ++ decimal number))

pub with_newline : (number place : ℕ) (what : What) → record_line number place what ≡ bare number place what ++ (10 ∷ [])
unfolding record_line
with_newline number place what = simp append_assoc

-- A number has no end of a line in it.
no_end : (number : ℕ) → OneLine (32 ∷ decimal number)
unfolding up_to
no_end number = ap (λ (l : List ℕ). 32 ∷ l) (of_word (decimal number) (numbers_back.a_word number).1)

-- It is one line, and says the thing.
pub says_thing : (number place : ℕ) (what : What) → place ≤ largest → HasRecord place what
    → OneLine (bare number place what) × (said (line_of (bare number place what)) ≡ Said.Thing place (as_said what))
unfolding line_of
says_thing number place what low has =
    let says = says_it place what low has in
    let is : bare number place what ≡ decimal place ++ spaced (words_in what) (32 ∷ 35 ∷ (32 ∷ decimal number)) = ap (λ (l : List ℕ). decimal place ++ l) (in_words what (codes " # " ++ decimal number)) in
    let back = words_back (decimal place) (words_in what) (32 ∷ decimal number) (numbers_back.a_word place) says.0 (no_end number) in
    (ap (up_to newline) is ∙ back.0 ∙ sym is, ap (λ (l : List ℕ). said (kept_all no_words (words_of l))) is ∙ ap (λ (ws : List (List ℕ)). said (kept_all no_words ws)) back.1 ∙ says.1)

-- What `put_record` puts where there is room.
pub put_so : (number place : ℕ) (what : What) (before after : List ℕ) (at next : ℕ) → at + length (record_line number place what) ≤ length before
    → PutRecord number place what before at next after → Stands before after at next (record_line number place what)
put_so number place what before after at next room c =
    let is : came next after ≡ put (record_line number place what) before at =
    ap (came next) (sym c.4) ∙ c.5 ∙ ap (λ (b : List ℕ). put (record_line number place what) b at) c.3 in
    stands room is

-- Read where it stands.
from_there : (t before after : List ℕ) (at next : ℕ) → Stands before after at next t → drop at after ≡ t ++ drop (at + length t) before
unfolding placed
from_there t before after at next s =
    let fits = s.fits in
    let before_it : length (take at before) ≡ at = length-take-le at before (omega arith) in
    ap (drop at) (s.put.1 ∙ append_assoc (take at before) t (drop (at + length t) before))
    ∙ drop_at (take at before) (t ++ drop (at + length t) before) at before_it

pub line_back : LineBack
unfolding next_line
line_back number place what before after at next reader g s low has room puts is_fresh asked reads =
    let t : List ℕ = record_line number place what in
    let line : List ℕ = bare number place what in
    let fits : at + length t ≤ length before = omega (arith, line_length number place what) in
    let st = put_so number place what before after at next fits puts in
    let says = says_thing number place what low has in
    let rest : List ℕ = drop (at + length t) before in
    let here : drop at after ≡ line ++ 10 ∷ rest = from_there t before after at next st ∙ ap (λ (l : List ℕ). l ++ rest) (with_newline number place what) ∙ append_assoc line (10 ∷ []) rest in
    let got : g ≡ record { line = line_of line; ends = true; next = at + length line + 1; reader = fresh } =
    asked.4 ∙ ap (λ (b : List ℕ). next_line reader b at) asked.3 ∙ ap (λ (b : List ℕ). line_from reader b at) here
    ∙ ap (λ r. line_from r (line ++ 10 ∷ rest) at) is_fresh.1 ∙ reads_a_line line rest at says.0 in
    let long : length t ≡ length line + 1 = ap length (with_newline number place what) ∙ length-append line (10 ∷ []) in (
      reads.1 ∙ ap (λ (x : Got). said x.line) got ∙ says.1,
      same_record place what,
      ap (λ (x : Got). x.ends) got,
      ap (λ (x : Got). x.next) got ∙ (let z : at + length line + 1 ≡ next = omega (arith, long, st.put.0) in z),
    )
