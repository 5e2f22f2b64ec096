-- The lines that are put one after the other into the buffer tell the records of the block, and all
-- blocks' lines the trace.
-- Assumes nothing.
use mathlib.Core.Path.{◌≡◌, refl, sym, ap, subst, ◌∙◌}
use mathlib.Core.Bool.{Bool, true, false}
use mathlib.Core.List.{List, [], ◌∷◌, ◌++◌, append-nil}
use Prim.Native.Nat.{ℕ, zero, suc, ◌+◌, ◌*◌, ◌/◌, ◌^◌, ◌≤◌, ◌<◌}
use native.Mathlib.Omega.{arith}
use lib.Dec.{eqb}
use lib.ListN.{length, take, drop, length-append}
use lib.Seq.{drop-length}
use Rattle.words.specs.Answer.{gives, pick}
use Rattle.text.specs.Text.{codes, decimal}
use Rattle.text.proofs.Decimal.{decimal_length, five_digits, at_most}
use Rattle.text.proofs.Placing.{placed_none, placed_start}
use Rattle.text.proofs.Standing.{Stands, behind, keeps}
use Rattle.lines_laws.specs.Texts.{joined}
use Rattle.lines_laws.proofs.Numbers.{begins_with}
use Rattle.trace_text.specs.declared.What.{What}
use Rattle.trace_text.specs.declared.Said.{Said}
use Rattle.trace_text.specs.Record.{record_of_meant}
use Rattle.trace_text.specs.Thing.{thing_at}
use Rattle.trace_text.specs.Line.{byte_text, balise, what_text, record_line}
use Rattle.trace_text_laws.specs.Laws.{Bytes, HasRecord, as_said}
use Rattle.trace_text_laws.specs.Texts.{Puts, one, over, Printed, none, block, made, Writes, ThereAndBack}
use Rattle.trace_text_laws.proofs.Words.{its_figures}
use Rattle.trace_text_laws.proofs.Saying.{same_record}
use Rattle.trace_text_laws.proofs.LineBack.{bare, with_newline, says_thing, put_so}
use Rattle.trace_text_laws.proofs.Eight.{eight, AThing, thing_there, none_there, in_eight, first_bytes, last_bytes}
use Rattle.trace_text_laws.proofs.Told as told
use Rattle.trace_text_laws.proofs.Told.{Tells, joined_tells, comes_back, all_whole}

-- ---- no line has more than 64 bytes

short : (n : ℕ) → n < 2 ^ 16 → length (decimal n) ≤ 5
short n h = subst (λ (l : List ℕ). length l ≤ 5) (five_digits n h) (at_most 5 n)

what_short : (place : ℕ) (what : What) (bytes : List ℕ) → record_of_meant place what ≡ gives bytes → length (what_text what) ≤ 18
unfolding what_text byte_text balise
what_short place (What.Balise x y z) bytes e = by (eqb x 12) refl
  where
    by : (t : Bool) → eqb x 12 ≡ t → length (pick t (codes " 12 " ++ decimal y) (codes " " ++ decimal x ++ codes " " ++ decimal y ++ codes " " ++ decimal z)) ≤ 18
    by true is = let h = (its_figures place x y z bytes e).as_number is in simp length-append (omega (arith, short y (omega arith)))
    by false is = let h = (its_figures place x y z bytes e).as_figures is in simp length-append (omega (arith, short x (omega (arith, h.0)), short y (omega (arith, h.1)), short z (omega (arith, h.2))))
what_short place What.Marker bytes e = omega arith
what_short place What.Unreadable bytes e = omega arith
what_short place What.Position bytes e = omega arith
what_short place (What.Raw kind x y z) bytes e = omega arith

line_short : (number place : ℕ) (what : What) (bytes : List ℕ) → record_of_meant place what ≡ gives bytes → length (record_line number place what) ≤ 64
unfolding record_line
line_short number place what bytes e = simp length-append (omega (arith, decimal_length number, decimal_length place, what_short place what bytes e))

-- ---- the lines of a block

-- The line of a record tells it.
one_tells : (number place : ℕ) (what : What) (bytes : List ℕ) → AThing bytes place what → Bytes bytes → Tells (record_line number place what) bytes
one_tells number place what bytes known all =
    let has : HasRecord place what = (bytes, known.is, all) in
    let says = says_thing number place what known.low has in
    let starts = begins_with place in
    let begins : bare number place what ≡ starts.0 ∷ (starts.1 ++ (what_text what ++ (codes " # " ++ decimal number))) =
    ap (λ (l : List ℕ). l ++ (what_text what ++ (codes " # " ++ decimal number))) starts.2 in
    let line = told.one (bare number place what) place (as_said what) starts.0 (starts.1 ++ (what_text what ++ (codes " # " ++ decimal number))) begins starts.3
    says.0 says.1 (same_record place what ∙ known.is) told.none in
    subst (λ (l : List ℕ). Tells l bytes) (sym (with_newline number place what)) (subst (Tells (bare number place what ++ (10 ∷ []))) (append-nil bytes) line)

-- What was put from a place on, and that it tells what is left of the block.
record Put (b : List ℕ) (from at : ℕ) (before : List ℕ) (end : ℕ) (after : List ℕ) : Type 0 where
  pub text : List ℕ
  pub stands : Stands before after at end text
  pub tells : Tells text (drop from b)

nothing_left : (b : List ℕ) (from at : ℕ) (buffer : List ℕ) → from ≡ length b → at ≤ length buffer → Put b from at buffer at buffer
nothing_left b from at buffer is room =
    record {
      text = [];
      stands = record { put = (omega arith, sym (placed_none buffer at)); fits = omega arith };
      tells = subst (Tells []) (sym (ap (λ (n : ℕ). drop n b) is ∙ drop-length b)) told.none;
    }

more_left : (b : List ℕ) (from at next end : ℕ) (before between after : List ℕ) (number place : ℕ) (what : What) → from + 8 ≤ length b → Bytes (drop from b)
    → Said.Thing place what ≡ thing_at b from → (at + length (record_line number place what) ≤ length before → Stands before between at next (record_line number place what))
    → at + 64 ≤ length before → Put b (from + 8) next between end after → Put b from at before end after
more_left b from at next end before between after number place what h all is puts room rest =
    let known = thing_there b from place what h all is in
    let line : List ℕ = record_line number place what in
    let bytes : Bytes (eight b from) = first_bytes (eight b from) (drop (from + 8) b) (subst Bytes (in_eight b from h) all) in
    let st = puts (omega (arith, line_short number place what (eight b from) known.is)) in
    let fits : at + length (line ++ rest.text) ≤ length before = omega (arith, length-append line rest.text, keeps st, st.put.0, rest.stands.fits) in
    record {
      text = line ++ rest.text;
      stands = behind rest.text st fits rest.stands.put;
      tells = subst (Tells (line ++ rest.text)) (sym (in_eight b from h)) (joined_tells (one_tells number place what (eight b from) known bytes) rest.tells);
    }

block_put : (b : List ℕ) (k from at : ℕ) (before : List ℕ) (end : ℕ) (after : List ℕ) → from + 8 * k ≡ length b → at + 64 * k ≤ length before → Bytes (drop from b)
    → Puts b from at before end after → Put b from at before end after
block_put b zero from at before end after is room all (over e) = nothing_left b from at before (omega arith) (omega arith)
block_put b (suc k) from at before end after is room all (over e) = absurd (omega arith)
block_put b zero from at before end after is room all (one number place what asked puts rest) =
    absurd (none_there b from place what (omega arith) (asked.4 ∙ ap (λ (t : List ℕ). thing_at t from) asked.3))
block_put b (suc k) from at before end after is room all (one {next = next} {between = between} number place what asked puts rest) =
    let h : from + 8 ≤ length b = omega arith in
    let there : Said.Thing place what ≡ thing_at b from = asked.4 ∙ ap (λ (t : List ℕ). thing_at t from) asked.3 in
    let known = thing_there b from place what h all there in
    let fits : at + length (record_line number place what) ≤ length before = omega (arith, line_short number place what (eight b from) known.is) in
    let st = put_so number place what before between at next fits puts in
    let next_room : next + 64 * k ≤ length between = omega (arith, keeps st, st.put.0, line_short number place what (eight b from) known.is) in
    let left : Bytes (drop (from + 8) b) = last_bytes (eight b from) (drop (from + 8) b) (subst Bytes (in_eight b from h) all) in
    more_left b from at next end before between after number place what h all there (λ room. put_so number place what before between at next room puts) (omega arith)
    (block_put b k (from + 8) next between end after (omega arith) next_room left rest)

-- ---- all blocks

pub printed_tells : {blocks : List (List ℕ)} {text : List ℕ} → Printed blocks text → Bytes (joined blocks) → Tells text (joined blocks)
printed_tells none all = told.none
printed_tells (block {b} {before} {after} {text} {bs} {end} whole small room puts rest) all =
    let put = block_put b (length b / 8) 0 0 before end after (omega arith) (omega arith) (first_bytes b (joined bs) all) puts in
    let start : take end after ≡ put.text =
    ap (λ (n : ℕ). take n after) put.stands.put.0 ∙ ap (take (0 + length put.text)) put.stands.put.1 ∙ placed_start put.text before in
    joined_tells (subst (λ (l : List ℕ). Tells l b) (sym start) put.tells) (printed_tells rest (last_bytes b (joined bs) all))

pub there_and_back : ThereAndBack
there_and_back =
    record {
      of_a_trace = λ blocks text result all printed taken. comes_back result (printed_tells printed all) taken;
      whole_records = λ text records taken. all_whole taken.lines (made records) taken.comes records refl;
      of_a_text = λ text again records blocks result taken is all printed then.
          subst (Writes result) is (comes_back result (printed_tells printed (subst Bytes (sym is) all)) then);
    }
