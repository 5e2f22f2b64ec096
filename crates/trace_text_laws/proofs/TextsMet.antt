-- A trace of one record, a marker at 5 dm, printed and read with every call in full: the hypotheses
-- are met.
-- Assumes nothing.
use mathlib.Core.Path.{◌≡◌, refl, sym, ap, subst, ◌∙◌}
use mathlib.Core.Logic.{inr}
use mathlib.Core.List.{List, [], ◌∷◌, ◌++◌, append-nil}
use Prim.Native.Nat.{ℕ}
use native.Mathlib.Omega.{arith}
use lib.ListN.{length, take, replicate, length-replicate}
use Rattle.text.specs.Text.{codes, digits, decimal}
use Rattle.text.specs.Put.{placed, put, came}
use Rattle.text.proofs.Placing.{placed_start}
use Rattle.text.proofs.Standing.{was_put}
use Rattle.figures.specs.Figures.{hex_digit, hex}
use Rattle.lines.specs.Text.{beginning}
use Rattle.lines.specs.Words.{no_words, kept}
use Rattle.lines.specs.Reading.{digit_on, number_on, letters_on, no_letters, letter_on, named, byte_of, done, closed, fresh, character, whole, unfinished, line_from, next_line}
use Rattle.lines_laws.specs.Texts.{line, ReadOut}
use Rattle.trace_text.specs.declared.What.{What}
use Rattle.trace_text.specs.declared.Said.{Said}
use Rattle.trace_text.specs.declared.MakingWent.{MakingWent}
use Rattle.trace_text.specs.Said.{what_of, said}
use Rattle.trace_text.specs.Record.{record_of_meant}
use Rattle.trace_text.specs.Thing.{blank, thing_of, thing_at}
use Rattle.trace_text.specs.Line.{what_text, record_line}
use Rattle.trace_text_laws.specs.Calls.{ThingAt, PutRecord}
use Rattle.trace_text_laws.specs.Laws.{Bytes}
use Rattle.trace_text_laws.specs.Texts.{one, over, Printed, none, block, made, Comes, no_more, nothing, thing, Taken}
use Rattle.trace_text_laws.proofs.OneLine.{lent, lent_out, first, last, read_out}

abbrev marker : List ℕ
marker = 0 ∷ 0 ∷ 0 ∷ 5 ∷ 1 ∷ 0 ∷ 0 ∷ 0 ∷ []

abbrev text : List ℕ
text = codes "5 marker # 1\n"

-- ---- printed

space : List ℕ
space = replicate 65536 0

room : length space ≡ 65536
unfolding space
room = length-replicate {A = ℕ} 65536 0

pub filled : List ℕ
filled = placed text space 0

at_first : ThingAt marker 0 (Said.Thing 5 What.Marker)
unfolding thing_at thing_of blank
at_first = (([], tt), lent marker, (lent marker, (0, tt)), refl, refl)

its_line : record_line 1 5 What.Marker ≡ text
unfolding record_line what_text decimal digits
its_line = refl

put_there : PutRecord 1 5 What.Marker space 0 13 filled
unfolding filled
put_there =
    let stands : came 13 (placed text space 0) ≡ put text space 0 = was_put (record { put = (refl, refl); fits = omega (arith, room) }) in
    (([], tt), lent_out space, (1, (5, (What.Marker, (lent_out (placed text space 0), (0, tt))))), refl, refl, stands ∙ ap (λ (t : List ℕ). put t space 0) (sym its_line))

pub printed_met : Printed (marker ∷ []) (take 13 filled ++ [])
printed_met = block {b = marker} refl (omega arith) room (one 1 5 What.Marker at_first put_there (over {from = 8} (omega arith))) none

pub bytes_met : Bytes (marker ++ [])
bytes_met = (omega arith, (omega arith, (omega arith, (omega arith, (omega arith, (omega arith, (omega arith, (omega arith, tt))))))))

-- ---- read

all_read : ReadOut text [] ((first text).line ∷ (last text).line ∷ [])
unfolding beginning next_line line_from character fresh no_words no_letters letter_on number_on digit_on letters_on closed kept done byte_of named whole unfinished
all_read = read_out text refl refl refl

comes : Comes ((first text).line ∷ (last text).line ∷ []) (made (marker ∷ []))
unfolding beginning next_line line_from character fresh no_words no_letters letter_on number_on digit_on letters_on closed kept done byte_of hex hex_digit named whole unfinished said what_of record_of_meant
comes =
    thing {place = 5} {what = What.Marker} (record { bytes = marker; how = MakingWent.Made }) (((first text).line, tt), refl) ((5, (What.Marker, tt)), refl) refl
    (nothing (((last text).line, tt), refl) no_more)

taken_met : Taken text (made (marker ∷ []))
taken_met = record { first = text; others = []; whole = append-nil text; enough = inr refl; lines = (first text).line ∷ (last text).line ∷ []; read = all_read; comes = comes }

-- What is read is what was printed.
pub back_met : Taken (take 13 filled ++ []) (made (marker ∷ []))
unfolding filled
back_met =
    let is : take 13 (placed text space 0) ++ [] ≡ text = append-nil (take 13 (placed text space 0)) ∙ placed_start text space in
    subst (λ (t : List ℕ). Taken t (made (marker ∷ []))) (sym is) taken_met
