-- What is written is the line of one balise, as `balise_line/specs/Line.antt` draws it: bit after
-- bit, for ever. That it is so: proofs/Heard.antt.
-- Assumes nothing.
use Rattle.std.specs.Prelude.{ℕ, ◌+◌, ◌*◌, ◌<◌, ◌≡◌, List, ◌++◌}
use Rattle.telegram.specs.Stretch.{bit_at}
use Rattle.telegram.specs.declared.Telegram.{Telegram}
use Rattle.balise_line.specs.Line.{OneBalise, sent_bit}
use Rattle.telegram.specs.Spelling.{Words, words_of}
use Rattle.balise_writer.specs.Write.{telegrams}

-- The balise that says m with the sync words s and t, heard over the bits of n telegrams and the
-- closing sync word, from bit 0 of a buffer on.
abbrev pub sender : Telegram → ℕ → ℕ → ℕ → List ℕ → OneBalise
sender m s t n buffer =
    let w : Words = words_of m in
    record { buffer = buffer; start = 0; len = 8 * (4 * n + 1); s = s; t = t; x = w.x; y = w.y; z = w.z; telegram = m; phase = 0 }

-- Bit j of what is written, whatever stands after it, is the bit that the balise sends as line bit
-- j.
abbrev pub WritesTheLine : Type 0
WritesTheLine =
    (m : Telegram) (s t n : ℕ) (rest : List ℕ) (j : ℕ) → j < 8 * (4 * n + 1)
    → bit_at (telegrams s t (words_of m) n ++ rest) j ≡ sent_bit (sender m s t n (telegrams s t (words_of m) n ++ rest)) j
