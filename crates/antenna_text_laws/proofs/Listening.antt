-- The contacts handed out are those of the whole line, and so are their lines.
-- Assumes nothing.
use mathlib.Core.Path.{refl, ap₂}
use mathlib.Core.Bool.{Bool}
use mathlib.Core.List.{List, ◌++◌}
use Rattle.antenna.specs.Line.{Told}
use Rattle.antenna_text.specs.Lines.{told_lines, end_line}
use Rattle.recording_laws.proofs.Hearing.{as_in_one_buffer}
use Rattle.antenna_text_laws.specs.Listening.{listing, Listening}

pub listening : Listening
unfolding listing
listening =
    record {
      whole = λ fresh last ps l b begun heard one small.
          let so = as_in_one_buffer.by_definition fresh last ps l b begun heard one small in
          ap₂ (λ (x : List Told) (y : Bool). told_lines x ++ end_line y) so.0 so.1;
      each = λ o at length judged. refl;
    }
