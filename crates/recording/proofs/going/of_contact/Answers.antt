-- The tape closes the contact, and its record is that of what was judged.
-- Assumes nothing.
use Prim.Native.Nat.{ℕ}
use mathlib.Core.Path.{ap₂, ◌∙◌}
use mathlib.Core.List.{List}
use Rattle.recording.specs.declared.Tape.{Tape}
use Rattle.std.specs.Prelude.{Some}
use Rattle.recording.specs.declared.Taken.{Taken}
use Rattle.recording.proofs.going.of_contact.Goals as goal

abbrev at : ℕ → ℕ → Tape → List ℕ → Taken
at frame bit tape bytes = record { tape = tape; frame = frame; bit = bit; came = Some bytes }

pub returns : goal.returns
returns c =
    let a = c.args in
    c.gave.ensures ∙ ap₂ (at a.frame a.bit) c.closes-next.ensures c.record_at.ensures
