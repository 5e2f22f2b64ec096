-- The tape keeps the position, and its record has no words.
-- Assumes nothing.
use Prim.Native.Nat.{ℕ}
use mathlib.Core.Path.{ap₂, ◌∙◌}
use mathlib.Core.List.{List}
use Rattle.recording.specs.declared.Tape.{Tape}
use Rattle.std.specs.Prelude.{Some}
use Rattle.recording.specs.declared.Taken.{Taken}
use Rattle.recording.proofs.going.of_position.Goals as goal

abbrev at : ℕ → Tape → List ℕ → Taken
at frame tape bytes = record { tape = tape; frame = frame; bit = 0; came = Some bytes }

pub returns : goal.returns
returns c = c.gave.ensures ∙ ap₂ (at c.args.frame) c.positioned-next.ensures c.blank_at.ensures
