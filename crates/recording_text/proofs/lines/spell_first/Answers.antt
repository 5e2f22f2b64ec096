-- A line where the first refused frame came just now, else nothing.
-- Assumes nothing.
use mathlib.Core.Path.{sym, ap, ◌∙◌}
use mathlib.Core.List.{List}
use Prim.Native.Nat.{ℕ}
use Rattle.text.specs.Put.{put}
use Rattle.text.proofs.Standing.{room_as}
use Rattle.std.specs.Prelude.{Option, None}
use Rattle.recording_text.specs.declared.RefusedFrame.{RefusedFrame}
use Rattle.recording_text.specs.Lines.{first_line}
use Rattle.recording_text.proofs.Pieces.{first_is}
use Rattle.recording_text.proofs.lines.spell_first.Goals as goal

pub spell_refused-requires : goal.spell_refused-requires
spell_refused-requires c =
    room_as c.args.buf.now c.args.at (first_is c.in-None.is c.in-Some-after.is) c.requires

pub returns-in-Some : goal.returns-in-Some
unfolding first_line
returns-in-Some c =
    let a = c.args in
    c.put.ensures ∙ ap (λ (f : Option RefusedFrame). put (first_line f a.after) a.buf.now a.at) (sym c.in-Some.is)

pub returns-in-None-after : goal.returns-in-None-after
unfolding first_line
returns-in-None-after c =
    let a = c.args in
    c.put-in-None-after.ensures
    ∙ ap (λ (f : Option RefusedFrame). put (first_line f None) a.buf.now a.at) (sym c.in-None.is)
    ∙ ap (λ (g : Option RefusedFrame). put (first_line a.before g) a.buf.now a.at) (sym c.in-None-after.is)

pub returns-in-Some-after : goal.returns-in-Some-after
returns-in-Some-after c =
    let a = c.args in
    c.spell_refused.ensures ∙ ap (λ (t : List ℕ). put t a.buf.now a.at) (first_is c.in-None.is c.in-Some-after.is)
