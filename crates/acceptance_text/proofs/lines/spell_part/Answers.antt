-- By the part.
-- Assumes nothing.
use mathlib.Core.Path.{sym, ap, ◌∙◌}
use mathlib.Core.List.{List}
use Prim.Native.Nat.{ℕ}
use Rattle.text.specs.Text.{codes}
use Rattle.text.specs.Put.{put}
use Rattle.text.proofs.Standing.{join, numbered, room_as}
use Rattle.acceptance.specs.declared.Role.{Role}
use Rattle.acceptance.specs.Taking.{one_more}
use Rattle.acceptance_text.specs.Lines.{part_words}
use Rattle.acceptance_text.proofs.Pieces.{wanted_is}
use Rattle.acceptance_text.proofs.lines.spell_part.Goals as goal

pub returns-in-Wanted : goal.returns-in-Wanted
returns-in-Wanted c =
    let a = c.args in
    let is = wanted_is c.in-Wanted.i ∙ ap part_words (sym c.in-Wanted.is) in
    join a.buf.now a.at (numbered " wanted " (one_more c.in-Wanted.i)) (codes "\n") (room_as a.buf.now a.at is c.requires)
    (c.put_number-a.ensures ∙ ap (λ (m : ℕ). put (numbered " wanted " m) a.buf.now a.at) c.one_more.ensures) c.put.ensures
    ∙ ap (λ (t : List ℕ). put t a.buf.now a.at) is

pub returns-in-Extra : goal.returns-in-Extra
unfolding part_words
returns-in-Extra c =
    let a = c.args in
    c.put-in-Extra.ensures ∙ ap (λ (j : Role). put (part_words j) a.buf.now a.at) (sym c.in-Extra.is)

pub returns-in-NoPart : goal.returns-in-NoPart
unfolding part_words
returns-in-NoPart c =
    let a = c.args in
    c.put-in-NoPart.ensures ∙ ap (λ (j : Role). put (part_words j) a.buf.now a.at) (sym c.in-NoPart.is)
