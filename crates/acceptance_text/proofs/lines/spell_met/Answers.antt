-- By whether the entry was met.
-- Assumes nothing.
use Rattle.std.proofs.Common.{Option}
use mathlib.Core.Path.{sym, ap, ◌∙◌}
use mathlib.Core.List.{List}
use Prim.Native.Nat.{ℕ}
use Rattle.text.specs.Text.{codes}
use Rattle.text.specs.Put.{put}
use Rattle.text.proofs.Standing.{join, numbered, room_as}
use Rattle.acceptance_text.specs.Lines.{met_words}
use Rattle.acceptance_text.proofs.Pieces.{met_is}
use Rattle.acceptance_text.proofs.lines.spell_met.Goals as goal

pub returns-in-None : goal.returns-in-None
unfolding met_words
returns-in-None c =
    let a = c.args in
    c.put.ensures ∙ ap (λ (j : Option ℕ). put (met_words j) a.buf.now a.at) (sym c.in-None.is)

pub returns-in-Some : goal.returns-in-Some
returns-in-Some c =
    let a = c.args in
    let is = met_is c.in-Some.place ∙ ap met_words (sym c.in-Some.is) in
    join a.buf.now a.at (numbered " met at " c.in-Some.place) (codes "\n") (room_as a.buf.now a.at is c.requires) c.put_number-a.ensures c.put-in-Some.ensures
    ∙ ap (λ (t : List ℕ). put t a.buf.now a.at) is
