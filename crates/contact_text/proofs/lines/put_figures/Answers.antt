-- `put_figures` puts one figure after the other.
use mathlib.Core.Path.{sym, ap, ◌∙◌}
use mathlib.Core.List.{List}
use Prim.Native.Nat.{ℕ}
use Rattle.text.specs.Put.{put}
use Rattle.text.proofs.Standing.{join_3, numbered, room_as}
use Rattle.contact_text.specs.Lines.{figures}
use Rattle.contact_text.proofs.Pieces.{figures_are, number_is}
use Rattle.contact_text.proofs.lines.put_figures.Goals as goal

pub returns-in-Figures : goal.returns-in-Figures
returns-in-Figures c =
    let a = c.args in
    let is = figures_are c.in-Figures.x c.in-Figures.y c.in-Figures.z ∙ ap figures (sym c.in-Figures.is) in
    join_3 a.buf.now a.at (numbered " " c.in-Figures.x) (numbered " " c.in-Figures.y) (numbered " " c.in-Figures.z) (room_as a.buf.now a.at is c.requires) c.put_number-a.ensures c.put_number-b.ensures c.put_number.ensures
    ∙ ap (λ (t : List ℕ). put t a.buf.now a.at) is

pub returns-in-Number : goal.returns-in-Number
returns-in-Number c =
    let a = c.args in
    c.put_number-in-Number.ensures
    ∙ ap (λ (t : List ℕ). put t a.buf.now a.at) (number_is c.in-Number.m ∙ ap figures (sym c.in-Number.is))
