-- `put_figure` goes by whether there is a number.
use mathlib.Core.Path.{sym, ap, ◌∙◌}
use Rattle.text.specs.Put.{put}
use Rattle.group.specs.declared.Number.{Number}
use Rattle.viewer_text.specs.Text.{figure}
use Rattle.viewer_text.specs.Pieces.{on_figure}
use Rattle.viewer_text.proofs.state.put_figure.Goals as goal

pub returns-in-None : goal.returns-in-None
unfolding on_figure figure
returns-in-None c =
    let a = c.args in
    c.put.ensures ∙ ap (λ (m : Number). put (on_figure m) a.buf.now a.at) (sym c.in-None.is)

pub returns-in-Figure : goal.returns-in-Figure
unfolding on_figure figure
returns-in-Figure c =
    let a = c.args in
    c.put_number.ensures ∙ ap (λ (m : Number). put (on_figure m) a.buf.now a.at) (sym c.in-Figure.is)
