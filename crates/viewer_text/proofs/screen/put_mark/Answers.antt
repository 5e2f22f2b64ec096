-- `put_mark` puts one or the other.
use mathlib.Core.Path.{sym, ap, ◌∙◌}
use mathlib.Core.Bool.{Bool}
use Rattle.text.specs.Put.{put}
use Rattle.viewer_text.specs.Screen.{mark}
use Rattle.viewer_text.proofs.screen.put_mark.Goals as goal

pub returns-then-ahead : goal.returns-then-ahead
returns-then-ahead c =
    c.put.ensures ∙ ap (λ (b : Bool). put (mark b) c.args.buf.now 0) (sym c.if-ahead.true)

pub returns : goal.returns
returns c =
    c.put-2.ensures ∙ ap (λ (b : Bool). put (mark b) c.args.buf.now 0) (sym c.if-ahead.false)
