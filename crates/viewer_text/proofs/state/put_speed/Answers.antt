-- `put_speed` goes by whether the speed is known.
use mathlib.Core.Path.{sym, ap, subst, ◌∙◌}
use mathlib.Core.List.{◌++◌}
use Prim.Native.Nat.{◌+◌, ◌≤◌}
use lib.ListN.{length}
use Rattle.text.specs.Text.{codes}
use Rattle.text.specs.Put.{put}
use Rattle.group.specs.declared.Told.{Told}
use Rattle.text.proofs.Standing.{join}
use Rattle.viewer_text.specs.Text.{speed}
use Rattle.viewer_text.proofs.state.put_speed.Goals as goal

pub returns-in-Unknown : goal.returns-in-Unknown
unfolding speed
returns-in-Unknown c =
    let a = c.args in
    join a.buf.now a.at a.words.now (codes "none")
    (subst (λ (t : Told). a.at + length (a.words.now ++ speed t) ≤ length a.buf.now) c.in-Unknown.is c.requires) c.put-a.ensures c.put.ensures
    ∙ ap (λ (t : Told). put (a.words.now ++ speed t) a.buf.now a.at) (sym c.in-Unknown.is)

pub returns-in-Kmh : goal.returns-in-Kmh
unfolding speed
returns-in-Kmh c =
    let a = c.args in
    c.put_number.ensures ∙ ap (λ (t : Told). put (a.words.now ++ speed t) a.buf.now a.at) (sym c.in-Kmh.is)
