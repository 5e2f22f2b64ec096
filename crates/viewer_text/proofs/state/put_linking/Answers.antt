-- `put_linking` goes by whether linking is set.
use mathlib.Core.Path.{sym, ap, subst, ◌∙◌}
use mathlib.Core.List.{◌++◌}
use Prim.Native.Nat.{◌+◌, ◌≤◌}
use lib.ListN.{length}
use Rattle.text.specs.Text.{codes, decimal}
use Rattle.text.specs.Put.{put}
use Rattle.ride.specs.declared.Linking.{Linking}
use Rattle.text.proofs.Standing.{join}
use Rattle.viewer_text.specs.Pieces.{on_linking}
use Rattle.viewer_text.proofs.state.put_linking.Goals as goal

pub returns-in-Unset : goal.returns-in-Unset
unfolding on_linking
returns-in-Unset c =
    let a = c.args in
    c.put.ensures ∙ ap (λ (l : Linking). put (on_linking l) a.buf.now a.at) (sym c.in-Unset.is)

pub returns-in-Set : goal.returns-in-Set
unfolding on_linking
returns-in-Set c =
    let a = c.args in
    join a.buf.now a.at (codes "\n  linking " ++ decimal c.in-Set.distance) (codes " from " ++ decimal c.in-Set.from)
    (subst (λ (l : Linking). a.at + length (on_linking l) ≤ length a.buf.now) c.in-Set.is c.requires) c.put_number-a.ensures c.put_number.ensures
    ∙ ap (λ (l : Linking). put (on_linking l) a.buf.now a.at) (sym c.in-Set.is)
