-- `put_state` spells the lines in a space of its own, and puts them into the buffer if they fit
-- there.
use mathlib.Core.Path.{◌≡◌, sym, ap, ◌∙◌}
use mathlib.Core.List.{List}
use Prim.Native.Nat.{ℕ, ◌≤◌}
use native.Mathlib.Omega.{arith}
use lib.ListN.{length, take, replicate, length-replicate}
use lib.Seq.{length-take-le}
use Rattle.text.specs.Put.{put}
use Rattle.text.proofs.Standing.{spelled}
use Rattle.viewer_text.specs.Text.{state}
use Rattle.viewer_text.proofs.Pieces.{state_length}
use Rattle.viewer_text.proofs.put_state.Goals.{After-put_all-n}
use Rattle.viewer_text.proofs.put_state.Goals as goal

-- The space begins with the lines.
begins : (c : After-put_all-n) →
    let a = c.args in
    (take c.put_all-n.result c.put_all-n.new.buf ≡ state a.number a.count a.kept a.ride) × (c.put_all-n.result ≤ length c.put_all-n.new.buf)
begins c =
    let a = c.args in
    spelled (replicate 384 0) (state a.number a.count a.kept a.ride) (omega (arith, state_length a.number a.count a.kept a.ride, length-replicate {A = ℕ} 384 0)) c.put_all-n.ensures

pub put_all-n-requires : goal.put_all-n-requires
put_all-n-requires c =
    let a = c.args in
    omega (arith, state_length a.number a.count a.kept a.ride)

pub slice_bounds-space-end : goal.slice_bounds-space-end
slice_bounds-space-end c = (begins (goal.at-slice_bounds-space-end c).After-put_all-n).1

pub slice_bounds-put-end : goal.slice_bounds-put-end
slice_bounds-put-end c =
    sym (length-take-le c.put_all-n.result c.put_all-n.new.buf (begins (goal.at-slice_bounds-put-end c).After-put_all-n).1)

pub returns : goal.returns
returns c =
    let a = c.args in
    c.put.ensures ∙ ap (λ (t : List ℕ). put t a.buf.now a.at) (begins (goal.at-returns c).After-put_all-n).0
