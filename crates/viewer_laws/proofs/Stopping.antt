-- Where many calls stop, the next one is refused: that is why they stopped.
-- Assumes nothing.
use mathlib.Core.Path.{◌≡◌, sym, ap, ◌∙◌}
use mathlib.Core.List.{List}
use Prim.Native.Nat.{ℕ}
use Rattle.viewer.specs.declared.Standing.{Standing}
use Rattle.viewer.specs.Viewing.{forward as forward_of, back as back_of}
use Rattle.viewer.specs.Going.{Moved as Moves, forwards, backs}
use Rattle.viewer.proofs.Often.{forward_stays, back_stays, forwards_stopped, backs_stopped}
use Rattle.viewer_laws.specs.Session.{Stopping}

pub stopping : Stopping
stopping = record {
  forwards = λ trace s n k r c e.
      let is = c.4 ∙ ap (λ (x : List ℕ). forwards n x s) c.3 in
      let there : r.stand ≡ (forwards n trace s).stand = ap (λ (m : Moves). m.stand) is in
      let answer = ap (λ (x : Standing). (forward_of trace x).answer) there ∙ forwards_stopped n k trace s (sym (ap (λ (m : Moves). m.ending) is) ∙ e) in
      (answer, forward_stays trace r.stand k answer);
  backs = λ s n k r c e.
      let there : r.stand ≡ (backs n s).stand = ap (λ (m : Moves). m.stand) c.1 in
      let answer = ap (λ (x : Standing). (back_of x).answer) there ∙ backs_stopped n k s (sym (ap (λ (m : Moves). m.ending) c.1) ∙ e) in
      (answer, back_stays r.stand k answer);
}
