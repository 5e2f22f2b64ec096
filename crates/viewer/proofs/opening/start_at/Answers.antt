-- `start_at` judges first, and stands at the first record whatever the judgement.
use mathlib.Core.Path.{◌≡◌, refl, ap, ◌∙◌}
use mathlib.Core.Bool.{Bool, true, false}
use Prim.Native.Nat.{ℕ, ◌%◌}
use mathlib.Core.List.{List}
use lib.Dec.{eqb}
use lib.ListN.{length}
use Rattle.words.specs.Answer.{Outcome, gives, refuses}
use Rattle.settings.specs.declared.Store.{Store}
use Rattle.settings.specs.Versions.{Kept}
use Rattle.settings.specs.Store.{judged}
use Rattle.viewer.specs.Stand.{opened}
use Rattle.viewer.specs.Viewing.{Done, Start, start}
use Rattle.viewer.specs.Says.{trace_of}
use Rattle.viewer.specs.declared.Standing.{Standing}
use Rattle.viewer.proofs.opening.start_at.Goals as goal

-- what is answered tells what of the trace is held
held_by : (o : Outcome Kept) (d : Bool) (store : Store) (trace : List ℕ) → judged store ≡ o → eqb (length trace % 8) 0 ≡ d
    → ◌≡◌ {A = Start} (record { answer = (start store trace).answer; trace = trace_of (start store trace).answer trace; stand = opened store }) (start store trace)
unfolding start
held_by (gives k) true store trace e h = rw (e, h)
held_by (gives k) false store trace e h = rw (e, h)
held_by (refuses n) d store trace e h = rw e

pub returns : goal.returns
returns c =
    let a = c.args in
    let trace = a.trace.now in
    ap {B = Start} (λ (o : Outcome Done). record { answer = o; trace = trace_of o trace; stand = c.fresh-stand.result }) c.begins-begun.ensures
    ∙ ap {B = Start} (λ (s : Standing). record { answer = (start a.store trace).answer; trace = trace_of (start a.store trace).answer trace; stand = s }) c.fresh-stand.ensures
    ∙ held_by (judged a.store) (eqb (length trace % 8) 0) a.store trace refl refl
