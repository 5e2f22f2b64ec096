-- A piece is refused with 5 exactly if it is no stretch of the buffer.
-- Assumes nothing.
use mathlib.Core.Path.{◌≡◌, refl, sym, ap, ◌∙◌, subst}
use mathlib.Core.Bool.{Bool}
use mathlib.Core.List.{List, [], ◌∷◌}
use Prim.Native.Nat.{ℕ}
use Rattle.words.specs.Answer.{Outcome, gives, refuses, pick}
use Rattle.telegram.specs.Stretch.{inside}
use Rattle.antenna.specs.declared.Ear.{Ear}
use Rattle.antenna.specs.Piece.{First, first, hear_piece}
use Rattle.antenna.specs.Says.{says_until}
use Rattle.demands.specs.Rules.{row, Decided, Is}
use Rattle.demands.specs.Table.{beyond}
use Rattle.demands.proofs.Common.Rules.{if_not}
use Rattle.demands.proofs.Demand1.Refusals.{beyond_is}
use Rattle.recording_laws.specs.Demand1.{Demand1}

decides : (ear : Ear) (b : List ℕ) (start len s t : ℕ) → Decided (Is (first b s t ear start len)) (row 5 (beyond b start len) ∷ []) (hear_piece ear b start len s t)
unfolding hear_piece
decides ear b start len s t =
    subst (λ (x : Bool). Decided (Is (first b s t ear start len)) (row 5 x ∷ []) (pick (inside b start len) (gives (first b s t ear start len)) (refuses 5))) (sym (beyond_is b start len))
    (if_not (Is (first b s t ear start len)) [] (refuses 5) (gives (first b s t ear start len)) refl (inside b start len))

pub demand1 : Demand1
demand1 ear b start len s t r call =
    let is : says_until r ≡ hear_piece ear b start len s t = call.4 ∙ ap (λ (v : List ℕ). hear_piece ear v start len s t) call.3 in
    subst (λ (o : Outcome First). Decided (Is (first b s t ear start len)) (row 5 (beyond b start len) ∷ []) o) (sym is) (decides ear b start len s t)
