-- `back_at` goes back once.
use mathlib.Core.Path.{◌≡◌, refl, ap, ◌∙◌}
use Rattle.std.specs.Prelude.{Result, Ok, Err}
use Rattle.words.specs.Answer.{Outcome}
use Rattle.viewer.specs.declared.NoStep.{NoStep}
use Rattle.viewer.specs.Viewing.{Done, Back}
use Rattle.viewer.specs.Going.{answer_of, Moved}
use Rattle.viewer.specs.Says.{says_call_went, says_ending}
use Rattle.viewer.proofs.Many.{backs_one}
use Rattle.viewer.proofs.moving.back_at.Goals as goal

-- A single call says what its ending says.
alike : (e : Result (Unit {0}) NoStep) → says_call_went e ≡ answer_of (says_ending e)
alike (Ok gone) = refl
alike (Err why) = refl

pub returns : goal.returns
returns c =
    ap {B = Back} (λ (o : Outcome Done). record { answer = o; stand = c.backs_at-moved.result.stand }) (alike c.backs_at-moved.result.ending)
    ∙ ap {B = Back} (λ (m : Moved). record { answer = answer_of m.ending; stand = m.stand }) c.backs_at-moved.ensures
    ∙ backs_one c.args.stand
