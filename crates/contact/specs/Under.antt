-- Judging a contact under a store of settings (document 02, M-111): "a contact with the sync pair
-- in force at the odometer given with it".
-- Assumes nothing.
use Rattle.std.specs.Prelude.{ℕ, List}
use Rattle.words.specs.Answer.{Outcome, then}
use Rattle.settings.specs.declared.Store.{Store}
use Rattle.settings.specs.At.{asked}
use Rattle.contact.specs.Judge.{Contact, judge}

-- The store's own refusal, then 18 for the odometer; then 5, 7 and 8, as the contact is judged with
-- the pair in force there.
unfoldable pub judge_under : Store → ℕ → List ℕ → ℕ → ℕ → Outcome Contact
judge_under store odometer b start len =
    then (asked store odometer) λ held.
    judge b start len held.s held.t
