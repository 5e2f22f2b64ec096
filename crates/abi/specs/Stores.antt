-- How the settings become C's numbers and bytes.
-- Assumes nothing.
use Rattle.std.specs.Prelude.{ℕ, List}
use Rattle.words.specs.Answer.{Outcome, gives, refuses}
use Rattle.settings.specs.declared.Store.{Store}
use Rattle.settings.specs.Versions.{Kept, kept}
use Rattle.settings.specs.Store.{Change}
use Rattle.settings_text.specs.declared.Condition.{Condition}
use Rattle.settings_text.specs.declared.Sheet.{Sheet}
use Rattle.state_bytes.specs.Stores.{store_bytes}
use Rattle.abi.specs.Face.{left}

-- A store opened or added to is returned as 0.
abbrev pub kept_number : Kept → ℕ
kept_number k = 0

-- What is left in the lent bytes: the store after it, or what they held.
abbrev pub store_left : Change → List ℕ → List ℕ
store_left change before = left (λ k b. store_bytes change.store) change.answer before

-- The store that the bytes then hold: the store after it, or the one that they held.
abbrev pub then_holds : Outcome Kept → Store → Store → Store
then_holds (gives k) after before = after
then_holds (refuses n) after before = before

abbrev pub store_after_meant : Change → Store → Store
store_after_meant change before = then_holds change.answer change.store before

-- What a text comes to, as an answer: the documents have no number for a line that is unreadable, a
-- text that is too long and a first place that is not 0; here 100, 101 and 102.
abbrev pub how_answer : Condition → Outcome Kept
how_answer Condition.Fine = gives kept
how_answer (Condition.Refused n) = refuses n
how_answer Condition.Unreadable = refuses 100
how_answer Condition.TooLong = refuses 101
how_answer Condition.FirstPlace = refuses 102

abbrev pub change_of : Sheet → Change
change_of sheet = record { answer = how_answer sheet.how; store = sheet.store }
