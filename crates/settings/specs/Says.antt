-- The numbers of the documents for each case of this crate's answers.
-- Assumes nothing.
use Rattle.std.specs.Prelude.{ℕ, Result, Ok, Err}
use Rattle.words.specs.Answer.{Outcome, gives, refuses}
use Rattle.settings.specs.declared.Bad.{Bad}
use Rattle.settings.specs.declared.Begun.{Begun}
use Rattle.settings.specs.declared.Added.{Added}
use Rattle.settings.specs.declared.Held.{Held}
use Rattle.settings.specs.Versions.{Kept, kept}
use Rattle.settings.specs.Store.{Change}

-- "sync pair doesn't differ in seven bits" is 4, "gap outside 1 to 200" is 19, "a place above
-- 4,000,000,000" is 18, "an added place not above the last" is 24, "a 33rd version" is 25.
abbrev pub says_bad : Bad → ℕ
says_bad Bad.Pair = 4
says_bad Bad.Gap = 19
says_bad Bad.TooHigh = 18
says_bad Bad.NotAbove = 24
says_bad Bad.Full = 25

-- Kept, or the number of a refusal.
abbrev pub says_verdict : Result (Unit {0}) Bad → Outcome Kept
says_verdict (Ok done) = gives kept
says_verdict (Err bad) = refuses (says_bad bad)

-- An opened store: how it went, and the store.
abbrev pub says_begun : Begun → Change
says_begun b = record { answer = says_verdict b.verdict; store = b.store }

-- A version added: how it went, and the store after it.
abbrev pub says_added : Added → Change
says_added a = record { answer = says_verdict a.verdict; store = a.store }

-- The version in force, or the number of a refusal.
abbrev pub says_asked : Result Held Bad → Outcome Held
says_asked (Ok held) = gives held
says_asked (Err bad) = refuses (says_bad bad)
