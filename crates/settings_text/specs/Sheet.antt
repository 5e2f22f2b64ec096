-- The settings of a text, line by line.
-- Assumes nothing.
use Rattle.std.specs.Prelude.{ℕ, ◌+◌, Bool, true, false, List, [], ◌∷◌, eqb, leb, length}
use Rattle.words.specs.Answer.{pick}
use Rattle.settings.specs.declared.Store.{Store}
use Rattle.settings.specs.Store.{no_store_meant}
use Rattle.lines.specs.Text.{lines_in}
use Rattle.lines.specs.Words.{line_of}
use Rattle.settings_text.specs.declared.Condition.{Condition}
use Rattle.settings_text.specs.declared.Taken.{Taken}
use Rattle.settings_text.specs.declared.Sheet.{Sheet}
use Rattle.settings_text.specs.Taking.{take_line}

-- Whether a line or a text is fine.
abbrev pub is_fine : Condition → Bool
is_fine Condition.Fine = true
is_fine Condition.Unreadable = false
is_fine Condition.FirstPlace = false
is_fine (Condition.Refused n) = false
is_fine Condition.TooLong = false

-- A text that is not fine: there is no store.
unfoldable pub bad : ℕ → Condition → Sheet
bad line how = record { store = no_store_meant; line = line; how = how }

-- What a text comes to after its last line: without any version 19. There is no line to name then:
-- 0.
unfoldable pub ended : Store → Sheet
ended store = pick (eqb store.count 0) (bad 0 (Condition.Refused 19)) (record { store = store; line = 0; how = Condition.Fine })

-- The lines from the one with number n on, which are counted with comments and blank ones: the
-- first bad line is told.
unfoldable pub lines_from : Store → ℕ → List (List ℕ) → Sheet
lines_from store n [] = ended store
lines_from store n (line ∷ lines) =
    let taken : Taken = take_line store (line_of line) in
    pick (is_fine taken.how) (lines_from taken.store (n + 1) lines) (bad n taken.how)

-- The longest text that is read, in bytes.
abbrev pub longest : ℕ
longest = 1048576

-- The settings of a text: the store that its lines make, or the first bad line and what is wrong
-- with it.
unfoldable pub sheet : List ℕ → Sheet
sheet text = pick (leb (length text) longest) (lines_from no_store_meant 1 (lines_in text)) (bad 0 Condition.TooLong)
