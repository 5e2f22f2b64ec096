-- Demand 1 for settings as a text from C: `atc2_settings_read` decides by the list of
-- `settings_text::read`, line by line, and returns the number of the first line that is bad.
-- Assumes nothing.
use Rattle.std.specs.Prelude.{ℕ, List, ℤ, pos}
use Rattle.words.specs.Answer.{Answer, gives, refuses}
use Rattle.settings.specs.declared.Store.{Store}
use Rattle.settings.specs.Store.{no_store_meant}
use Rattle.lines.specs.Text.{lines_in}
use Rattle.abi.specs.Face.{returned}
use Rattle.abi.specs.Stores.{kept_number, how_answer}
use Rattle.settings_text_laws.specs.Demand1.{Fault, text_rules, leaves}
use Rattle.demands.specs.Rules.{Is}
use Rattle.abi_laws.specs.Calls.{SettingsRead}
use Rattle.abi_laws.specs.Demand1.{DecidedAs}

-- What a text comes to as C's number: 0, or that of its fault: refusal N as -N; a line that is
-- unreadable as -100, a text that is too long as -101, a first place that is not 0 as -102.
abbrev pub sheet_number : Answer Fault Store → ℤ
sheet_number (gives store) = pos 0
sheet_number (refuses fault) = returned kept_number (how_answer fault.how)

-- The first bad line decides, as `text_rules` goes through them; 0 exactly if none is bad.
abbrev pub TextDecided : Type 0
TextDecided = (text before : List ℕ) (r : ℤ) (after : List ℕ) → SettingsRead text before r after
    → DecidedAs sheet_number (Is (leaves no_store_meant (lines_in text))) (text_rules text) r
