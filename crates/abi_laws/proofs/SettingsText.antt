-- What is returned is the number of what the text comes to, and settings_text_laws has how its
-- lines decide that.
-- Assumes nothing.
use Prim.Native.Nat.{ℕ}
use mathlib.Core.Path.{◌≡◌, refl, ap, ◌∙◌}
use mathlib.Core.List.{List}
use Rattle.words.specs.Answer.{gives, refuses, pick}
use Rattle.settings.specs.Store.{no_store_meant}
use Rattle.lines.specs.Text.{lines_in}
use Rattle.settings_text.specs.declared.Condition.{Condition}
use Rattle.settings_text.specs.declared.Sheet.{Sheet}
use Rattle.settings_text.specs.Sheet.{is_fine, sheet}
use Rattle.abi.specs.Face.{returned}
use Rattle.abi.specs.Stores.{kept_number, how_answer}
use Rattle.settings_text_laws.specs.Demand1.{fault, says, text_rules, leaves}
use Rattle.settings_text_laws.proofs.Text.{sheet_so}
use Rattle.demands.specs.Rules.{Is}
use Rattle.abi_laws.specs.SettingsText.{sheet_number, TextDecided}
use Rattle.abi_laws.proofs.Demand1.{decided_of}

number_is : (q : Sheet) → returned kept_number (how_answer q.how) ≡ sheet_number (says q)
number_is q = go q.how
  where
    go : (how : Condition) → returned kept_number (how_answer how) ≡ sheet_number (pick (is_fine how) (gives q.store) (refuses (fault q.line how)))
    go Condition.Fine = refl
    go (Condition.Refused n) = refl
    go Condition.Unreadable = refl
    go Condition.TooLong = refl
    go Condition.FirstPlace = refl

pub text_decided : TextDecided
text_decided text before r after c =
    let e : r ≡ returned kept_number (how_answer (sheet text).how) = c.7.0 ∙ ap (λ (t : List ℕ). returned kept_number (how_answer (sheet t).how)) c.4 in
    decided_of sheet_number (Is (leaves no_store_meant (lines_in text))) (text_rules text) (says (sheet text)) (e ∙ number_is (sheet text)) (sheet_so text)
