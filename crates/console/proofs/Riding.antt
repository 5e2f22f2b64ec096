-- Where the settings of a text are ridden under.
-- Assumes nothing.
use Rattle.std.proofs.Common.{◌≡◌, ℕ, true, List, sym, refl, ap, ◌∙◌}
use Rattle.words.specs.Answer.{gives}
use Rattle.words.proofs.Never.{cannot_be}
use Rattle.settings.specs.Versions.{kept}
use Rattle.settings.specs.Store.{judged}
use Rattle.settings_text.specs.declared.Condition.{Condition}
use Rattle.settings_text.specs.declared.Sheet.{Sheet}
use Rattle.settings_text.specs.Sheet.{is_fine, sheet}
use Rattle.settings_text.proofs.Good.{fine_is_good}

only_fine : (how : Condition) → is_fine how ≡ true → how ≡ Condition.Fine
only_fine Condition.Fine e = refl
only_fine Condition.Unreadable e = cannot_be cc
only_fine Condition.FirstPlace e = cannot_be cc
only_fine (Condition.Refused n) e = cannot_be cc
only_fine Condition.TooLong e = cannot_be cc

pub good : (text : List ℕ) (s : Sheet) → s ≡ sheet text → is_fine s.how ≡ true → judged s.store ≡ gives kept
good text s e fine =
    ap (λ (x : Sheet). judged x.store) e ∙ fine_is_good text (sym (ap (λ (x : Sheet). x.how) e) ∙ only_fine s.how fine)
