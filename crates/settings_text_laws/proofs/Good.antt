-- A text that is fine makes a good store, as its lines do one after the other.
-- Assumes nothing.
use mathlib.Core.Path.{sym, ap, ◌∙◌}
use Rattle.settings.specs.Store.{judged}
use Rattle.settings_text.specs.declared.Sheet.{Sheet}
use Rattle.settings_text.proofs.Good.{fine_is_good}
use Rattle.settings_text_laws.specs.Demand1.{ReadGood}
use Rattle.settings_text_laws.proofs.Text.{read_is}

pub read_good : ReadGood
read_good text r c e =
    let is = read_is text r c in
    ap (λ (x : Sheet). judged x.store) is ∙ fine_is_good text (sym (ap (λ (x : Sheet). x.how) is) ∙ e)
