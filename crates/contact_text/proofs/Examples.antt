-- The listener's lines, computed.
-- Assumes nothing.
use mathlib.Core.Path.{◌≡◌, refl}
use Rattle.text.specs.Text.{codes, digits, decimal}
use Rattle.refusals.specs.Words.{table, worded}
use Rattle.telegram.specs.declared.Telegram.{Telegram}
use Rattle.contact.specs.declared.Judged.{Judged}
use Rattle.contact_text.specs.Lines.{figures, what, heard}

pub three_figures : heard 120 352 (Judged.Read (Telegram.Figures 1 8 5) 136 9) ≡ codes "120 352 telegram 1 8 5 places 9 from 136\n"
unfolding heard what figures decimal digits
three_figures = refl

pub a_number : heard 3000 90 (Judged.Read (Telegram.Number 1612) 3010 2) ≡ codes "3000 90 telegram 12 1612 places 2 from 3010\n"
unfolding heard what figures decimal digits
a_number = refl

pub a_marker : heard 5000 80 Judged.Marker ≡ codes "5000 80 marker\n"
unfolding heard what decimal digits
a_marker = refl

pub refusals : (heard 7000 60 Judged.Neither ≡ codes "7000 60 refused 8: contact neither telegram nor marker\n") × (heard 7000 60 Judged.Differ ≡ codes "7000 60 refused 7: places differ\n")
unfolding heard what worded table decimal digits
refusals = (refl, refl)
