-- README's test balise, closed at bit 328, one that stands later on the line, and one that the end
-- of the line cuts, computed.
-- Assumes nothing.
use mathlib.Core.Path.{◌≡◌, refl}
use mathlib.Core.Bool.{true}
use Rattle.text.specs.Text.{codes, digits, decimal}
use Rattle.telegram.specs.declared.Telegram.{Telegram}
use Rattle.contact.specs.declared.Judged.{Judged}
use Rattle.refusals.specs.Words.{table, worded, refused}
use Rattle.contact_text.specs.Lines.{figures, what, heard}
use Rattle.antenna_text.specs.Lines.{shown, refused_as, told_line, closed_before, end_line}

pub a_telegram : told_line (closed_before 328 292 (Judged.Read (Telegram.Figures 1 8 5) 20 8)) ≡ codes "36 292 telegram 1 8 5 places 8 from 56\n"
unfolding told_line heard what figures shown decimal digits
a_telegram = refl

pub standing : told_line (closed_before 50000000000 20000000 Judged.Beyond) ≡ codes "49980000000 20000000 refused 5: above 16,777,216 bits\n"
unfolding told_line heard what worded table refused_as decimal digits
standing = refl

pub cut : end_line true ≡ codes "refused 9: contact cut by the end of the record\n"
unfolding end_line refused worded table decimal digits
cut = refl
