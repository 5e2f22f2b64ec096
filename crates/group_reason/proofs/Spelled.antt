-- The text of a reason of each sort, computed.
-- Assumes nothing.
use mathlib.Core.Path.{◌≡◌, refl}
use Rattle.words.specs.declared.Parity.{Parity}
use Rattle.text.specs.Text.{codes, digits, decimal}
use Rattle.telegram.specs.declared.Word.{Word}
use Rattle.group_reason.specs.declared.BadBalise.{BadBalise}
use Rattle.group_reason.specs.declared.Reason.{Reason}
use Rattle.group_reason.specs.Says.{says_reason}
use Rattle.group_reason.specs.Text.{letter, refused_as, badly, balise_at, so_many, reason_text}

counts : (reason_text (says_reason (Reason.One 1)) ≡ codes "1 balise") × (reason_text (says_reason (Reason.Many 7)) ≡ codes "7 balises") × (reason_text (says_reason (Reason.Many 255)) ≡ codes "255 or more balises")
unfolding reason_text so_many decimal digits
counts = (refl, refl, refl)

unreadable : reason_text (says_reason (Reason.Unread 1 1030 BadBalise.Unreadable)) ≡ codes "balise 2 at 1030 unreadable"
unfolding reason_text balise_at badly decimal digits
unreadable = refl

odd_y : reason_text (says_reason (Reason.Unread 1 1030 (BadBalise.NotCode Word.Y Parity.Odd))) ≡ codes "balise 2 at 1030 word Y refused 1 odd"
unfolding reason_text balise_at badly letter refused_as decimal digits
odd_y = refl

fifteen_x : reason_text (says_reason (Reason.Unread 0 1000 (BadBalise.Fifteen Word.X))) ≡ codes "balise 1 at 1000 word X refused 3"
unfolding reason_text balise_at badly letter refused_as decimal digits
fifteen_x = refl

run : (reason_text (says_reason (Reason.NoRow 2 4)) ≡ codes "2 of 4 balises open a permitted group") × (reason_text (says_reason (Reason.NoRow 1 2)) ≡ codes "1 of 2 balises open a permitted group")
unfolding reason_text decimal digits
run = (refl, refl)

figure : reason_text (says_reason (Reason.NoDistance 1 1030)) ≡ codes "balise 2 at 1030"
unfolding reason_text balise_at decimal digits
figure = refl
