-- The numbers and values of the documents for each case of this crate's answers.
-- Assumes nothing.
use Rattle.words.specs.Why.{why, are, unsaid}
use Rattle.telegram.specs.Telegram.{bad_word}
use Rattle.group_reason.specs.declared.BadBalise.{BadBalise}
use Rattle.group_reason.specs.declared.Reason.{Reason}
use Rattle.group_reason.specs.Reason.{Amiss, unreadable, word, balises, bad, opens, figure, Explained, no_reason, because}

-- An unreadable balise; a word that is "not a code word" (1), with the parity of its ones; "a short
-- word of a telegram reads 15" (3).
abbrev pub says_bad_balise : BadBalise → Amiss
says_bad_balise BadBalise.Unreadable = unreadable
says_bad_balise (BadBalise.NotCode w p) = word (bad_word w (why 1 (are p)))
says_bad_balise (BadBalise.Fifteen w) = word (bad_word w (why 3 unsaid))

-- "group of one balise" is 10, "group of more than five" 11, "a balise unreadable, or its words
-- refused" 12, "no row fits" 13, "distance not allowed" 15; each with why.
abbrev pub says_reason : Reason → Explained
says_reason Reason.None = no_reason
says_reason (Reason.One n) = because 10 (balises n)
says_reason (Reason.Many n) = because 11 (balises n)
says_reason (Reason.Unread i place b) = because 12 (bad i place (says_bad_balise b))
says_reason (Reason.NoRow run n) = because 13 (opens run n)
says_reason (Reason.NoDistance i place) = because 15 (figure i place)
