-- A reason as text, as it stands in a line after the fault and a colon (request M-103): `1 balise`,
-- `7 balises`, `255 or more balises`, `balise 2 at 1030 unreadable`,
-- `balise 2 at 1030 word Y refused 1 odd`, `balise 1 at 1000 word X refused 3`,
-- `2 of 4 balises open a permitted group`, `balise 2 at 1030`. Balises are counted from 1 here.
-- Assumes nothing.
use Rattle.std.specs.Prelude.{ℕ, ◌+◌, List, [], ◌++◌, eqb}
use Rattle.words.specs.Answer.{pick}
use Rattle.words.specs.declared.Parity.{Parity}
use Rattle.words.specs.Why.{Why, why, are, unsaid}
use Rattle.text.specs.Text.{codes, decimal}
use Rattle.telegram.specs.declared.Word.{Word}
use Rattle.telegram.specs.Telegram.{bad_word}
use Rattle.group_reason.specs.Reason.{Amiss, unreadable, word, balises, bad, opens, figure, Explained, no_reason, because}

-- Which word is bad.
unfoldable pub letter : Word → List ℕ
letter Word.X = codes " word X"
letter Word.Y = codes " word Y"
letter Word.Z = codes " word Z"
letter Word.YZ = codes " word YZ"

-- That it is refused, with which number, and whether its ones are odd or even in number where that
-- is said.
unfoldable pub refused_as : Why → List ℕ
refused_as (why n (are Parity.Odd)) = codes " refused " ++ decimal n ++ codes " odd"
refused_as (why n (are Parity.Even)) = codes " refused " ++ decimal n ++ codes " even"
refused_as (why n unsaid) = codes " refused " ++ decimal n

-- What is bad about a balise.
unfoldable pub badly : Amiss → List ℕ
badly unreadable = codes " unreadable"
badly (word (bad_word w y)) = letter w ++ refused_as y

-- The balise with the index i and its place.
unfoldable pub balise_at : ℕ → ℕ → List ℕ
balise_at i place = codes "balise " ++ decimal (i + 1) ++ codes " at " ++ decimal place

-- So many balises; 255 stands for 255 or more.
unfoldable pub so_many : ℕ → List ℕ
so_many n = pick (eqb n 255) (codes "255 or more balises") (decimal n ++ codes " balises")

-- A reason; none has no text. One balise alone is refused with 10.
unfoldable pub reason_text : Explained → List ℕ
reason_text no_reason = []
reason_text (because n (balises k)) = pick (eqb n 10) (decimal k ++ codes " balise") (so_many k)
reason_text (because n (bad i place b)) = balise_at i place ++ badly b
reason_text (because n (opens run k)) = decimal run ++ codes " of " ++ decimal k ++ codes " balises open a permitted group"
reason_text (because n (figure i place)) = balise_at i place
