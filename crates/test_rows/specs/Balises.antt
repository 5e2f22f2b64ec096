-- A balise as the file of groups writes it: `M` is a marker, `?` an unreadable one, `12n1612` a
-- number balise, `17/8E/5A` three words as received, and `1.8.5` three figures.
-- Assumes nothing.
use Rattle.std.specs.Prelude.{ℕ, ◌/◌, ◌%◌, Bool, true, false, ◌&&◌, List, Result, Ok, Err, Option, Some, None, eqb, length, get_or}
use Rattle.words.specs.Answer.{Outcome, gives, refuses, pick}
use Rattle.words.specs.Code.{write_short, write_long}
use Rattle.figures.specs.Figures.{decimal, hex}
use Rattle.figures.specs.Fields.{has, field}
use Rattle.figures.specs.declared.NotFigure.{NotFigure}
use Rattle.group.specs.declared.Heard.{Heard}
use Rattle.test_rows.specs.Spelling.{figure_of}

-- Whether a text is this one sign.
unfoldable pub is_sign : List ℕ → ℕ → Bool
is_sign text sign = eqb (length text) 1 && eqb (get_or text 0 0) sign

-- The short word of the figure that a text spells.
abbrev pub word_of : Outcome ℕ → Option ℕ
word_of (gives w) = Some w
word_of (refuses n) = None

unfoldable pub sent_as : List ℕ → Option ℕ
sent_as text = word_of (write_short (figure_of text))

-- The short word that two hexadecimal digits spell.
unfoldable pub received_as : List ℕ → Option ℕ
received_as text = hex text

-- A word of three, in hex or as a figure.
abbrev pub word_as : Bool → List ℕ → Option ℕ
word_as true text = received_as text
word_as false text = sent_as text

-- Three words as one balise's; none, if one of them is none.
abbrev pub words_of : Option ℕ → Option ℕ → Option ℕ → Option Heard
words_of (Some a) (Some b) (Some c) = Some (Heard.Words a b c)
words_of (Some a) (Some b) None = None
words_of (Some a) None z = None
words_of None y z = None

-- A number balise: its X, and its number as a long word, of which Y is the high byte.
abbrev pub number_word : Option ℕ → Outcome ℕ → Option Heard
number_word x (gives w) = words_of x (Some (w / 256)) (Some (w % 256))
number_word x (refuses n) = None

abbrev pub numbered : Option ℕ → Result ℕ NotFigure → Option Heard
numbered x (Ok n) = number_word x (write_long n)
numbered x (Err e) = None

-- The number balise that `12nN` writes; between the two stands the sign `n`, 110.
unfoldable pub number_as : List ℕ → Option Heard
number_as text = numbered (sent_as (field text 110 0)) (decimal (field text 110 1) 65535)

-- Three words, in hex or as figures, with a sign between two.
unfoldable pub three_as : Bool → ℕ → List ℕ → Option Heard
three_as in_hex sign text = words_of (word_as in_hex (field text sign 0)) (word_as in_hex (field text sign 1)) (word_as in_hex (field text sign 2))

-- What was heard at the balise that a text writes: the signs are `M`, 77, `?`, 63, `n`, 110, `/`,
-- 47, and `.`, 46.
unfoldable pub heard_as : List ℕ → Option Heard
heard_as text =
    pick (is_sign text 77) (Some Heard.Marker)
    (pick (is_sign text 63) (Some Heard.Unreadable)
    (pick (has text 110) (number_as text)
    (pick (has text 47) (three_as true 47 text)
    (three_as false 46 text))))
