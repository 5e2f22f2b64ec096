-- No title needs an escape: a line is made of words that have none of the marks, and of digits.
-- Assumes nothing.
use Rattle.std.proofs.Common.{Option, Some, None}
use mathlib.Core.Path.{◌≡◌, refl}
use mathlib.Core.Bool.{Bool, true, false}
use mathlib.Core.List.{List, ◌++◌}
use Prim.Native.Nat.{ℕ, ◌+◌, ◌-◌}
use lib.Dec.{eqb}
use lib.ListN.{length}
use Rattle.words.specs.Answer.{pick}
use Rattle.words.specs.declared.Parity.{Parity}
use Rattle.text.specs.Text.{codes, decimal}
use Rattle.telegram.specs.declared.Word.{Word}
use Rattle.group_rows.specs.declared.Direction.{Direction}
use Rattle.group_rows.specs.declared.Kind.{Kind}
use Rattle.group.specs.declared.Number.{Number}
use Rattle.group.specs.declared.Group.{Group}
use Rattle.ride.specs.declared.Mark.{Mark}
use Rattle.ride.specs.declared.Seen.{Seen}
use Rattle.ride.specs.declared.Line.{Line}
use Rattle.ride_text.specs.Style.{with_reasons}
use Rattle.ride_text.specs.Text.{direction_word, kind_word, mark, number, seen, text_with, why_text, line_text}
use Rattle.words.specs.Why.{Why, why, are, unsaid}
use Rattle.telegram.specs.Telegram.{bad_word}
use Rattle.group_reason.specs.Reason.{Amiss, unreadable, word, balises, bad, opens, figure, Explained, no_reason, because}
use Rattle.group_reason.specs.Explain.{explain}
use Rattle.group_reason.specs.Text.{letter, refused_as, badly, balise_at, so_many, reason_text}
use Rattle.acceptance.specs.declared.Entry.{Entry}
use Rattle.acceptance.specs.Taking.{one_more}
use Rattle.acceptance_text.specs.Lines.{met_words, entry_line}
use Rattle.ride_drawing.specs.Sign.{title}
use Rattle.ride_drawing.specs.Row.{entry_title, extra_title}
use Rattle.ride_drawing.specs.Titles.{are_safe, NoEscape}
use Rattle.ride_drawing.proofs.SafeTexts.{Safe, join, words, cut, digits_safe, number_of}

-- ---- groups

direction_safe : (d : Direction) → Safe (direction_word d)
unfolding are_safe
direction_safe Direction.Present = record { is = refl }
direction_safe Direction.Opposite = record { is = refl }

kind_safe : (k : Kind) → Safe (kind_word k)
unfolding are_safe
kind_safe Kind.Signal = record { is = refl }
kind_safe Kind.Warning = record { is = refl }
kind_safe Kind.Annulled = record { is = refl }
kind_safe Kind.Line = record { is = refl }
kind_safe Kind.Route = record { is = refl }

mark_safe : (m : Mark) → Safe (mark m)
unfolding are_safe
mark_safe Mark.Unmarked = record { is = refl }
mark_safe Mark.First = record { is = refl }
mark_safe Mark.Early = record { is = refl }
mark_safe Mark.Good = record { is = refl }
mark_safe Mark.Late = record { is = refl }

number_safe : (n : Number) → Safe (number n)
unfolding are_safe
number_safe Number.None = record { is = refl }
number_safe (Number.Figure m) = join (words " n" refl) (digits_safe 5 m)

seen_safe : (s : Seen) → Safe (seen s)
unfolding seen are_safe
seen_safe s =
    join (join (join (join (join (number_of s.place) (direction_safe s.direction)) (kind_safe s.kind)) (mark_safe s.mark)) (number_safe s.number)) (words "\n" refl)

-- ---- reasons

letter_safe : (w : Word) → Safe (letter w)
unfolding letter are_safe
letter_safe Word.X = record { is = refl }
letter_safe Word.Y = record { is = refl }
letter_safe Word.Z = record { is = refl }
letter_safe Word.YZ = record { is = refl }

refused_safe : (y : Why) → Safe (refused_as y)
unfolding refused_as are_safe
refused_safe (why n (are Parity.Odd)) = join (join (words " refused " refl) (number_of n)) (words " odd" refl)
refused_safe (why n (are Parity.Even)) = join (join (words " refused " refl) (number_of n)) (words " even" refl)
refused_safe (why n unsaid) = join (words " refused " refl) (number_of n)

badly_safe : (b : Amiss) → Safe (badly b)
unfolding badly are_safe
badly_safe unreadable = words " unreadable" refl
badly_safe (word (bad_word w y)) = join (letter_safe w) (refused_safe y)

balise_safe : (i place : ℕ) → Safe (balise_at i place)
unfolding balise_at are_safe
balise_safe i place = join (join (join (words "balise " refl) (number_of (i + 1))) (words " at " refl)) (number_of place)

many_by : (n : ℕ) (b : Bool) → Safe (pick b (codes "255 or more balises") (decimal n ++ codes " balises"))
unfolding are_safe
many_by n true = words "255 or more balises" refl
many_by n false = join (number_of n) (words " balises" refl)

many_safe : (n : ℕ) → Safe (so_many n)
unfolding so_many
many_safe n = many_by n (eqb n 255)

few_by : (k : ℕ) (b : Bool) → Safe (pick b (decimal k ++ codes " balise") (so_many k))
unfolding are_safe
few_by k true = join (number_of k) (words " balise" refl)
few_by k false = many_safe k

reason_safe : (r : Explained) → Safe (reason_text r)
unfolding reason_text are_safe
reason_safe no_reason = record { is = refl }
reason_safe (because n (balises k)) = few_by k (eqb n 10)
reason_safe (because n (bad i place b)) = join (balise_safe i place) (badly_safe b)
reason_safe (because n (opens run k)) = join (join (join (number_of run) (words " of " refl)) (number_of k)) (words " balises open a permitted group" refl)
reason_safe (because n (figure i place)) = balise_safe i place

why_safe : (g : Group) → Safe (why_text g)
unfolding why_text are_safe
why_safe g = join (words ": " refl) (reason_safe (explain g))

-- ---- lines

line_safe : (reason : List ℕ) (l : Line) → Safe reason → Safe (text_with reason l)
unfolding text_with are_safe
line_safe reason (Line.Group s) e = seen_safe s
line_safe reason (Line.Fault place n) e = join (join (join (join (number_of place) (words " fault " refl)) (number_of n)) e) (words "\n" refl)
line_safe reason (Line.Missed place) e = join (number_of place) (words " missed\n" refl)
line_safe reason (Line.Record number n) e = join (join (join (join (words "record " refl) (number_of number)) (words " refused " refl)) (number_of n)) (words "\n" refl)
line_safe reason (Line.Trace n) e = join (join (words "trace refused " refl) (number_of n)) (words "\n" refl)

title_safe : (g : Group) (l : Line) → are_safe (title g l) ≡ true
unfolding title
title_safe g l = cut (length (line_text with_reasons g l) - 1) (line_text with_reasons g l) (line_safe (why_text g) l (why_safe g)).is

-- ---- the row

met_safe : (m : Option ℕ) → Safe (met_words m)
unfolding met_words are_safe
met_safe None = words " absent\n" refl
met_safe (Some place) = join (join (words " met at " refl) (number_of place)) (words "\n" refl)

entry_line_safe : (i : ℕ) (e : Entry) → Safe (entry_line i e)
unfolding entry_line are_safe
entry_line_safe i e =
    join (join (join (join (join (words "entry " refl) (number_of (one_more i))) (words " at " refl)) (number_of e.place)) (kind_safe e.kind)) (met_safe e.met)

entry_safe : (i : ℕ) (e : Entry) → are_safe (entry_title i e) ≡ true
unfolding entry_title
entry_safe i e = cut (length (entry_line i e) - 1) (entry_line i e) (entry_line_safe i e).is

extra_safe : (s : Seen) → are_safe (extra_title s) ≡ true
unfolding are_safe
extra_safe s = (join (join (number_of s.place) (kind_safe s.kind)) (words " extra" refl)).is

pub no_escape : NoEscape
no_escape = record { titles = title_safe; entries = entry_safe; extras = extra_safe }
