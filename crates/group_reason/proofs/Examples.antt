-- A group of each sort and what is said of it, computed by the definitions.
-- Assumes nothing.
use Prim.Native.Nat.{ℕ}
use mathlib.Core.Path.{◌≡◌, refl}
use mathlib.Core.Bool.{false}
use mathlib.Core.List.{[], ◌∷◌}
use Rattle.words.specs.Answer.{gives, refuses}
use Rattle.words.specs.Bits.{word as bits, ones_of}
use Rattle.words.specs.Why.{why, are, unsaid, parity}
use Rattle.words.specs.declared.Parity.{Parity}
use Rattle.words.specs.Plain.{is_check, covers, count, even, is_code, onwards, figure as figure_of}
use Rattle.words.specs.Code.{other, exchanged, read_word}
use Rattle.telegram.specs.Telegram.{short_word, long_word, telegram, bad_word}
use Rattle.telegram.specs.declared.Word.{Word}
use Rattle.group_rows.specs.Row.{fits, first, fit_row_meant, fit_rows}
use Rattle.group_rows.specs.Rows.{how_many, fit_in}
use Rattle.group_rows.specs.Fitting.{fitting}
use Rattle.group.specs.declared.Heard.{Heard}
use Rattle.group.specs.declared.Balise.{Balise}
use Rattle.group.specs.declared.Group.{Group}
use Rattle.group.specs.Balise.{balises as those, read_all}
use Rattle.group.specs.Distance.{distance}
use Rattle.group.specs.declared.Number.{Number}
use Rattle.group_rows.specs.declared.Direction.{Direction}
use Rattle.group_rows.specs.declared.Kind.{Kind}
use Rattle.group.specs.Speed.{signal_speed, target_figure}
use Rattle.group.specs.declared.Told.{Told}
use Rattle.group.specs.declared.Content.{Content}
use Rattle.group.specs.declared.Message.{Message}
use Rattle.group.specs.Numbers.{number_of}
use Rattle.group.specs.Judge.{distance_of, signal_distance, judge_read, judge}
use Rattle.group_reason.specs.Opening.{opens_members, opens_rows, is_opening, longest_of}
use Rattle.group_reason.specs.Reason.{unreadable, word, balises, bad, opens, figure, no_reason, because}
use Rattle.group_reason.specs.Explain.{read_from, index_of, why_distance, explain}

-- A place of the array that no balise has taken.
abbrev pub empty : Balise
empty = record { place = 0; heard = Heard.Unreadable }

abbrev pub at : ℕ → Heard → Balise
at place heard = record { place = place; heard = heard }

-- A 1 with AY 8 and AZ 5 at 1000, and 9 2 4.
abbrev pub a_one : Balise
a_one = at 1000 (Heard.Words 0x17 0x8E 0x5A)

abbrev pub a_nine : Balise
a_nine = at 1030 (Heard.Words 0x99 0x2B 0x4D)

abbrev pub two : Balise → Balise → Group
two a b = record { kept = a ∷ b ∷ empty ∷ empty ∷ empty ∷ []; count = 2; last = 1030 }

abbrev pub three : Balise → Balise → Balise → Group
three a b c = record { kept = a ∷ b ∷ c ∷ empty ∷ empty ∷ []; count = 3; last = 1060 }

abbrev pub counted : ℕ → Group
counted n = record { kept = a_one ∷ a_nine ∷ a_one ∷ a_nine ∷ a_one ∷ []; count = n; last = 1030 }

-- The same group, counted as one, six and 255 balises, and as none: no balise opens no row.
pub one_balise : (explain (counted 1) ≡ because 10 (balises 1)) × (judge (counted 1) ≡ refuses 10)
unfolding explain judge
one_balise = (refl, refl)

pub six_balises : (explain (counted 6) ≡ because 11 (balises 6)) × (judge (counted 6) ≡ refuses 11)
unfolding explain judge
six_balises = (refl, refl)

most_balises : (explain (counted 255) ≡ because 11 (balises 255)) × (judge (counted 255) ≡ refuses 11)
unfolding explain judge
most_balises = (refl, refl)

no_balise : (explain (counted 0) ≡ because 13 (opens 0 0)) × (judge (counted 0) ≡ refuses 13)
unfolding explain those read_from longest_of judge read_all judge_read fitting fit_in how_many fit_rows fit_row_meant fits
no_balise = (refl, refl)

-- The second balise is unreadable.
pub second_unreadable : (explain (two a_one (at 1030 Heard.Unreadable)) ≡ because 12 (bad 1 1030 unreadable)) × (judge (two a_one (at 1030 Heard.Unreadable)) ≡ refuses 12)
unfolding explain those read_from telegram short_word long_word read_word parity ones_of is_code even count covers exchanged other bits figure_of onwards is_check judge read_all
second_unreadable = (refl, refl)

-- Its Y has one bit flipped, and the third balise is bad too.
second_bad : explain (three a_one (at 1030 (Heard.Words 0x99 0x2A 0x4D)) (at 1060 Heard.Unreadable)) ≡ because 12 (bad 1 1030 (word (bad_word Word.Y (why 1 (are Parity.Odd)))))
unfolding explain those read_from telegram short_word long_word read_word parity ones_of is_code even count covers exchanged other bits figure_of onwards is_check
second_bad = refl

-- X reads 15.
first_bad : explain (two (at 1000 (Heard.Words 0xFF 0x17 0x17)) a_nine) ≡ because 12 (bad 0 1000 (word (bad_word Word.X (why 3 unsaid))))
unfolding explain those read_from telegram short_word long_word read_word parity ones_of is_code even count covers exchanged other bits figure_of onwards is_check
first_bad = refl

-- 1 9 1: the third opens no row; 1 alone could have.
pub two_of_three : (explain (three a_one a_nine a_one) ≡ because 13 (opens 2 3)) × (judge (three a_one a_nine a_one) ≡ refuses 13)
unfolding explain those read_from telegram short_word long_word read_word parity ones_of is_code even count covers exchanged other bits figure_of onwards is_check judge read_all judge_read fitting fit_in how_many fit_rows fit_row_meant fits first is_opening opens_rows opens_members longest_of
two_of_three = (refl, refl)

-- 9 2 0 without a 14: BZ must be 1 to 14.
pub b_breaks_law : (explain (two a_one (at 1030 (Heard.Words 0x99 0x2B 0x00))) ≡ because 15 (figure 1 1030)) × (judge (two a_one (at 1030 (Heard.Words 0x99 0x2B 0x00))) ≡ refuses 15)
unfolding explain those read_from telegram short_word long_word read_word parity ones_of is_code even count covers exchanged other bits figure_of onwards is_check judge read_all judge_read fitting fit_in how_many fit_rows fit_row_meant fits first index_of why_distance distance_of signal_distance distance
b_breaks_law = (refl, refl)

-- 9 2 0 and 14 0 0: CY must be 1 to 14, and B is as it must be.
c_breaks_law : explain (three a_one (at 1030 (Heard.Words 0x99 0x2B 0x00)) (at 1060 (Heard.Words 0xE8 0x00 0x00))) ≡ because 15 (figure 2 1060)
unfolding explain those read_from telegram short_word long_word read_word parity ones_of is_code even count covers exchanged other bits figure_of onwards is_check fitting fit_in how_many fit_rows fit_row_meant fits first index_of why_distance
c_breaks_law = refl

-- Document 01's group is accepted.
no_reason_law : explain (two a_one a_nine) ≡ no_reason
unfolding explain those read_from telegram short_word long_word read_word parity ones_of is_code even count covers exchanged other bits figure_of onwards is_check fitting fit_in how_many fit_rows fit_row_meant fits first why_distance
no_reason_law = refl

pub accepted_of_the_ride : (m : Message) × (judge (two a_one a_nine) ≡ gives m)
unfolding telegram short_word long_word read_word parity ones_of is_code even count covers exchanged other bits figure_of onwards is_check those judge read_all judge_read number_of fitting fit_in how_many fit_rows fit_row_meant fits first distance_of signal_distance distance signal_speed target_figure
accepted_of_the_ride =
    (record { direction = Direction.Present; kind = Kind.Signal; place = 1000; ay = 8; az = 5; number = Number.None; content = Content.Signal 4000 false (Told.Kmh 130) (Told.Kmh 80) }, refl)
