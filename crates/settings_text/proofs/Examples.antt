-- Lines and texts, computed.
-- Assumes nothing.
use mathlib.Core.Path.{◌≡◌, refl}
use mathlib.Core.List.{List, [], ◌∷◌}
use Prim.Native.Nat.{ℕ}
use Rattle.text.specs.Text.{codes, digits, decimal as spelled}
use Rattle.figures.specs.Figures.{all_digits_meant, continued, decimal, hex_digit, hex}
use Rattle.refusals.specs.Words.{table, worded, refused}
use Rattle.settings.specs.Store.{no_store_meant}
use Rattle.lines.specs.Text.{up_to, cut, some, words_of, beginning, lines_in}
use Rattle.lines.specs.Words.{number, same, name, word_of, no_words, kept, kept_all, line_of}
use Rattle.settings_text.specs.declared.line.Stated.{Stated}
use Rattle.settings_text.specs.declared.Condition.{Condition}
use Rattle.settings_text.specs.Line.{version, stated}
use Rattle.settings_text.specs.Taking.{given, take_line}
use Rattle.settings_text.specs.Sheet.{bad, ended, lines_from, sheet}
use Rattle.settings_text.specs.Told.{refusal, told}

-- What a line of characters states.
abbrev line : List ℕ → Stated
line text = stated (line_of text)

pub good : (line (codes "0 40 72 0D") ≡ Stated.Version 0 40 0x72 0x0d) × (line (codes "\t5200\t60 00 7f # new antenna\r") ≡ Stated.Version 5200 60 0 0x7f)
    × (line (codes "007 0040 00 7F#") ≡ Stated.Version 7 40 0 0x7f)
unfolding stated version line_of kept_all kept no_words word_of number name same words_of some cut up_to decimal all_digits_meant continued hex hex_digit
good = (refl, refl, refl)

pub blank_ones : (line [] ≡ Stated.Nothing) × (line (codes " \t\r") ≡ Stated.Nothing) × (line (codes "# 0 40 72 0D") ≡ Stated.Nothing)
unfolding stated line_of kept_all kept no_words word_of words_of some cut up_to
blank_ones = (refl, refl, refl)

-- Too large for its type: the largest stands for it.
pub large : (line (codes "99999999999 40 00 7F") ≡ Stated.Version 4294967295 40 0 0x7f) × (line (codes "5 4294967296 00 7F") ≡ Stated.Version 5 4294967295 0 0x7f)
unfolding stated version line_of kept_all kept no_words word_of number name same words_of some cut up_to decimal all_digits_meant continued hex hex_digit
large = (refl, refl)

pub odd : (line (codes "0 40 72") ≡ Stated.Unreadable) × (line (codes "0 40 72 0D 1") ≡ Stated.Unreadable) × (line (codes "+5 40 72 0D") ≡ Stated.Unreadable)
    × (line (codes "5 40 7 0D") ≡ Stated.Unreadable) × (line (codes "5 40 072 0D") ≡ Stated.Unreadable) × (line (codes "x") ≡ Stated.Unreadable)
unfolding stated version line_of kept_all kept no_words word_of number name same words_of some cut up_to decimal all_digits_meant continued hex hex_digit
odd = (refl, refl, refl, refl, refl, refl)

-- The first bad line, counted with comments and blank ones; a first place that is not 0, after a
-- byte order mark too; no version at all.
pub bad_ones : (sheet (codes "# settings\n\nx\n1 40 72 0D") ≡ bad 3 Condition.Unreadable)
    × (sheet (0xEF ∷ 0xBB ∷ 0xBF ∷ codes "1 40 72 0D\nx") ≡ bad 1 Condition.FirstPlace)
    × (sheet [] ≡ bad 0 (Condition.Refused 19)) × (sheet (codes "# nothing") ≡ bad 0 (Condition.Refused 19))
unfolding sheet lines_from lines_in beginning ended bad take_line given no_store_meant stated version line_of kept_all kept no_words word_of number name same words_of some cut up_to decimal all_digits_meant continued hex hex_digit
bad_ones = (refl, refl, refl, refl)

-- The request's own words.
pub words_said : (told 3 (Condition.Refused 24) ≡ codes "settings line 3 refused 24: place not above the last one\n") × (told 3 Condition.Unreadable ≡ codes "settings line 3 unreadable\n")
    × (told 1 Condition.FirstPlace ≡ codes "settings line 1 unreadable: first place not 0\n")
    × (told 0 (Condition.Refused 19) ≡ codes "settings refused 19: gap outside 1 to 200\n")
unfolding told refusal spelled digits refused worded table
words_said = (refl, refl, refl, refl)
