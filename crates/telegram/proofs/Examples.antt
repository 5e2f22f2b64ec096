-- Worked examples, computed by the definitions: the sync pair of source 001, telegrams, places and
-- document 01's edges.
-- Assumes nothing.
use Prim.Native.Nat.{ℕ}
use mathlib.Core.Path.{◌≡◌, refl}
use mathlib.Core.List.{List, [], ◌∷◌}
use Rattle.words.specs.Answer.{gives, refuses}
use Rattle.words.specs.Bits.{word, ones_of}
use Rattle.words.specs.Why.{why, are, unsaid, parity}
use Rattle.words.specs.declared.Parity.{Parity}
use Rattle.words.specs.Plain.{is_check, covers, count, even, is_code, onwards, figure}
use Rattle.words.specs.Code.{other, exchanged, read_word}
use Rattle.telegram.specs.Stretch.{bits_at, inside}
use Rattle.telegram.specs.Sync.{differing, is_good, good, good_pair}
use Rattle.telegram.specs.Telegram.{short_word, long_word, telegram, bad_word}
use Rattle.telegram.specs.declared.Telegram.{Telegram}
use Rattle.telegram.specs.declared.Word.{Word}
use Rattle.telegram.specs.Place.{are_syncs, words_at, is_place, from, those, places, at, find}
use Rattle.telegram.specs.Survey.{same_words, all_as, alike, survey}

-- The pair 72 and 0D hex (source 001, figure 5.4-1) is good.
source_pair : good_pair 0x72 0x0d ≡ gives good
unfolding good_pair is_good differing
source_pair = refl

-- Pairs that differ in six, seven and eight bits.
six : good_pair 0x00 0x3f ≡ refuses 4
unfolding good_pair is_good differing
six = refl

seven : good_pair 0x00 0x7f ≡ gives good
unfolding good_pair is_good differing
seven = refl

eight : good_pair 0x00 0xff ≡ refuses 4
unfolding good_pair is_good differing
eight = refl

-- Three figures, and a number after an X that reads 12.
three_figures : telegram 0x17 0x8e 0x5a ≡ gives (Telegram.Figures 1 8 5)
unfolding telegram short_word long_word read_word parity ones_of is_code even count covers exchanged other word figure onwards is_check
three_figures = refl

a_number : telegram 0xc3 0x88 0x06 ≡ gives (Telegram.Number 1152)
unfolding telegram short_word long_word read_word parity ones_of is_code even count covers exchanged other word figure onwards is_check
a_number = refl

-- The first bad word decides: a bad long word, a bad Y, an X of 15, a Y of 15 before a Z that is no
-- code word.
bad_number : telegram 0xc3 0x88 0x07 ≡ refuses (bad_word Word.YZ (why 1 (are Parity.Odd)))
unfolding telegram short_word long_word read_word parity ones_of is_code even count covers exchanged other word figure onwards is_check
bad_number = refl

bad_y : telegram 0x17 0x88 0x06 ≡ refuses (bad_word Word.Y (why 1 (are Parity.Even)))
unfolding telegram short_word long_word read_word parity ones_of is_code even count covers exchanged other word figure onwards is_check
bad_y = refl

fifteen_x : telegram 0xff 0x18 0x18 ≡ refuses (bad_word Word.X (why 3 unsaid))
unfolding telegram short_word long_word read_word parity ones_of is_code even count covers exchanged other word figure onwards is_check
fifteen_x = refl

fifteen_y : telegram 0x17 0xff 0x18 ≡ refuses (bad_word Word.Y (why 3 unsaid))
unfolding telegram short_word long_word read_word parity ones_of is_code even count covers exchanged other word figure onwards is_check
fifteen_y = refl

-- Two telegrams that share a sync word, in 72 bits: the place 32 begins inside the first.
two : List ℕ
two = 0x72 ∷ 0x17 ∷ 0x8e ∷ 0x5a ∷ 0x0d ∷ 0x99 ∷ 0x2b ∷ 0x4d ∷ 0x72 ∷ []

two_places : places two 0 72 0x72 0x0d ≡ 0 ∷ 32 ∷ []
unfolding two places those from is_place are_syncs words_at bits_at telegram short_word long_word read_word parity ones_of is_code even count covers exchanged other word figure onwards is_check
two_places = refl

-- Forty bits hold one of them, thirty-nine none.
forty_bits : find two 32 40 0x72 0x0d ≡ gives (at 32 (gives (Telegram.Figures 9 2 4)))
unfolding two find is_good differing inside places those from is_place are_syncs words_at bits_at telegram short_word long_word read_word parity ones_of is_code even count covers exchanged other word figure onwards is_check
forty_bits = refl

thirty_nine : find two 32 39 0x72 0x0d ≡ refuses 6
unfolding two find is_good differing inside places those from is_place are_syncs words_at bits_at telegram short_word long_word read_word parity ones_of is_code even count covers exchanged other word figure onwards is_check
thirty_nine = refl

-- S at both ends is no telegram.
same_ends : find (0x72 ∷ 0x17 ∷ 0x8e ∷ 0x5a ∷ 0x72 ∷ []) 0 40 0x72 0x0d ≡ refuses 6
unfolding find is_good differing inside places those from is_place are_syncs words_at bits_at telegram short_word long_word read_word parity ones_of is_code even count covers exchanged other word figure onwards is_check
same_ends = refl

-- Two places that differ, and two that are alike.
two_differ : survey two 0 72 0x72 0x0d ≡ refuses 7
unfolding two survey same_words all_as is_good differing inside places those from is_place are_syncs words_at bits_at telegram short_word long_word read_word parity ones_of is_code even count covers exchanged other word figure onwards is_check
two_differ = refl

two_alike : survey (0x72 ∷ 0x17 ∷ 0x8e ∷ 0x5a ∷ 0x0d ∷ 0x17 ∷ 0x8e ∷ 0x5a ∷ 0x72 ∷ []) 0 72 0x72 0x0d
    ≡ gives (alike (gives (Telegram.Figures 1 8 5)) 0 2)
unfolding survey same_words all_as is_good differing inside places those from is_place are_syncs words_at bits_at telegram short_word long_word read_word parity ones_of is_code even count covers exchanged other word figure onwards is_check
two_alike = refl
