-- Contacts of document 01's edges, judged by the definitions.
-- Assumes nothing.
use mathlib.Core.Path.{◌≡◌, refl}
use mathlib.Core.List.{[], ◌∷◌}
use Rattle.words.specs.Answer.{gives, refuses}
use Rattle.words.specs.Bits.{word}
use Rattle.words.specs.Plain.{is_check, covers, count, even, is_code, onwards, figure}
use Rattle.words.specs.Code.{other, exchanged, read_word}
use Rattle.telegram.specs.Stretch.{bits_at, inside}
use Rattle.telegram.specs.Sync.{differing, is_good}
use Rattle.telegram.specs.Telegram.{short_word, long_word, telegram}
use Rattle.telegram.specs.declared.Telegram.{Telegram}
use Rattle.telegram.specs.Place.{are_syncs, words_at, is_place, from, those, places}
use Rattle.telegram.specs.Survey.{same_words, all_as}
use Rattle.contact.specs.Judge.{ones_at_end, all_zero, is_marker, read, marker, judgement, judge}

-- 64 zeroes are a marker, 63 are not.
sixty_four : judge (0 ∷ 0 ∷ 0 ∷ 0 ∷ 0 ∷ 0 ∷ 0 ∷ 0 ∷ []) 0 64 0x72 0x0d ≡ gives marker
unfolding judge judgement is_marker ones_at_end all_zero all_as is_good differing inside places those from is_place are_syncs words_at bits_at
sixty_four = refl

sixty_three : judge (0 ∷ 0 ∷ 0 ∷ 0 ∷ 0 ∷ 0 ∷ 0 ∷ 0 ∷ []) 0 63 0x72 0x0d ≡ refuses 8
unfolding judge judgement is_marker ones_at_end all_zero all_as is_good differing inside places those from is_place are_syncs words_at bits_at
sixty_three = refl

-- 53 zeroes and 11 ones are a marker, 52 and 12 are not.
eleven_ones : judge (0 ∷ 0 ∷ 0 ∷ 0 ∷ 0 ∷ 0 ∷ 0x07 ∷ 0xff ∷ []) 0 64 0x72 0x0d ≡ gives marker
unfolding judge judgement is_marker ones_at_end all_zero all_as is_good differing inside places those from is_place are_syncs words_at bits_at
eleven_ones = refl

twelve_ones : judge (0 ∷ 0 ∷ 0 ∷ 0 ∷ 0 ∷ 0 ∷ 0x0f ∷ 0xff ∷ []) 0 64 0x72 0x0d ≡ refuses 8
unfolding judge judgement is_marker ones_at_end all_zero all_as is_good differing inside places those from is_place are_syncs words_at bits_at
twelve_ones = refl

-- Two telegrams that share a sync word are read if they are alike; one alone is not, and two that
-- differ are refused with 7.
two_alike : judge (0x72 ∷ 0x17 ∷ 0x8e ∷ 0x5a ∷ 0x0d ∷ 0x17 ∷ 0x8e ∷ 0x5a ∷ 0x72 ∷ []) 0 72 0x72 0x0d
    ≡ gives (read (gives (Telegram.Figures 1 8 5)) 0 2)
unfolding judge judgement is_marker ones_at_end all_zero same_words all_as is_good differing inside places those from is_place are_syncs words_at bits_at telegram short_word long_word read_word is_code even count covers exchanged other word figure onwards is_check
two_alike = refl

one_place : judge (0x72 ∷ 0x17 ∷ 0x8e ∷ 0x5a ∷ 0x0d ∷ []) 0 40 0x72 0x0d ≡ refuses 8
unfolding judge judgement is_marker ones_at_end all_zero same_words all_as is_good differing inside places those from is_place are_syncs words_at bits_at telegram short_word long_word read_word is_code even count covers exchanged other word figure onwards is_check
one_place = refl

two_differ : judge (0x72 ∷ 0x17 ∷ 0x8e ∷ 0x5a ∷ 0x0d ∷ 0x99 ∷ 0x2b ∷ 0x4d ∷ 0x72 ∷ []) 0 72 0x72 0x0d ≡ refuses 7
unfolding judge judgement is_marker ones_at_end all_zero same_words all_as is_good differing inside places those from is_place are_syncs words_at bits_at telegram short_word long_word read_word is_code even count covers exchanged other word figure onwards is_check
two_differ = refl

-- A marker's bits can hold one place, between 00 and 7F hex: 57 zeroes and seven ones. The answer
-- is marker.
marker_with_a_place : judge (0 ∷ 0 ∷ 0 ∷ 0 ∷ 0 ∷ 0 ∷ 0 ∷ 0x7f ∷ []) 0 64 0x00 0x7f ≡ gives marker
unfolding judge judgement is_marker ones_at_end all_zero same_words all_as is_good differing inside places those from is_place are_syncs words_at bits_at telegram short_word long_word read_word is_code even count covers exchanged other word figure onwards is_check
marker_with_a_place = refl

its_place : places (0 ∷ 0 ∷ 0 ∷ 0 ∷ 0 ∷ 0 ∷ 0 ∷ 0x7f ∷ []) 0 64 0x00 0x7f ≡ 24 ∷ []
unfolding places those from is_place are_syncs words_at bits_at telegram short_word long_word read_word is_code even count covers exchanged other word figure onwards is_check
its_place = refl
