-- The lines of specs/Lines.antt, computed: what the judgement of each comes to.
-- Assumes nothing.
use mathlib.Core.Path.{refl}
use native.Mathlib.Omega.{arith}
use Rattle.words.specs.Bits.{word}
use Rattle.words.specs.Plain.{is_check, covers, count, even, is_code, onwards, figure}
use Rattle.words.specs.Code.{other, exchanged, read_word}
use Rattle.telegram.specs.Stretch.{bits_at, inside}
use Rattle.telegram.specs.Sync.{differing, is_good}
use Rattle.telegram.specs.Telegram.{short_word, long_word, telegram}
use Rattle.telegram.specs.Place.{are_syncs, words_at, is_place, from, those, places}
use Rattle.telegram.specs.Survey.{same_words, all_as}
use Rattle.telegram.specs.declared.Telegram.{Telegram}
use Rattle.balise_line.specs.Line.{Proper, sent_bit, line_bit, unequal, sum}
use Rattle.balise_line.specs.Forty.{equal_bits}
use Rattle.balise_line.proofs.Computed.{proper_computed}
use Rattle.contact.specs.History.{after, zeroes_of, zeroes, opens, closes}
use Rattle.contact.specs.Contacts.{contacts, contacts_from, from_start}
use Rattle.contact.specs.Judge.{ones_at_end, all_zero, is_marker, judgement, judge}
use Rattle.contact.specs.declared.Judged.{Judged}
use Rattle.noise_laws.specs.Pass.{is_over, line_at, flipped, flips_in, NoisyPass}
use Rattle.noise_laws.specs.Limits.{Passed}
use Rattle.noise_laws.specs.Lines.{first_line, second_line, third_line, fourth_line, fifth_line, sixth_line, seventh_line, eighth_line, zeroes_line, noisy_line, seven_line, eight_line}
use Rattle.noise_laws.proofs.Computed.{pass_computed, passed_so}

pub first : Passed 1 2 first_line (Judged.Read (Telegram.Figures 8 0 0) 63 3)
unfolding is_good differing inside telegram short_word long_word read_word is_code even count covers exchanged other word figure onwards is_check line_at is_over line_bit sent_bit flipped flips_in sum unequal contacts_from from_start contacts after zeroes_of zeroes opens closes judge judgement is_marker ones_at_end all_zero same_words all_as places those from is_place are_syncs words_at bits_at equal_bits
first = passed_so 272 39 204 (record { next = 244; left = 28; history = 4095 }) tt refl refl refl refl tt tt refl refl refl

pub second : Passed 2 2 second_line (Judged.Read (Telegram.Figures 9 9 9) 62 3)
unfolding is_good differing inside telegram short_word long_word read_word is_code even count covers exchanged other word figure onwards is_check line_at is_over line_bit sent_bit flipped flips_in sum unequal contacts_from from_start contacts after zeroes_of zeroes opens closes judge judgement is_marker ones_at_end all_zero same_words all_as places those from is_place are_syncs words_at bits_at equal_bits
second = passed_so 272 47 192 (record { next = 240; left = 32; history = 22015 }) tt refl refl refl refl tt tt refl refl refl

pub third : Passed 3 3 third_line (Judged.Read (Telegram.Figures 8 2 5) 93 2)
unfolding is_good differing inside telegram short_word long_word read_word is_code even count covers exchanged other word figure onwards is_check line_at is_over line_bit sent_bit flipped flips_in sum unequal contacts_from from_start contacts after zeroes_of zeroes opens closes judge judgement is_marker ones_at_end all_zero same_words all_as places those from is_place are_syncs words_at bits_at equal_bits
third = passed_so 272 44 197 (record { next = 242; left = 30; history = 37887 }) tt refl refl refl refl tt tt refl refl refl

pub fourth : Passed 4 4 fourth_line (Judged.Read (Telegram.Figures 2 8 5) 78 2)
unfolding is_good differing inside telegram short_word long_word read_word is_code even count covers exchanged other word figure onwards is_check line_at is_over line_bit sent_bit flipped flips_in sum unequal contacts_from from_start contacts after zeroes_of zeroes opens closes judge judgement is_marker ones_at_end all_zero same_words all_as places those from is_place are_syncs words_at bits_at equal_bits
fourth = passed_so 256 69 156 (record { next = 226; left = 30; history = 4095 }) tt refl refl refl refl tt tt refl refl refl

pub fifth : Passed 5 4 fifth_line (Judged.Read (Telegram.Figures 2 8 5) 64 2)
unfolding is_good differing inside telegram short_word long_word read_word is_code even count covers exchanged other word figure onwards is_check line_at is_over line_bit sent_bit flipped flips_in sum unequal contacts_from from_start contacts after zeroes_of zeroes opens closes judge judgement is_marker ones_at_end all_zero same_words all_as places those from is_place are_syncs words_at bits_at equal_bits
fifth = passed_so 240 39 161 (record { next = 201; left = 39; history = 46575 }) tt refl refl refl refl tt tt refl refl refl

pub sixth : Passed 6 3 sixth_line (Judged.Read (Telegram.Figures 5 13 7) 67 2)
unfolding is_good differing inside telegram short_word long_word read_word is_code even count covers exchanged other word figure onwards is_check line_at is_over line_bit sent_bit flipped flips_in sum unequal contacts_from from_start contacts after zeroes_of zeroes opens closes judge judgement is_marker ones_at_end all_zero same_words all_as places those from is_place are_syncs words_at bits_at equal_bits
sixth = passed_so 272 41 200 (record { next = 242; left = 30; history = 37887 }) tt refl refl refl refl tt tt refl refl refl

pub seventh : Passed 7 2 seventh_line (Judged.Read (Telegram.Figures 9 9 9) 66 2)
unfolding is_good differing inside telegram short_word long_word read_word is_code even count covers exchanged other word figure onwards is_check line_at is_over line_bit sent_bit flipped flips_in sum unequal contacts_from from_start contacts after zeroes_of zeroes opens closes judge judgement is_marker ones_at_end all_zero same_words all_as places those from is_place are_syncs words_at bits_at equal_bits
seventh = passed_so 272 47 192 (record { next = 240; left = 32; history = 22015 }) tt refl refl refl refl tt tt refl refl refl

pub eighth : Passed 8 2 eighth_line (Judged.Read (Telegram.Figures 0 0 2) 97 2)
unfolding is_good differing inside telegram short_word long_word read_word is_code even count covers exchanged other word figure onwards is_check line_at is_over line_bit sent_bit flipped flips_in sum unequal contacts_from from_start contacts after zeroes_of zeroes opens closes judge judgement is_marker ones_at_end all_zero same_words all_as places those from is_place are_syncs words_at bits_at equal_bits
eighth = passed_so 272 39 204 (record { next = 244; left = 28; history = 4095 }) tt refl refl refl refl tt tt refl refl refl

pub nothing : Passed 4 0 zeroes_line Judged.Marker
unfolding is_good differing inside telegram short_word long_word read_word is_code even count covers exchanged other word figure onwards is_check line_at is_over line_bit sent_bit flipped flips_in sum unequal contacts_from from_start contacts after zeroes_of zeroes opens closes judge judgement is_marker ones_at_end all_zero same_words all_as places those from is_place are_syncs words_at bits_at equal_bits
nothing = passed_so 144 46 64 (record { next = 111; left = 33; history = 4095 }) tt refl refl refl refl tt tt refl refl refl

pub noisy_proper : Proper noisy_line
unfolding is_good differing inside telegram short_word long_word read_word is_code even count covers exchanged other word figure onwards is_check
noisy_proper = proper_computed noisy_line tt refl refl refl

pub noisy_pass : NoisyPass 2 noisy_line 0 240
unfolding inside line_at is_over line_bit sent_bit flipped flips_in sum unequal
noisy_pass = pass_computed 2 noisy_line 0 240 (omega arith) (omega arith) tt refl

pub noisy : Passed 3 2 noisy_line (Judged.Read (Telegram.Figures 1 8 5) 75 4)
unfolding is_good differing inside telegram short_word long_word read_word is_code even count covers exchanged other word figure onwards is_check line_at is_over line_bit sent_bit flipped flips_in sum unequal contacts_from from_start contacts after zeroes_of zeroes opens closes judge judgement is_marker ones_at_end all_zero same_words all_as places those from is_place are_syncs words_at bits_at equal_bits
noisy = passed_so 240 29 198 (record { next = 228; left = 12; history = 12255 }) tt refl refl refl refl tt tt refl refl refl

pub seven : Passed 4 3 seven_line Judged.Differ
unfolding is_good differing inside telegram short_word long_word read_word is_code even count covers exchanged other word figure onwards is_check line_at is_over line_bit sent_bit flipped flips_in sum unequal contacts_from from_start contacts after zeroes_of zeroes opens closes judge judgement is_marker ones_at_end all_zero same_words all_as places those from is_place are_syncs words_at bits_at equal_bits
seven = passed_so 176 23 135 (record { next = 159; left = 17; history = 7679 }) tt refl refl refl refl tt tt refl refl refl

pub eight : Passed 3 2 eight_line Judged.Neither
unfolding is_good differing inside telegram short_word long_word read_word is_code even count covers exchanged other word figure onwards is_check line_at is_over line_bit sent_bit flipped flips_in sum unequal contacts_from from_start contacts after zeroes_of zeroes opens closes judge judgement is_marker ones_at_end all_zero same_words all_as places those from is_place are_syncs words_at bits_at equal_bits
eight = passed_so 144 26 96 (record { next = 123; left = 21; history = 54527 }) tt refl refl refl refl tt tt refl refl refl
