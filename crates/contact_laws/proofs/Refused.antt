-- Balises that are passed clean and refused: with 8, over one bit less than 167, though no place is
-- false; with 7, over the antenna for long enough, because of a false place.
-- Assumes nothing.
use mathlib.Core.Path.{refl}
use mathlib.Core.List.{[], ◌∷◌}
use Rattle.words.specs.Bits.{word}
use Rattle.words.specs.Plain.{is_check, covers, count, even, is_code, onwards, figure}
use Rattle.words.specs.Code.{other, exchanged, read_word}
use Rattle.telegram.specs.Stretch.{bits_at, inside}
use Rattle.telegram.specs.Sync.{differing, is_good}
use Rattle.telegram.specs.Telegram.{short_word, long_word, telegram}
use Rattle.telegram.specs.Place.{are_syncs, words_at, is_place, from, those, places}
use Rattle.telegram.specs.Survey.{same_words, all_as}
use Rattle.telegram.specs.declared.Telegram.{Telegram}
use Rattle.balise_line.specs.Line.{OneBalise, sent_bit}
use Rattle.contact.specs.History.{after, zeroes_of, zeroes, opens, closes}
use Rattle.contact.specs.Contacts.{contacts, contacts_from, from_start}
use Rattle.contact.specs.Judge.{ones_at_end, all_zero, is_marker, judgement, judge}
use Rattle.contact.specs.declared.Judged.{Judged}
use Rattle.contact_laws.specs.Zeroes.{zeroes_sent}
use Rattle.contact_laws.specs.Pass.{cut_bits}
use Rattle.contact_laws.specs.Limits.{Answered}
use Rattle.contact_laws.proofs.Computed.{answered_so}
use Rattle.contact_laws.specs.Heard.{ends_in_four_ones, NoFalse}
use Rattle.contact_laws.proofs.Fair.{no_false}

-- Number 1958 with the sync words 17 and EA hex, heard from the second bit of a telegram on, for
-- 166 bits.
abbrev pub short : OneBalise
short =
    record {
      buffer = 255 ∷ 255 ∷ 47 ∷ 135 ∷ 218 ∷ 199 ∷ 213 ∷ 135 ∷ 218 ∷ 198 ∷ 47 ∷ 135 ∷ 218 ∷ 199 ∷ 213 ∷ 135 ∷ 218 ∷ 198 ∷ 47 ∷ 135 ∷ 218 ∷ 199 ∷ 215 ∷ 255 ∷ 255 ∷ [];
      start = 16;
      len = 166;
      s = 0x17;
      t = 0xea;
      x = 0xc3;
      y = 0xed;
      z = 0x63;
      telegram = Telegram.Number 1958;
      phase = 1;
    }

pub short_answered : Answered short Judged.Neither
unfolding is_good differing inside telegram short_word long_word read_word is_code even count covers exchanged other word figure onwards is_check zeroes_sent sent_bit cut_bits contacts_from from_start contacts after zeroes_of zeroes opens closes judge judgement is_marker ones_at_end all_zero same_words all_as places those from is_place are_syncs words_at bits_at
short_answered = answered_so 200 64 4 (record { next = 187; left = 13; history = 16063 }) tt refl refl refl tt tt tt tt tt refl tt tt refl refl

pub short_fair : NoFalse short
unfolding ends_in_four_ones
short_fair = let a = short_answered in no_false short a.proper a.from a.to a.pass refl refl

-- Figures 0 0 1 with the sync words 00 and 7F hex, 192 bits; seven of the ones after it end a false
-- place.
abbrev pub zeroes_ahead : OneBalise
zeroes_ahead =
    record {
      buffer = 255 ∷ 255 ∷ 0 ∷ 0 ∷ 46 ∷ 254 ∷ 0 ∷ 0 ∷ 46 ∷ 0 ∷ 0 ∷ 0 ∷ 46 ∷ 254 ∷ 0 ∷ 0 ∷ 46 ∷ 0 ∷ 0 ∷ 0 ∷ 46 ∷ 254 ∷ 0 ∷ 0 ∷ 46 ∷ 0 ∷ 255 ∷ 255 ∷ 255 ∷ [];
      start = 16;
      len = 192;
      s = 0x00;
      t = 0x7f;
      x = 0x00;
      y = 0x00;
      z = 0x17;
      telegram = Telegram.Figures 0 0 1;
      phase = 9;
    }

pub zeroes_ahead_answered : Answered zeroes_ahead Judged.Differ
unfolding is_good differing inside telegram short_word long_word read_word is_code even count covers exchanged other word figure onwards is_check zeroes_sent sent_bit cut_bits contacts_from from_start contacts after zeroes_of zeroes opens closes judge judgement is_marker ones_at_end all_zero same_words all_as places those from is_place are_syncs words_at bits_at
zeroes_ahead_answered = answered_so 232 7 11 (record { next = 220; left = 12; history = 4095 }) tt refl refl refl tt tt tt tt tt refl tt tt refl refl
