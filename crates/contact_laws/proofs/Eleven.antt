-- Eleven ones between two balises: one contact comes of both.
-- Assumes nothing.
use Prim.Native.Nat.{ℕ}
use mathlib.Core.Path.{◌≡◌, refl}
use mathlib.Core.Bool.{true}
use mathlib.Core.List.{List, [], ◌∷◌}
use native.Mathlib.Omega.{arith}
use Rattle.words.specs.Bits.{word}
use Rattle.words.specs.Plain.{is_check, covers, count, even, is_code, onwards, figure}
use Rattle.words.specs.Code.{other, exchanged, read_word}
use Rattle.telegram.specs.Stretch.{bits_at, inside}
use Rattle.telegram.specs.Sync.{differing, is_good}
use Rattle.telegram.specs.Telegram.{short_word, long_word, telegram}
use Rattle.telegram.specs.Place.{are_syncs, words_at, is_place}
use Rattle.telegram.specs.declared.Telegram.{Telegram}
use Rattle.balise_line.specs.Line.{OneBalise, sent_bit, line_bit}
use Rattle.contact.specs.History.{after, zeroes_of, zeroes, opens, closes}
use Rattle.contact.specs.Contacts.{contact, quiet, contacts, contacts_from, from_start}
use Rattle.contact_laws.specs.Zeroes.{zeroes_sent}
use Rattle.contact_laws.specs.Row.{balise, Long, Row}
use Rattle.contact_laws.proofs.Either.{fair_at}
use Rattle.contact_laws.proofs.Computed.{ones_computed, long_computed}

-- Figures 1 8 5 with the sync words 72 and 0D hex: 167 bits that end with five zeroes, eleven ones,
-- and 167 bits that begin with five zeroes.
abbrev pub line : List ℕ
line =
    255 ∷ 255 ∷ 78 ∷ 66 ∷ 241 ∷ 203 ∷ 65 ∷ 162 ∷ 241 ∷ 203 ∷ 78 ∷ 66 ∷ 241 ∷ 203 ∷ 65 ∷ 162 ∷ 241 ∷ 203 ∷ 78 ∷ 66 ∷ 241 ∷ 203 ∷ 65 ∷ 255 ∷ 193 ∷ 162 ∷ 241 ∷ 203 ∷ 78 ∷ 66 ∷ 241 ∷ 203 ∷ 65 ∷ 162 ∷ 241 ∷ 203 ∷ 78 ∷ 66 ∷ 241 ∷ 203 ∷ 65 ∷ 162 ∷ 241 ∷ 203 ∷ 78 ∷ 127 ∷ 255 ∷ 255 ∷ []

abbrev pub part : ℕ → ℕ → OneBalise
part start phase =
    record { buffer = line; start = start; len = 167; s = 0x72; t = 0x0d; x = 0x17; y = 0x8e; z = 0x5a; telegram = Telegram.Figures 1 8 5; phase = phase }

first_long : Long line (part 16 61)
unfolding zeroes_sent sent_bit fair_at is_place are_syncs words_at bits_at line_bit is_good differing inside telegram short_word long_word read_word is_code even count covers exchanged other word figure onwards is_check
first_long = long_computed (part 16 61) tt refl refl refl tt tt tt tt

second_long : Long line (part 194 31)
unfolding zeroes_sent sent_bit fair_at is_place are_syncs words_at bits_at line_bit is_good differing inside telegram short_word long_word read_word is_code even count covers exchanged other word figure onwards is_check
second_long = long_computed (part 194 31) tt refl refl refl tt tt tt tt

pub two_in_a_row : Row 11 line 0 384 (balise (part 16 61) ∷ balise (part 194 31) ∷ [])
two_in_a_row = (
  first_long,
  omega arith,
  ones_computed line 0 16 tt,
  omega arith,
  ones_computed line 183 194 tt,
  (second_long, omega arith, ones_computed line 194 194 tt, omega arith, ones_computed line 361 372 tt, (omega arith, ones_computed line 372 384 tt)),
)

pub one_for_both : contacts_from line (from_start 0 384) ≡ contact 28 340 record { next = 369; left = 15; history = 40191 } quiet
unfolding contacts_from from_start contacts inside after zeroes_of zeroes opens closes
one_for_both = refl

pub line_taken : inside line 0 384 ≡ true
unfolding inside
line_taken = refl
