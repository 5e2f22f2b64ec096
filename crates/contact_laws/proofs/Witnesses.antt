-- Lines that meet the hypotheses: a broken balise that is passed clean, and a marker and a balise
-- one after the other with twelve ones after each.
-- Assumes nothing.
use Prim.Native.Nat.{ℕ}
use mathlib.Core.Path.{refl}
use mathlib.Core.List.{List, [], ◌∷◌}
use native.Mathlib.Omega.{arith}
use Rattle.words.specs.Bits.{word}
use Rattle.words.specs.Plain.{is_check, covers, count, even, is_code, onwards, figure}
use Rattle.words.specs.Code.{other, exchanged, read_word}
use Rattle.telegram.specs.Stretch.{bits_at, inside}
use Rattle.telegram.specs.Sync.{differing, is_good}
use Rattle.telegram.specs.Telegram.{short_word, long_word, telegram}
use Rattle.telegram.specs.Place.{are_syncs, words_at, is_place}
use Rattle.telegram.specs.declared.Telegram.{Telegram}
use Rattle.balise_line.specs.Line.{OneBalise, Proper, sent_bit, line_bit}
use Rattle.contact_laws.specs.Zeroes.{zeroes_sent, Broken}
use Rattle.contact_laws.specs.Pass.{between, Pass}
use Rattle.contact_laws.specs.Heard.{ends_in_four_ones, NoFalse}
use Rattle.contact_laws.specs.Row.{balise, marker, Long, Row}
use Rattle.contact_laws.proofs.Fair.{no_false}
use Rattle.contact_laws.proofs.Either.{fair_at}
use Rattle.contact_laws.proofs.Computed.{ones_computed, zeroes_computed, pass_computed, long_computed}

-- Number 127 with the sync words 72 and 0D hex, 200 bits.
abbrev never : OneBalise
never =
    record {
      buffer = 255 ∷ 255 ∷ 114 ∷ 195 ∷ 23 ∷ 255 ∷ 13 ∷ 195 ∷ 23 ∷ 255 ∷ 114 ∷ 195 ∷ 23 ∷ 255 ∷ 13 ∷ 195 ∷ 23 ∷ 255 ∷ 114 ∷ 195 ∷ 23 ∷ 255 ∷ 13 ∷ 195 ∷ 23 ∷ 255 ∷ 114 ∷ 255 ∷ 255 ∷ 255 ∷ [];
      start = 16;
      len = 200;
      s = 0x72;
      t = 0x0d;
      x = 0xc3;
      y = 0x17;
      z = 0xff;
      telegram = Telegram.Number 127;
      phase = 0;
    }

never_proper : Proper never
unfolding is_good differing inside telegram short_word long_word read_word is_code even count covers exchanged other word figure onwards is_check
never_proper = record { bytes = (omega arith, omega arith, omega arith, omega arith, omega arith); pair = refl; valid = refl; taken = refl }

never_broken : Broken never
unfolding zeroes_sent sent_bit
never_broken = (14, omega arith)

never_pass : Pass never 0 240
unfolding inside sent_bit
never_pass = pass_computed never 0 240 tt (omega arith) (omega arith) tt tt refl

never_fair : NoFalse never
unfolding ends_in_four_ones
never_fair = no_false never never_proper 0 240 never_pass refl refl

-- Sixty zeroes, twelve ones, and 167 bits of the figures 1 8 5 with the same sync words.
abbrev line : List ℕ
line =
    255 ∷ 255 ∷ 0 ∷ 0 ∷ 0 ∷ 0 ∷ 0 ∷ 0 ∷ 0 ∷ 15 ∷ 255 ∷ 114 ∷ 23 ∷ 142 ∷ 90 ∷ 13 ∷ 23 ∷ 142 ∷ 90 ∷ 114 ∷ 23 ∷ 142 ∷ 90 ∷ 13 ∷ 23 ∷ 142 ∷ 90 ∷ 114 ∷ 23 ∷ 142 ∷ 90 ∷ 13 ∷ 255 ∷ 255 ∷ []

abbrev second : OneBalise
second =
    record { buffer = line; start = 88; len = 167; s = 0x72; t = 0x0d; x = 0x17; y = 0x8e; z = 0x5a; telegram = Telegram.Figures 1 8 5; phase = 0 }

second_long : Long line second
unfolding zeroes_sent sent_bit fair_at is_place are_syncs words_at bits_at line_bit is_good differing inside telegram short_word long_word read_word is_code even count covers exchanged other word figure onwards is_check
second_long = long_computed second tt refl refl refl tt tt tt tt

marker_and_balise : Row between line 0 272 (marker 16 60 ∷ balise second ∷ [])
marker_and_balise = (
  (omega arith, zeroes_computed line 16 60 tt),
  omega arith,
  ones_computed line 0 16 tt,
  omega arith,
  ones_computed line 76 88 tt,
  (second_long, omega arith, ones_computed line 88 88 tt, omega arith, ones_computed line 255 267 tt, (omega arith, ones_computed line 267 272 tt)),
)
