-- An ear as bytes: 23 figures, each of eight bytes. A case of an answer is a figure of its own, 0
-- for the first one.
-- Assumes nothing.
use Rattle.std.specs.Prelude.{ℕ, ◌%◌, Bool, true, false, not, List, [], ◌∷◌, eqb, Option, Some, None}
use Rattle.words.specs.Answer.{pick}
use Rattle.telegram.specs.declared.Telegram.{Telegram}
use Rattle.antenna.specs.declared.Places.{Places}
use Rattle.antenna.specs.declared.Sound.{Sound}
use Rattle.antenna.specs.declared.Stand.{Stand}
use Rattle.recording.specs.declared.Tape.{Tape}
use Rattle.state_bytes.specs.Figures.{spread, figure_at_meant}
use Rattle.ear_bytes.specs.declared.Hearing.{Hearing}

-- ---- the figures

-- A telegram as four figures: 0 and X, Y and Z; or 1 and the number.
abbrev pub telegram_figures : Telegram → List ℕ
telegram_figures (Telegram.Figures x y z) = 0 ∷ x ∷ y ∷ z ∷ []
telegram_figures (Telegram.Number m) = 1 ∷ m ∷ 0 ∷ 0 ∷ []

-- The places of a contact as ten: 0 for none; 1, the three words, the first place, how many there
-- are, and their telegram; 2 where two differ.
abbrev pub places_figures : Places → List ℕ
places_figures Places.NoPlace = 0 ∷ 0 ∷ 0 ∷ 0 ∷ 0 ∷ 0 ∷ 0 ∷ 0 ∷ 0 ∷ 0 ∷ []
places_figures (Places.Alike telegram x y z first count) = 1 ∷ x ∷ y ∷ z ∷ first ∷ count ∷ telegram_figures telegram
places_figures Places.Differ = 2 ∷ 0 ∷ 0 ∷ 0 ∷ 0 ∷ 0 ∷ 0 ∷ 0 ∷ 0 ∷ 0 ∷ []

-- True is 1, false 0.
abbrev pub as_figure : Bool → ℕ
as_figure true = 1
as_figure false = 0

-- Where an ear stands as seventeen: 0 outside a contact; 1 inside one, and then the contact so far.
abbrev pub stand_figures : Stand → List ℕ
stand_figures Stand.Outside = 0 ∷ 0 ∷ 0 ∷ 0 ∷ 0 ∷ 0 ∷ 0 ∷ 0 ∷ 0 ∷ 0 ∷ 0 ∷ 0 ∷ 0 ∷ 0 ∷ 0 ∷ 0 ∷ 0 ∷ []
stand_figures (Stand.Inside sound) =
    1 ∷ sound.s ∷ sound.t ∷ sound.length ∷ sound.forty ∷ sound.ones ∷ as_figure sound.plain ∷ places_figures sound.places

-- The last record's odometer as two: 0 where there is no record; 1 and the odometer.
abbrev pub last_kind : Option ℕ → ℕ
last_kind None = 0
last_kind (Some place) = 1

abbrev pub last_place : Option ℕ → ℕ
last_place None = 0
last_place (Some place) = place

-- The figures of a hearing: the latest sixteen bits, the odometer, that at which the open contact
-- opened, the bit to go on from, the last record's odometer, and where the ear stands.
unfoldable pub figures_of : Hearing → List ℕ
figures_of hearing =
    let tape = hearing.tape in
    tape.ear.history ∷ tape.odometer ∷ tape.opened ∷ hearing.bit ∷ last_kind tape.last ∷ last_place tape.last ∷ stand_figures tape.ear.stand

-- A hearing as bytes.
unfoldable pub ear_bytes : Hearing → List ℕ
ear_bytes hearing = spread 184 (figures_of hearing)

-- ---- the hearing in some bytes: of each figure the low bits count, as many as its type has

abbrev pub telegram_in : List ℕ → Telegram
telegram_in bytes =
    pick (eqb (figure_at_meant bytes 19) 0)
    (Telegram.Figures (figure_at_meant bytes 20 % 256) (figure_at_meant bytes 21 % 256) (figure_at_meant bytes 22 % 256))
    (Telegram.Number (figure_at_meant bytes 20 % 65536))

abbrev pub places_in : List ℕ → Places
places_in bytes =
    pick (eqb (figure_at_meant bytes 13) 0) Places.NoPlace
    (pick (eqb (figure_at_meant bytes 13) 1)
    (Places.Alike (telegram_in bytes) (figure_at_meant bytes 14 % 256) (figure_at_meant bytes 15 % 256) (figure_at_meant bytes 16 % 256) (figure_at_meant bytes 17) (figure_at_meant bytes 18))
    Places.Differ)

abbrev pub sound_in : List ℕ → Sound
sound_in bytes =
    record {
      s = figure_at_meant bytes 7 % 256;
      t = figure_at_meant bytes 8 % 256;
      length = figure_at_meant bytes 9;
      forty = figure_at_meant bytes 10;
      ones = figure_at_meant bytes 11;
      plain = not (eqb (figure_at_meant bytes 12) 0);
      places = places_in bytes;
    }

abbrev pub stand_in : List ℕ → Stand
stand_in bytes = pick (eqb (figure_at_meant bytes 6) 0) Stand.Outside (Stand.Inside (sound_in bytes))

abbrev pub last_in : List ℕ → Option ℕ
last_in bytes = pick (eqb (figure_at_meant bytes 4) 0) None (Some (figure_at_meant bytes 5 % 4294967296))

abbrev pub tape_in : List ℕ → Tape
tape_in bytes =
    record {
      ear = record { history = figure_at_meant bytes 0 % 65536; stand = stand_in bytes };
      odometer = figure_at_meant bytes 1 % 4294967296;
      opened = figure_at_meant bytes 2 % 4294967296;
      last = last_in bytes;
    }

-- Any bytes are those of some hearing.
unfoldable pub ear_in : List ℕ → Hearing
ear_in bytes = record { tape = tape_in bytes; bit = figure_at_meant bytes 3 }
