-- How large the figures of a hearing can be: as its types have it.
-- Assumes nothing.
use Rattle.std.specs.Prelude.{ℕ, ◌<◌, Option, Some, None}
use Rattle.telegram.specs.declared.Telegram.{Telegram}
use Rattle.antenna.specs.declared.Places.{Places}
use Rattle.antenna.specs.declared.Stand.{Stand}
use Rattle.ear_bytes.specs.declared.Hearing.{Hearing}

abbrev pub TelegramFits : Telegram → Type 0
TelegramFits (Telegram.Figures x y z) = (x < 256) × (y < 256) × (z < 256)
TelegramFits (Telegram.Number m) = m < 65536

abbrev pub PlacesFit : Places → Type 0
PlacesFit Places.NoPlace = Unit
PlacesFit (Places.Alike telegram x y z first count) = (x < 256) × (y < 256) × (z < 256) × TelegramFits telegram
PlacesFit Places.Differ = Unit

abbrev pub StandFits : Stand → Type 0
StandFits Stand.Outside = Unit
StandFits (Stand.Inside sound) = (sound.s < 256) × (sound.t < 256) × PlacesFit sound.places

abbrev pub LastFits : Option ℕ → Type 0
LastFits None = Unit
LastFits (Some place) = place < 4294967296

abbrev pub HearingFits : Hearing → Type 0
HearingFits hearing =
    (hearing.tape.ear.history < 65536) × (hearing.tape.odometer < 4294967296) × (hearing.tape.opened < 4294967296)
    × LastFits hearing.tape.last × StandFits hearing.tape.ear.stand
