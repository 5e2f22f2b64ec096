-- What is kept of a reading are the words received: those of the first place.
-- Assumes nothing.
use Rattle.std.specs.Prelude.{ℕ, ◌+◌, ◌≤◌, ◌≡◌, List}
use Rattle.words.specs.Answer.{gives}
use Rattle.telegram.specs.Stretch.{bits_at}
use Rattle.telegram.specs.declared.Telegram.{Telegram}
use Rattle.contact.specs.Judge.{read, judge}
use Rattle.contact.specs.declared.Judged.{Judged}
use Rattle.recorder.specs.Record.{bytes_of, record_of_meant}

-- Where a contact is read as the telegram m, from a first place on, its record has the three words
-- that stand in the buffer there.
abbrev pub AsReceived : Type 0
AsReceived =
    (b : List ℕ) (start len s t : ℕ) (m : Telegram) (first count odometer : ℕ)
    → judge b start len s t ≡ gives (read (gives m) first count) → odometer ≤ 4000000000
    → record_of_meant odometer (Judged.Read m first count)
    ≡ gives (bytes_of odometer (record { kind = 0; x = bits_at b (first + 8) 8; y = bits_at b (first + 16) 8; z = bits_at b (first + 24) 8 }))
