-- The contacts that are recorded are document 01's: those of the whole line in one buffer, each
-- judged there with the pair in force at its first bit; and a reading's record has the words
-- received.
-- Assumes nothing.
use Rattle.std.specs.Prelude.{ℕ, zero, suc, ◌+◌, ◌/◌, ◌^◌, ◌<◌, ◌≡◌, List, [], ◌++◌}
use Rattle.words.specs.Answer.{gives}
use Rattle.telegram.specs.Stretch.{bits_at}
use Rattle.telegram.specs.declared.Telegram.{Telegram}
use Rattle.settings.specs.declared.Store.{Store}
use Rattle.contact.specs.History.{sixteen_ones}
use Rattle.contact.specs.Contacts.{outside, contacts}
use Rattle.contact.specs.Judge.{read, judge}
use Rattle.antenna.specs.Hearing as hearing
use Rattle.antenna.specs.Line.{told, heard, after, judged_all, cut, is_inside}
use Rattle.recorder.specs.Record.{bytes_of}
use Rattle.recording.specs.Frame.{line_of}
use Rattle.recording.specs.Recording.{frames_of}
use Rattle.recording.specs.Contacts.{line_in, in_force, s_in, t_in, record_for, bits_of}

-- The line of n frames, in one buffer.
unfoldable pub lines_of : List ℕ → ℕ → List ℕ
lines_of lead zero = []
lines_of lead (suc n) = lines_of lead n ++ line_of lead n

abbrev pub whole_line : List ℕ → List ℕ
whole_line lead = lines_of lead (frames_of lead)

abbrev pub TheContacts : Type 0
TheContacts =
    (store : Store) (lead : List ℕ) → bits_of lead < 2 ^ 64
    → (heard (line_in lead) (s_in store lead) (t_in store lead) hearing.fresh 0 (bits_of lead)
    ≡ judged_all (whole_line lead) (s_in store lead) (t_in store lead) (contacts (whole_line lead) outside sixteen_ones 0 (bits_of lead)))
    × (is_inside (after (line_in lead) (s_in store lead) (t_in store lead) hearing.fresh 0 (bits_of lead)).stand ≡ cut (contacts (whole_line lead) outside sixteen_ones 0 (bits_of lead)))

-- "Read: kind 0 with the received words": those of the first place.
abbrev pub AsReceived : Type 0
AsReceived =
    (lead b : List ℕ) (start len s t : ℕ) (m : Telegram) (first count : ℕ) → judge b start len s t ≡ gives (read (gives m) first count)
    → record_for lead (told start len (judge b start len s t))
    ≡ bytes_of (in_force lead (start / 96)) (record { kind = 0; x = bits_at b (first + 8) 8; y = bits_at b (first + 16) 8; z = bits_at b (first + 24) 8 })
