-- One way in full, from figures to a line: two test balises are written and passed, heard, judged,
-- recorded, and ridden over.
-- Assumes nothing.
use Rattle.std.specs.Prelude.{ℕ, ◌≡◌, List, [], ◌∷◌, ◌++◌}
use Rattle.words.specs.Answer.{gives}
use Rattle.telegram.specs.declared.Telegram.{Telegram}
use Rattle.contact.specs.Contacts.{contact, quiet, contacts_from, from_start}
use Rattle.contact.specs.Judge.{read, judge}
use Rattle.contact.specs.declared.Judged.{Judged}
use Rattle.balise_writer.specs.Write.{write}
use Rattle.recorder.specs.Record.{record_of_meant}
use Rattle.ride.specs.State.{fresh_ride}
use Rattle.ride.specs.Step.{end}
use Rattle.ride.specs.Over.{Ridden, ride_over}
use Rattle.ride_text.specs.Text.{codes, text_of}

-- 25 bytes, as much as six telegrams take.
abbrev pub room : List ℕ
room = 0 ∷ 0 ∷ 0 ∷ 0 ∷ 0 ∷ 0 ∷ 0 ∷ 0 ∷ 0 ∷ 0 ∷ 0 ∷ 0 ∷ 0 ∷ 0 ∷ 0 ∷ 0 ∷ 0 ∷ 0 ∷ 0 ∷ 0 ∷ 0 ∷ 0 ∷ 0 ∷ 0 ∷ 0 ∷ []

-- What is sent for 1 8 5 and for 9 2 4, the balises of document 01's ride, with the sync words 72
-- and 0D hex.
abbrev pub A : List ℕ
A = (write 1 8 5 0x72 0x0d 6 room).buffer

abbrev pub B : List ℕ
B = (write 9 2 4 0x72 0x0d 6 room).buffer

-- The line: sixteen bits of ones before, between and after them.
abbrev pub sixteen : List ℕ
sixteen = 0xff ∷ 0xff ∷ []

unfoldable pub cable : List ℕ
cable = sixteen ++ (A ++ (sixteen ++ (B ++ sixteen)))

-- "Records: 000003E8 00 17 8E 5A / 00000406 00 99 2B 4D" (document 01, "One ride in full")
abbrev pub record_a : List ℕ
record_a = 0x00 ∷ 0x00 ∷ 0x03 ∷ 0xE8 ∷ 0x00 ∷ 0x17 ∷ 0x8E ∷ 0x5A ∷ []

abbrev pub record_b : List ℕ
record_b = 0x00 ∷ 0x00 ∷ 0x04 ∷ 0x06 ∷ 0x00 ∷ 0x99 ∷ 0x2B ∷ 0x4D ∷ []

-- The ride over the two records, with the gap 40.
unfoldable pub ridden : Ridden
ridden = ride_over (λ odometer. 40) fresh_ride 1 (record_a ∷ record_b ∷ [])

pub record InFull : Type 0 where
  -- written
  pub written : ((write 1 8 5 0x72 0x0d 6 room).answer ≡ gives 25) × ((write 9 2 4 0x72 0x0d 6 room).answer ≡ gives 25)
  -- passed and detected: one contact each
  pub detected : contacts_from cable (from_start 0 448)
      ≡ contact 28 195 (record { next = 224; left = 224; history = 29439 }) (contact 246 192 (record { next = 439; left = 9; history = 47487 }) quiet)
  -- judged: both read
  pub judged_so : (judge cable 28 195 0x72 0x0d ≡ gives (read (gives (Telegram.Figures 1 8 5)) 48 5)) × (judge cable 246 192 0x72 0x0d ≡ gives (read (gives (Telegram.Figures 9 2 4)) 264 5))
  -- recorded at the odometers 1000 and 1030
  pub recorded : (record_of_meant 1000 (Judged.Read (Telegram.Figures 1 8 5) 48 5) ≡ gives record_a) × (record_of_meant 1030 (Judged.Read (Telegram.Figures 9 2 4) 264 5) ≡ gives record_b)
  -- and ridden over: no line yet, and at the end of the ride the group's
  pub listed : (text_of ridden.lines ≡ []) × (text_of (end ridden.ride).lines ≡ codes "1000 present signal first\n")
