-- The limits: with one flip more in forty bits than the pair's equal bit allows, a contact can be
-- read as another telegram; and what may come of a pass within the bound, or without any noise.
-- Assumes nothing.
use Rattle.std.specs.Prelude.{ℕ, suc, ◌-◌, ◌≡◌, get_or}
use Rattle.telegram.specs.declared.Telegram.{Telegram}
use Rattle.balise_line.specs.Line.{OneBalise, Proper}
use Rattle.balise_line.specs.Forty.{EqualBit}
use Rattle.contact.specs.Contacts.{Contacts, contact}
use Rattle.contact.specs.declared.Search.{Search}
use Rattle.contact.specs.declared.Judged.{Judged}
use Rattle.contact_laws.specs.Calls.{Listened, JudgeContact}
use Rattle.noise_laws.specs.Pass.{NoisyPass}
use Rattle.noise_laws.specs.Reading.{allowed}
use Rattle.noise_laws.specs.Lines.{first_line, second_line, third_line, fourth_line, fifth_line, sixth_line, seventh_line, eighth_line, zeroes_line, noisy_line, seven_line, eight_line}

-- Whatever the contract of `judge` allows for the first of the contacts is r.
pub record FirstIs (o : OneBalise) (r : Judged) (w : Contacts) : Type 0 where
  pub start : ℕ
  pub length : ℕ
  pub then : Search
  pub rest : Contacts
  pub is : w ≡ contact start length then rest
  pub answered : (a : Judged) → JudgeContact o.buffer start length o.s o.t a → a ≡ r

-- A balise whose sync words are equal in the bit that is sent as the k-th is passed with at most so
-- many flips in forty bits, and its first contact is answered with r.
pub record Passed (k most : ℕ) (o : OneBalise) (r : Judged) : Type 0 where
  pub from : ℕ
  pub to : ℕ
  pub proper : Proper o
  pub equal_bit : EqualBit o k
  pub pass : NoisyPass most o from to
  pub first : (w : Contacts) → Listened o.buffer from to w → FirstIs o r w

-- With one flip more than is allowed, the balise is read as m, which it did not send.
abbrev pub OneMore : ℕ → OneBalise → Telegram → Type 0
OneMore k o m = (first : ℕ) × (count : ℕ) × Passed k (suc (get_or allowed (k - 1) 0)) o (Judged.Read m first count) × (m ≡ o.telegram → ⊥)

-- No larger table of what is allowed would do: for each of the eight bits, a line.
pub record OneMoreDoesNot : Type 0 where
  pub first_sent : OneMore 1 first_line (Telegram.Figures 8 0 0)
  pub second_sent : OneMore 2 second_line (Telegram.Figures 9 9 9)
  pub third_sent : OneMore 3 third_line (Telegram.Figures 8 2 5)
  pub fourth_sent : OneMore 4 fourth_line (Telegram.Figures 2 8 5)
  pub fifth_sent : OneMore 5 fifth_line (Telegram.Figures 2 8 5)
  pub sixth_sent : OneMore 6 sixth_line (Telegram.Figures 5 13 7)
  pub seventh_sent : OneMore 7 seventh_line (Telegram.Figures 9 9 9)
  pub eighth_sent : OneMore 8 eighth_line (Telegram.Figures 0 0 2)

-- Within what is allowed a balise can be taken for a marker, or be refused; and one that is read
-- reads what was sent.
pub record WithinIt : Type 0 where
  -- 0 0 0 with a sync word 00, without any noise
  pub marker_of_zeroes : Passed 4 0 zeroes_line Judged.Marker
  -- read with two flips in forty bits
  pub noisy_read : (first : ℕ) × (count : ℕ) × Passed 3 2 noisy_line (Judged.Read noisy_line.telegram first count)
  -- refused with 7 because of a place at the end
  pub noisy_seven : Passed 4 3 seven_line Judged.Differ
  -- refused with 8
  pub noisy_eight : Passed 3 2 eight_line Judged.Neither
