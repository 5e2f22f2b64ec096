-- What of one balise is sure to be heard (document 01, "Contacts and readings"), and what cannot
-- be.
-- Assumes nothing.
use Rattle.std.specs.Prelude.{ℕ, ◌+◌, ◌-◌, ◌%◌, ◌≤◌, ◌<◌, ◌≡◌, ◌⊎◌, Bool, true, false, eqb}
use Rattle.telegram.specs.Place.{is_place}
use Rattle.telegram.specs.declared.Telegram.{Telegram}
use Rattle.balise_line.specs.Line.{OneBalise, Proper, line_bit}
use Rattle.contact.specs.Contacts.{Contacts, contact, quiet, refused}
use Rattle.contact.specs.declared.Search.{Search}
use Rattle.contact.specs.declared.Judged.{Judged}
use Rattle.contact_laws.specs.Calls.{Listened, JudgeContact}
use Rattle.contact_laws.specs.Zeroes.{zeroes_sent, Audible, Broken}
use Rattle.contact_laws.specs.Pass.{Pass, cut_bits}

-- How many bits over the antenna always suffice.
abbrev pub enough : ℕ
enough = 167

-- The first of the contacts w is the balise's: it begins with one of the first 48 bits after the
-- cut telegram's, or before, and ends with at most eleven of the ones after the balise.
pub record OverIt (o : OneBalise) (w : Contacts) : Type 0 where
  pub skipped : ℕ
  pub skipped_low : skipped ≤ cut_bits o + 47
  pub ones_in : ℕ
  pub ones_low : ones_in ≤ 11
  pub then : Search
  pub rest : Contacts
  pub is : w ≡ contact (o.start + skipped) (o.len + ones_in - skipped) then rest

-- Read: whatever the contract of `judge` allows as the answer for this contact is a reading of the
-- telegram sent.
abbrev pub IsRead : (o : OneBalise) (w : Contacts) → OverIt o w → Type 0
IsRead o w c =
    (a : Judged) → JudgeContact o.buffer (o.start + c.skipped) (o.len + c.ones_in - c.skipped) o.s o.t a
    → (first : ℕ) × (count : ℕ) × (a ≡ Judged.Read o.telegram first count)

-- No false place: every place that ends in some of the ones after the balise, at most eleven,
-- begins where a telegram of it begins.
abbrev pub NoFalse : OneBalise → Type 0
NoFalse o =
    (p : ℕ) → o.start ≤ p → o.start + o.len < p + 40 → is_place o.buffer o.start (o.len + 11) o.s o.t p ≡ true
    → line_bit o p % 32 ≡ 0

-- Whether a sync word ends in four ones.
unfoldable pub ends_in_four_ones : ℕ → Bool
ends_in_four_ones w = eqb (w % 16) 15

-- Each of the contacts is shorter than 64 bits, begins over the balise, and ends with at most
-- eleven of the ones after it.
abbrev pub AllShort : OneBalise → Contacts → Type 0
AllShort o (contact start length then rest) =
    (length ≤ 63) × (o.start ≤ start) × (start + length ≤ o.start + o.len + 11) × AllShort o rest
AllShort o quiet = Unit
AllShort o (refused n) = Unit

-- None of the contacts is read, whatever the contract of `judge` allows.
abbrev pub NeverRead : OneBalise → Contacts → Type 0
NeverRead o (contact start length then rest) =
    ((a : Judged) → JudgeContact o.buffer start length o.s o.t a → (m : Telegram) (first count : ℕ) → a ≡ Judged.Read m first count → ⊥)
    × NeverRead o rest
NeverRead o quiet = Unit
NeverRead o (refused n) = Unit

pub record SureToBeHeard : Type 0 where
  -- Of an audible balise that is over the antenna for 48 bits after the cut telegram's exactly one
  -- contact opens, and it closes.
  pub one_contact : (o : OneBalise) → Proper o → Audible o → (from to : ℕ) → Pass o from to → cut_bits o + 48 ≤ o.len
      → (w : Contacts) → Listened o.buffer from to w → (c : OverIt o w) × (c.rest ≡ quiet)
  -- From 167 bits on it is read, unless a place that ends in the quiet ones is false,
  pub is_read : (o : OneBalise) → Proper o → Audible o → (from to : ℕ) → Pass o from to → enough ≤ o.len → NoFalse o
      → (w : Contacts) → Listened o.buffer from to w → (c : OverIt o w) × (c.rest ≡ quiet) × IsRead o w c
  -- and none is where no sync word ends in four ones.
  pub no_false : (o : OneBalise) → Proper o → (from to : ℕ) → Pass o from to → ends_in_four_ones o.s ≡ false → ends_in_four_ones o.t ≡ false → NoFalse o
  -- No balise is silent: some sixteen bits of its line have eight zeroes. So every balise is
  -- audible or broken.
  pub none_silent : (o : OneBalise) → Proper o → (j : ℕ) × (8 ≤ zeroes_sent o j 16)
  pub one_or_other : (o : OneBalise) → Audible o ⊎ Broken o
  -- Of a broken one every contact has at most 63 bits, and none is read where no place is false.
  pub broken_short : (o : OneBalise) → Broken o → (from to : ℕ) → Pass o from to
      → (w : Contacts) → Listened o.buffer from to w → AllShort o w
  pub broken_never : (o : OneBalise) → Proper o → Broken o → (from to : ℕ) → Pass o from to → NoFalse o
      → (w : Contacts) → Listened o.buffer from to w → NeverRead o w
