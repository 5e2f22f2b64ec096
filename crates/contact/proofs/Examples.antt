-- Small records of document 01's edges, computed by the definitions.
-- Assumes nothing.
use mathlib.Core.Path.{◌≡◌, refl}
use mathlib.Core.Bool.{true, false}
use mathlib.Core.List.{[], ◌∷◌}
use Rattle.words.specs.Answer.{gives, refuses}
use Rattle.telegram.specs.Stretch.{inside}
use Rattle.contact.specs.History.{after, zeroes_of, zeroes, opens, closes}
use Rattle.contact.specs.Judge.{ones_at_end, all_zero, is_marker}
use Rattle.contact.specs.Contacts.{contacts, contacts_from, contact, quiet, no_further, next_contact, from_start}

-- 7 zeroes in sixteen open no contact, 8 do; 5 don't close one, 4 do.
seven : opens 0xff80 ≡ false
unfolding opens zeroes zeroes_of
seven = refl

eight : opens 0xff00 ≡ true
unfolding opens zeroes zeroes_of
eight = refl

five : closes 0xffe0 ≡ false
unfolding closes zeroes zeroes_of
five = refl

four : closes 0xfff0 ≡ true
unfolding closes zeroes zeroes_of
four = refl

-- Seven zeroes on a line of ones: no further contact.
quiet_line : next_contact (0xff ∷ 0x80 ∷ 0xff ∷ 0xff ∷ []) (from_start 0 32) ≡ gives no_further
unfolding next_contact contacts_from contacts from_start inside after opens closes zeroes zeroes_of
quiet_line = refl

-- Eight zeroes, bits 8 to 15: bit 15 opens a contact; bit 27, which brings the zeroes to 4, closes
-- it. It has 12 bits.
one_contact : contacts_from (0xff ∷ 0x00 ∷ 0xff ∷ 0xff ∷ []) (from_start 0 32)
    ≡ contact 15 12 (record { next = 28; left = 4; history = 0x0fff }) quiet
unfolding contacts_from contacts from_start inside after opens closes zeroes zeroes_of
one_contact = refl

-- Two of them: the search goes on with the bit after the closing one.
two_contacts : contacts_from (0xff ∷ 0x00 ∷ 0xff ∷ 0xff ∷ 0x00 ∷ 0xff ∷ 0xff ∷ []) (from_start 0 56)
    ≡ contact 15 12 (record { next = 28; left = 28; history = 0x0fff })
    (contact 39 12 (record { next = 52; left = 4; history = 0x0fff }) quiet)
unfolding contacts_from contacts from_start inside after opens closes zeroes zeroes_of
two_contacts = refl

-- A record that ends before the closing bit.
cut_line : next_contact (0xff ∷ 0x00 ∷ 0xff ∷ 0xff ∷ []) (from_start 0 27) ≡ refuses 9
unfolding next_contact contacts_from contacts from_start inside after opens closes zeroes zeroes_of
cut_line = refl

-- A stretch that ends one bit beyond the buffer.
beyond : next_contact (0xff ∷ []) (from_start 3 6) ≡ refuses 5
unfolding next_contact contacts_from contacts from_start inside after opens closes zeroes zeroes_of
beyond = refl

-- A marker's edges: 63 zeroes are none and 64 are one; so are 64 bits that end with 11 ones, and
-- with 12 they are none.
sixty_three : is_marker (0 ∷ 0 ∷ 0 ∷ 0 ∷ 0 ∷ 0 ∷ 0 ∷ 0 ∷ []) 0 63 ≡ false
unfolding is_marker ones_at_end all_zero
sixty_three = refl

sixty_four : is_marker (0 ∷ 0 ∷ 0 ∷ 0 ∷ 0 ∷ 0 ∷ 0 ∷ 0 ∷ []) 0 64 ≡ true
unfolding is_marker ones_at_end all_zero
sixty_four = refl

eleven_ones : is_marker (0 ∷ 0 ∷ 0 ∷ 0 ∷ 0 ∷ 0 ∷ 0x07 ∷ 0xff ∷ []) 0 64 ≡ true
unfolding is_marker ones_at_end all_zero
eleven_ones = refl

twelve_ones : is_marker (0 ∷ 0 ∷ 0 ∷ 0 ∷ 0 ∷ 0 ∷ 0x0f ∷ 0xff ∷ []) 0 64 ≡ false
unfolding is_marker ones_at_end all_zero
twelve_ones = refl
