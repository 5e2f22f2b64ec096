-- Worked cases of document 01, computed.
-- Assumes nothing.
use mathlib.Core.Path.{◌≡◌, refl}
use mathlib.Core.List.{[], ◌∷◌}
use Rattle.words.specs.Answer.{gives, refuses}
use Rattle.group.specs.declared.Heard.{Heard}
use Rattle.group.specs.declared.Balise.{Balise}
use Rattle.group.specs.declared.Group.{Group}
use Rattle.group.specs.declared.Number.{Number}
use Rattle.group.specs.declared.Told.{Told}
use Rattle.ride.specs.declared.Linking.{Linking}
use Rattle.ride.specs.declared.Known.{Known}
use Rattle.ride.specs.declared.Mark.{Mark}
use Rattle.ride.specs.declared.Line.{Line}
use Rattle.ride.specs.declared.Passed.{Passed}
use Rattle.ride.specs.declared.Ride.{Ride}
use Rattle.ride.specs.State.{no_balise, no_group, nothing_known}
use Rattle.ride.specs.Record.{odometer_of, passed_of, in_order_meant, check_record}
use Rattle.ride.specs.Joining.{join, take_up}
use Rattle.ride.specs.Linking.{mark_at, mark_of}
use Rattle.ride.specs.Closing.{leave}
use Rattle.ride.specs.Step.{close_behind, missed_lines, after_missed, go_on, treat, step}

-- ---- the record check

-- document 01's first record
first_record : check_record 0 (0x00 ∷ 0x00 ∷ 0x03 ∷ 0xE8 ∷ 0 ∷ 0x17 ∷ 0x8E ∷ 0x5A ∷ []) ≡ gives (record { odometer = 1000; passed = Passed.Balise (Heard.Words 0x17 0x8E 0x5A) })
unfolding check_record in_order_meant odometer_of passed_of
first_record = refl

-- 4,000,000,000 is accepted, one more is 18
highest : check_record 0 (0xEE ∷ 0x6B ∷ 0x28 ∷ 0x00 ∷ 3 ∷ 0 ∷ 0 ∷ 0 ∷ []) ≡ gives (record { odometer = 4000000000; passed = Passed.Position })
unfolding check_record in_order_meant odometer_of passed_of
highest = refl

too_high : check_record 0 (0xEE ∷ 0x6B ∷ 0x28 ∷ 0x01 ∷ 3 ∷ 0 ∷ 0 ∷ 0 ∷ []) ≡ refuses 18
unfolding check_record in_order_meant odometer_of passed_of
too_high = refl

-- at the last accepted odometer it is accepted, 1 dm below it is 17
again : check_record 1000 (0x00 ∷ 0x00 ∷ 0x03 ∷ 0xE8 ∷ 1 ∷ 0 ∷ 0 ∷ 0 ∷ []) ≡ gives (record { odometer = 1000; passed = Passed.Balise Heard.Marker })
unfolding check_record in_order_meant odometer_of passed_of
again = refl

below : check_record 1001 (0x00 ∷ 0x00 ∷ 0x03 ∷ 0xE8 ∷ 2 ∷ 0 ∷ 0 ∷ 0 ∷ []) ≡ refuses 17
unfolding check_record in_order_meant odometer_of passed_of
below = refl

-- kind 4 is 16; so is a marker with a word; 16 comes before 18, and 18 before 17
kind_four : check_record 0 (0x00 ∷ 0x00 ∷ 0x03 ∷ 0xE8 ∷ 4 ∷ 0 ∷ 0 ∷ 0 ∷ []) ≡ refuses 16
unfolding check_record in_order_meant odometer_of passed_of
kind_four = refl

marker_with_word : check_record 4294967295 (0xFF ∷ 0xFF ∷ 0xFF ∷ 0xFE ∷ 1 ∷ 0 ∷ 0 ∷ 1 ∷ []) ≡ refuses 16
unfolding check_record in_order_meant odometer_of passed_of
marker_with_word = refl

high_before_low : check_record 4294967295 (0xFF ∷ 0xFF ∷ 0xFF ∷ 0xFE ∷ 1 ∷ 0 ∷ 0 ∷ 0 ∷ []) ≡ refuses 18
unfolding check_record in_order_meant odometer_of passed_of
high_before_low = refl

-- ---- the gap, from the last balise

-- a group of one marker at 1000, with a position record at 1030 after it
abbrev one : Group
one = record { kept = record { place = 1000; heard = Heard.Marker } ∷ no_balise ∷ no_balise ∷ no_balise ∷ no_balise ∷ []; count = 1; last = 1000 }

abbrev underway : Ride
underway = record { odometer = 1030; group = one; known = nothing_known }

-- at the gap, 40, the next balise joins
at_the_gap : (step underway 40 (0x00 ∷ 0x00 ∷ 0x04 ∷ 0x10 ∷ 1 ∷ 0 ∷ 0 ∷ 0 ∷ [])).ride.group
    ≡ record {
      kept = record { place = 1000; heard = Heard.Marker } ∷ record { place = 1040; heard = Heard.Marker } ∷ no_balise ∷ no_balise ∷ no_balise ∷ [];
      count = 2;
      last = 1040;
    }
unfolding step treat go_on check_record in_order_meant odometer_of passed_of close_behind leave take_up join
at_the_gap = refl

-- 1 dm past it the group closes, and another opens
past_the_gap : (step underway 40 (0x00 ∷ 0x00 ∷ 0x04 ∷ 0x11 ∷ 1 ∷ 0 ∷ 0 ∷ 0 ∷ [])).closed ≡ one
unfolding step treat go_on check_record in_order_meant odometer_of passed_of close_behind Rattle.ride.specs.Closing.close
past_the_gap = refl

-- a gap of 0 or 201 is 19
gap_none : (step underway 0 (0x00 ∷ 0x00 ∷ 0x04 ∷ 0x10 ∷ 4 ∷ 0 ∷ 0 ∷ 0 ∷ [])).lines ≡ refuses 19
unfolding step
gap_none = refl

gap_wide : (step underway 201 (0x00 ∷ 0x00 ∷ 0x04 ∷ 0x10 ∷ 4 ∷ 0 ∷ 0 ∷ 0 ∷ [])).lines ≡ refuses 19
unfolding step
gap_wide = refl

-- ---- linking with distance 4000 from place 1000

abbrev linked : Known
linked = record { linking = Linking.Set 4000 1000; main = Told.Kmh 130; target = Told.Kmh 80; number = Number.Figure 1612 }

-- 5t equal to 4D and to 6D, and 1 dm off
mark_4199 : mark_of linked.linking 4199 ≡ Mark.Early
unfolding mark_at
mark_4199 = refl

mark_4200 : mark_of linked.linking 4200 ≡ Mark.Good
unfolding mark_at
mark_4200 = refl

mark_5800 : mark_of linked.linking 5800 ≡ Mark.Good
unfolding mark_at
mark_5800 = refl

mark_5801 : mark_of linked.linking 5801 ≡ Mark.Late
unfolding mark_at
mark_5801 = refl

-- missed past 5800, at 5800, and the speeds and the number stay
not_missed : missed_lines 5800 no_group linked ≡ []
unfolding missed_lines no_group
not_missed = refl

missed : missed_lines 5801 no_group linked ≡ Line.Missed 5800 ∷ []
unfolding missed_lines no_group
missed = refl

after : after_missed 5801 no_group linked ≡ record { linking = Linking.Unset; main = Told.Kmh 130; target = Told.Kmh 80; number = Number.Figure 1612 }
unfolding after_missed no_group
after = refl

-- while a group is open nothing is missed
while_open : missed_lines 9000 one linked ≡ []
unfolding missed_lines
while_open = refl
