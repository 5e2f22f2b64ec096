-- A lead of two frames, a marker and then ones, recorded in two pieces with every call in full: the
-- hypotheses are met.
-- Assumes nothing.
use Prim.Native.Nat.{ℕ}
use mathlib.Core.Path.{refl}
use mathlib.Core.Bool.{true}
use mathlib.Core.List.{List, [], ◌∷◌}
use Rattle.telegram.specs.Sync.{differing, is_good, good_pair}
use Rattle.telegram.specs.Place.{are_syncs}
use Rattle.settings.specs.declared.Store.{Store}
use Rattle.settings.specs.Versions.{settings_of, follows}
use Rattle.settings.specs.Store as stores
use Rattle.settings.specs.Store.{no_store_meant, versions_of, opened, begin, all_follow, in_order_meant}
use Rattle.settings.specs.At as at
use Rattle.settings.specs.At.{held_from, asked, hold}
use Rattle.contact.specs.History as history
use Rattle.contact.specs.History.{zeroes_of, zeroes, opens, closes}
use Rattle.antenna.specs.declared.Places.{Places}
use Rattle.antenna.specs.declared.Stand.{Stand}
use Rattle.antenna.specs.declared.Ear.{Ear}
use Rattle.antenna.specs.Places.{more, places_after}
use Rattle.antenna.specs.Sound.{begun, with_bit, marker_or, judged}
use Rattle.antenna.specs.Hearing as hearing
use Rattle.antenna.specs.Hearing.{hear}
use Rattle.std.specs.Prelude.{Option, Some, None}
use Rattle.recording.specs.declared.Tape.{Tape}
use Rattle.recording.specs.declared.Taken.{Taken}
use Rattle.recording.specs.Frame.{line_of, odometer_of, accepted_after}
use Rattle.recording.specs.Recording.{fresh, held_at}
use Rattle.recording.specs.Asking.{first_in, first_of, go_on, finish}
use Rattle.demands.proofs.Witness.CallsMet.{lent}
use Rattle.recording_laws.specs.Calls.{FreshTape, GoOn, EndOf}
use Rattle.recording_laws.specs.Recorded.{came, used, none, piece, no_more, WholeFrames, Recorded}
use Rattle.recording_laws.proofs.HearingMet.{outside_it}

-- The settings 40, 72 and 0D hex.
abbrev pub store : Store
store = (begin 40 0x72 0x0d).store

-- 96 zeroes at odometer 5, 96 ones at 30.
abbrev frame : ℕ → ℕ → List ℕ
frame odometer a = 0 ∷ 0 ∷ 0 ∷ odometer ∷ a ∷ a ∷ a ∷ a ∷ a ∷ a ∷ a ∷ a ∷ a ∷ a ∷ a ∷ a ∷ []

-- A tape with these fields.
abbrev pub tape : Ear → ℕ → ℕ → Option ℕ → Tape
tape ear odometer opened last = record { ear = ear; odometer = odometer; opened = opened; last = last }

-- The fresh tape.
abbrev pub at_first : Tape
at_first = tape (outside_it 65535) 0 0 None

-- Inside the contact, which has the bits of the first frame from its eighth on.
abbrev between_them : Tape
between_them =
    tape (record { history = 0; stand = Stand.Inside (record { s = 0x72; t = 0x0d; length = 89; forty = 0; ones = 0; plain = true; places = Places.NoPlace }) }) 5 5 None

abbrev closed : Tape
closed = tape (outside_it 4095) 30 5 (Some 5)

abbrev positioned : Tape
positioned = tape (outside_it 65535) 30 5 (Some 30)

abbrev of_marker : List ℕ
of_marker = 0 ∷ 0 ∷ 0 ∷ 5 ∷ 1 ∷ 0 ∷ 0 ∷ 0 ∷ []

abbrev of_position : List ℕ
of_position = 0 ∷ 0 ∷ 0 ∷ 30 ∷ 3 ∷ 0 ∷ 0 ∷ 0 ∷ []

-- An answer with these fields.
abbrev pub answer : Tape → ℕ → ℕ → Option (List ℕ) → Taken
answer next k i what = record { tape = next; frame = k; bit = i; came = what }

-- A recording begins with it.
pub begins : FreshTape at_first
unfolding fresh hearing.fresh
begins = (tt, refl)

first_frame : GoOn at_first store (frame 5 0) 0 0 (answer between_them 1 0 None)
unfolding go_on first_of first_in held_at hold asked stores.judged in_order_meant all_follow versions_of opened begin no_store_meant settings_of follows good_pair is_good differing held_from at.held_at hear history.after zeroes_of zeroes opens closes line_of odometer_of accepted_after begun with_bit more places_after marker_or judged are_syncs
first_frame = (([], tt), lent (frame 5 0), (at_first, (store, (lent (frame 5 0), (0, (0, tt))))), refl, refl)

closing : GoOn between_them store (frame 30 255) 0 0 (answer closed 0 12 (Some of_marker))
unfolding go_on first_of first_in held_at hold asked stores.judged in_order_meant all_follow versions_of opened begin no_store_meant settings_of follows good_pair is_good differing held_from at.held_at hear history.after zeroes_of zeroes opens closes line_of odometer_of accepted_after begun with_bit more places_after marker_or judged are_syncs
closing = (([], tt), lent (frame 30 255), (between_them, (store, (lent (frame 30 255), (0, (0, tt))))), refl, refl)

position : GoOn closed store (frame 30 255) 0 12 (answer positioned 1 0 (Some of_position))
unfolding go_on first_of first_in held_at hold asked stores.judged in_order_meant all_follow versions_of opened begin no_store_meant settings_of follows good_pair is_good differing held_from at.held_at hear history.after zeroes_of zeroes opens closes line_of odometer_of accepted_after
position = (([], tt), lent (frame 30 255), (closed, (store, (lent (frame 30 255), (0, (12, tt))))), refl, refl)

used_up : GoOn positioned store (frame 30 255) 1 0 (answer positioned 1 0 None)
unfolding go_on first_of
used_up = (([], tt), lent (frame 30 255), (positioned, (store, (lent (frame 30 255), (1, (0, tt))))), refl, refl)

no_further : EndOf positioned (record { tape = positioned; came = None })
unfolding finish
no_further = ((positioned, tt), refl)

pub whole_met : WholeFrames (frame 5 0 ∷ frame 30 255 ∷ [])
whole_met = (refl, tt)

pub recorded_met : Recorded store (frame 5 0 ∷ frame 30 255 ∷ []) (of_marker ∷ of_position ∷ [])
recorded_met =
    record {
      fresh = at_first;
      begins = begins;
      last = positioned;
      before_the_end = of_marker ∷ of_position ∷ [];
      through = piece (used _ first_frame refl) (piece (came _ closing refl (came _ position refl (used _ used_up refl))) none);
      at_the_end = [];
      ends = no_more _ no_further refl;
      all = refl;
    }
