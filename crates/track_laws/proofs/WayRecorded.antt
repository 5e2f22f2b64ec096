-- The lead of the text `0 marker`, recorded with every call in full, and what the whole way says of
-- it.
-- Assumes nothing.
use Prim.Native.Nat.{ℕ}
use mathlib.Core.Path.{◌≡◌, refl}
use mathlib.Core.List.{List, [], ◌∷◌, ◌++◌}
use native.Mathlib.Omega.{arith}
use Rattle.telegram.specs.Sync.{differing, is_good, good_pair}
use Rattle.telegram.specs.Place.{are_syncs}
use Rattle.settings.specs.Versions.{settings_of, follows}
use Rattle.settings.specs.Store as stores
use Rattle.settings.specs.Store.{no_store_meant, versions_of, opened, begin, all_follow, in_order_meant}
use Rattle.settings.specs.At as at
use Rattle.settings.specs.At.{held_from, asked, hold}
use Rattle.contact.specs.History as history
use Rattle.contact.specs.History.{zeroes_of, zeroes, opens, closes}
use Rattle.antenna.specs.Places.{more, places_after}
use Rattle.antenna.specs.Sound.{begun, with_bit, marker_or, judged}
use Rattle.antenna.specs.Hearing.{hear}
use Rattle.std.specs.Prelude.{Some, None}
use Rattle.recording.specs.declared.Tape.{Tape}
use Rattle.recording.specs.Frame.{line_of, odometer_of, accepted_after}
use Rattle.recording.specs.Recording.{fresh, held_at}
use Rattle.recording.specs.Asking.{first_in, first_of, go_on, finish}
use Rattle.recording.specs.Contacts.{without_positions}
use Rattle.recording_laws.specs.Calls.{GoOn, EndOf}
use Rattle.recording_laws.specs.Recorded.{came, used, none, piece, no_more, Recorded}
use Rattle.recording_laws.proofs.HearingMet.{outside_it}
use Rattle.recording_laws.proofs.RecordedMet.{tape, at_first, answer, begins}
use Rattle.trace_text_laws.specs.Texts.{made}
use Rattle.track_laws.proofs.TextMet.{store, pair, throughout}
use Rattle.trace_text_laws.proofs.OneLine.{lent}
use Rattle.track_laws.proofs.WayMet.{lead, marker, tracked_met, sure_met, taken_met}
use Rattle.track_laws.proofs.ByCalls.{the_whole_way}

abbrev position : List ℕ
position = 0 ∷ 0 ∷ 0 ∷ 10 ∷ 3 ∷ 0 ∷ 0 ∷ 0 ∷ []

abbrev closed : Tape
closed = tape (outside_it 4095) 1 0 (Some 0)

abbrev at_end : Tape
at_end = tape (outside_it 65535) 10 0 (Some 10)

marker_comes : GoOn at_first store lead 0 0 (answer closed 1 12 (Some marker))
unfolding go_on first_of first_in held_at hold asked stores.judged in_order_meant all_follow versions_of opened begin no_store_meant settings_of follows good_pair is_good differing held_from at.held_at hear history.after zeroes_of zeroes opens closes line_of odometer_of accepted_after begun with_bit more places_after marker_or judged are_syncs
marker_comes = (([], tt), lent lead, (at_first, (store, (lent lead, (0, (0, tt))))), refl, refl)

position_comes : GoOn closed store lead 1 12 (answer at_end 11 0 (Some position))
unfolding go_on first_of first_in held_at hold asked stores.judged in_order_meant all_follow versions_of opened begin no_store_meant settings_of follows good_pair is_good differing held_from at.held_at hear history.after zeroes_of zeroes opens closes line_of odometer_of accepted_after
position_comes = (([], tt), lent lead, (closed, (store, (lent lead, (1, (12, tt))))), refl, refl)

used_up : GoOn at_end store lead 11 0 (answer at_end 11 0 None)
unfolding go_on first_of
used_up = (([], tt), lent lead, (at_end, (store, (lent lead, (11, (0, tt))))), refl, refl)

no_further : EndOf at_end (record { tape = at_end; came = None })
unfolding finish
no_further = ((at_end, tt), refl)

recorded_met : Recorded store (lead ∷ []) (marker ∷ position ∷ [])
recorded_met =
    record {
      fresh = at_first;
      begins = begins;
      last = at_end;
      before_the_end = marker ∷ position ∷ [];
      through = piece (came _ marker_comes refl (came _ position_comes refl (used _ used_up refl))) none;
      at_the_end = [];
      ends = no_more _ no_further refl;
      all = refl;
    }

pub way_met : (typed : List (List ℕ)) × (made (marker ∷ []) ≡ made typed) × (without_positions (marker ∷ position ∷ []) ≡ without_positions typed)
way_met =
    the_whole_way 1 0x72 0x0d _ (lead ++ []) store (lead ∷ []) (marker ∷ position ∷ []) (made (marker ∷ [])) tracked_met (omega arith) (omega arith) pair sure_met throughout tt refl
    recorded_met taken_met
