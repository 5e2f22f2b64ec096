-- Short leads, computed: quiet frames, with an odometer that falls; and a marker of 64 bits, heard
-- over two frames.
-- Assumes nothing.
use Prim.Native.Nat.{ℕ}
use mathlib.Core.Path.{◌≡◌, refl}
use mathlib.Core.List.{List, [], ◌∷◌, ◌++◌}
use Rattle.telegram.specs.Sync.{differing, is_good, good_pair}
use Rattle.telegram.specs.Place.{are_syncs}
use Rattle.settings.specs.declared.Store.{Store}
use Rattle.settings.specs.Versions.{settings_of, follows}
use Rattle.settings.specs.Store as stores
use Rattle.settings.specs.Store.{no_store_meant, versions_of, opened, begin, all_follow, in_order_meant}
use Rattle.settings.specs.At as at
use Rattle.settings.specs.At.{held_from, asked, hold}
use Rattle.contact.specs.History as history
use Rattle.contact.specs.History.{zeroes_of, zeroes, opens, closes}
use Rattle.antenna.specs.Places.{more, places_after}
use Rattle.antenna.specs.Sound.{begun, with_bit, marker_or, judged}
use Rattle.antenna.specs.Hearing as hearing
use Rattle.antenna.specs.Hearing.{hear}
use Rattle.recording.specs.Frame.{line_of, odometer_of, accepted_after}
use Rattle.recording.specs.Recording.{fresh, over_bits, after_frame_meant, held_at, its_bits, over_frames, last_position, the_end_meant, recorded}

-- The settings 40, 72 and 0D hex.
abbrev store : Store
store = (begin 40 0x72 0x0d).store

-- A frame at a low odometer, of six bytes twice.
abbrev frame : ℕ → ℕ → ℕ → List ℕ
frame odometer a b = 0 ∷ 0 ∷ 0 ∷ odometer ∷ a ∷ a ∷ a ∷ a ∷ a ∷ a ∷ b ∷ b ∷ b ∷ b ∷ b ∷ b ∷ []

-- At 5 the first, at 15 the second, 10 above it; 12 is refused with 17 and stands for 15; 24 is too
-- near, and so the last position at the end.
quiet : recorded store (frame 5 255 255 ++ (frame 15 255 255 ++ (frame 12 255 255 ++ frame 24 255 255)))
    ≡ (0 ∷ 0 ∷ 0 ∷ 5 ∷ 3 ∷ 0 ∷ 0 ∷ 0 ∷ []) ∷ (0 ∷ 0 ∷ 0 ∷ 15 ∷ 3 ∷ 0 ∷ 0 ∷ 0 ∷ []) ∷ (0 ∷ 0 ∷ 0 ∷ 24 ∷ 3 ∷ 0 ∷ 0 ∷ 0 ∷ []) ∷ []
unfolding recorded the_end_meant last_position over_frames its_bits over_bits after_frame_meant held_at hold asked stores.judged in_order_meant all_follow versions_of opened begin no_store_meant settings_of follows good_pair is_good differing held_from at.held_at fresh hearing.fresh hear history.after zeroes_of zeroes opens closes line_of odometer_of accepted_after
quiet = refl

-- 96 zeroes at 5, then ones at 30: the marker is recorded at 5 when it has closed, and after its
-- frame the position.
a_marker : recorded store (frame 5 0 0 ++ frame 30 255 255) ≡ (0 ∷ 0 ∷ 0 ∷ 5 ∷ 1 ∷ 0 ∷ 0 ∷ 0 ∷ []) ∷ (0 ∷ 0 ∷ 0 ∷ 30 ∷ 3 ∷ 0 ∷ 0 ∷ 0 ∷ []) ∷ []
unfolding recorded the_end_meant last_position over_frames its_bits over_bits after_frame_meant held_at hold asked stores.judged in_order_meant all_follow versions_of opened begin no_store_meant settings_of follows good_pair is_good differing held_from at.held_at fresh hearing.fresh hear history.after zeroes_of zeroes opens closes line_of odometer_of accepted_after begun with_bit more places_after marker_or judged are_syncs
a_marker = refl

-- Cut by the lead's end: kind 2 at the odometer of its first bit, then the last position.
cut_off : recorded store (frame 5 255 0 ++ frame 6 0 0) ≡ (0 ∷ 0 ∷ 0 ∷ 5 ∷ 2 ∷ 0 ∷ 0 ∷ 0 ∷ []) ∷ (0 ∷ 0 ∷ 0 ∷ 6 ∷ 3 ∷ 0 ∷ 0 ∷ 0 ∷ []) ∷ []
unfolding recorded the_end_meant last_position over_frames its_bits over_bits after_frame_meant held_at hold asked stores.judged in_order_meant all_follow versions_of opened begin no_store_meant settings_of follows good_pair is_good differing held_from at.held_at fresh hearing.fresh hear history.after zeroes_of zeroes opens closes line_of odometer_of accepted_after begun with_bit more places_after marker_or judged are_syncs
cut_off = refl
