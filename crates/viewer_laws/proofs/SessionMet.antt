-- The hypotheses of `Sessions`, `Stopping`, `Lasting` and `Seeking` are met, computed: over four
-- records four forward, two back, afresh, and five forward, the fifth of which is refused with 23;
-- then five back, the fifth of which is refused with 22.
-- Assumes nothing.
use Rattle.std.specs.Prelude.{Ok, Err}
use Rattle.std.proofs.Common.{Some}
use Prim.Native.Nat.{ℕ}
use mathlib.Core.Path.{◌≡◌, refl}
use mathlib.Core.List.{List, [], ◌∷◌}
use lib.ListN.{length}
use denote.Ref.{Bor}
use Rattle.words.specs.Answer.{refuses}
use Rattle.telegram.specs.Sync.{differing, is_good, good_pair}
use Rattle.settings.specs.declared.Store.{Store}
use Rattle.settings.specs.Versions.{settings_of, follows}
use Rattle.settings.specs.Store.{no_store_meant, versions_of, opened as opened_store, begin, all_follow, in_order_meant as versions_in_order, plain, judged}
use Rattle.settings.specs.At.{gap_at}
use Rattle.viewer.specs.declared.NoStep.{NoStep}
use Rattle.viewer.specs.declared.Opened.{Opened}
use Rattle.viewer.specs.declared.Moved.{Moved}
use Rattle.viewer.specs.Stand.{opened, passed, returned}
use Rattle.viewer.specs.Viewing.{start, forward as forward_of, back as back_of}
use Rattle.viewer.specs.Going.{forwards, backs}
use Rattle.viewer.specs.History.{first}
use Rattle.text.specs.Text.{codes, digits, decimal}
use Rattle.ride.specs.State.{no_group, nothing_known, fresh_ride}
use Rattle.ride.specs.Record.{odometer_of, passed_of, in_order_meant, check_record}
use Rattle.ride.specs.Step.{treat}
use Rattle.ride.specs.Over.{first_records}
use Rattle.ride_text.specs.Text.{text_with, lines_text}
use Rattle.viewer_text.specs.Finding.{small, stands_at, stands_before, has}
use Rattle.viewer_text.specs.Seeking.{seek_in, seek}
use Rattle.viewer_text.specs.Screen.{lines_from}
use Rattle.viewer_laws.specs.Session.{StartAt, ForwardsAt, BacksAt, Move, forward, back, afresh, Lead, session, Views}
use Rattle.viewer_laws.proofs.Session.{sessions}
use Rattle.viewer_laws.proofs.Stopping.{stopping}
use Rattle.viewer_laws.specs.Lasting.{LastLines}
use Rattle.viewer_laws.specs.Seeking.{Seeks}
use Rattle.viewer_laws.proofs.Witness.{bytes}

-- a lent trace with these bytes
abbrev lent : List ℕ → Bor (List ℕ)
lent trace = record { ref_ptr = (0, 0); now = trace }

abbrev store : Store
store = plain 40

-- what the calls answer: the contracts' own right sides
abbrev begun : Opened
begun = record { stand = opened store; begun = Ok tt }

abbrev four : Moved
four = record { stand = (forwards 4 bytes (opened store)).stand; steps = 4; ending = Ok tt }

abbrev two : Moved
two = record { stand = (backs 2 four.stand).stand; steps = 2; ending = Ok tt }

abbrev five : Moved
five = record { stand = (forwards 5 bytes (opened store)).stand; steps = 4; ending = Err NoStep.AtEnd }

starts : StartAt store bytes begun
unfolding start opened differing is_good good_pair settings_of follows no_store_meant versions_of opened_store begin all_follow versions_in_order judged
starts = (([], tt), lent bytes, (store, (lent bytes, tt)), refl, refl)

four_met : ForwardsAt bytes (opened store) 4 four
unfolding forwards forward_of passed opened differing is_good good_pair settings_of follows no_store_meant versions_of opened_store begin all_follow versions_in_order judged
four_met = (([], tt), lent bytes, (lent bytes, (opened store, (4, tt))), refl, refl)

two_met : BacksAt four.stand 2 two
unfolding backs back_of forwards forward_of passed returned opened differing is_good good_pair settings_of follows no_store_meant versions_of opened_store begin all_follow versions_in_order judged
two_met = ((four.stand, (2, tt)), refl)

-- back from there
abbrev back_five : Moved
back_five = record { stand = (backs 5 five.stand).stand; steps = 4; ending = Err NoStep.NothingKept }

five_met : ForwardsAt bytes (opened store) 5 five
unfolding forwards forward_of passed opened differing is_good good_pair settings_of follows no_store_meant versions_of opened_store begin all_follow versions_in_order judged
five_met = (([], tt), lent bytes, (lent bytes, (opened store, (5, tt))), refl, refl)

back_five_met : BacksAt five.stand 5 back_five
unfolding backs back_of forwards forward_of passed returned opened differing is_good good_pair settings_of follows no_store_meant versions_of opened_store begin all_follow versions_in_order judged
back_five_met = ((five.stand, (5, tt)), refl)

abbrev moves : List Move
moves = forward 4 ∷ back 2 ∷ afresh ∷ forward 5 ∷ back 5 ∷ []

session_met : Lead bytes moves begun.stand back_five.stand
unfolding backs back_of forwards forward_of passed returned start opened differing is_good good_pair settings_of follows no_store_meant versions_of opened_store begin all_follow versions_in_order judged
session_met = (four, four_met, (two, two_met, (begun, starts, (five, five_met, (back_five, back_five_met, refl)))))

-- so the theorems speak of it
pub viewed : Views store bytes (session (gap_at store) bytes moves first) back_five.stand
viewed = sessions.after_any store bytes begun moves back_five.stand starts refl session_met

pub stopped : ((forward_of bytes five.stand).answer ≡ refuses 23) × ((back_of back_five.stand).answer ≡ refuses 22)
stopped = ((stopping.forwards bytes (opened store) 5 23 five five_met refl).0, (stopping.backs five.stand 5 22 back_five back_five_met refl).0)

-- every text has its last lines
pub lasts : (text : List ℕ) (lines : ℕ) → LastLines text lines (lines_from (length text) lines text)
lasts text lines = (([], tt), lent text, (lent text, (lines, tt)), refl, refl)

-- a malformed record, and a word of its line
abbrev malformed : List ℕ
malformed = 0x00 ∷ 0x00 ∷ 0x03 ∷ 0xE8 ∷ 0x04 ∷ 0x00 ∷ 0x00 ∷ 0x00 ∷ []

pub seeks : Seeks malformed 0 fresh_ride store (codes "Refused") (Some 1)
unfolding seek seek_in has stands_before stands_at small lines_text text_with decimal digits treat check_record odometer_of passed_of in_order_meant first_records fresh_ride no_group nothing_known differing is_good good_pair settings_of follows no_store_meant versions_of opened_store begin all_follow versions_in_order judged
seeks = (([], ([], tt)), lent malformed, lent (codes "Refused"), (lent malformed, (0, (fresh_ride, (store, (lent (codes "Refused"), tt))))), refl, refl, refl)
