-- The hypotheses of the laws on rides under a store are met: a store of one version is opened with
-- a pair that is not 00 and 7F; one of two versions is good, and document 01's ride, cut after its
-- first record, is ridden and listed under it card by card.
-- Assumes nothing.
use Prim.Native.Nat.{ℕ, ◌%◌}
use native.Mathlib.Omega.{arith}
use mathlib.Core.Path.{◌≡◌, refl}
use mathlib.Core.Bool.{false}
use mathlib.Core.List.{List, [], ◌∷◌}
use lib.Dec.{eqb}
use lib.ListN.{length}
use borrow.Author.Tests.{not-false}
use Rattle.telegram.specs.Sync.{differing, is_good, good_pair}
use Rattle.settings.specs.declared.Begun.{Begun}
use Rattle.settings.specs.declared.Store.{Store}
use Rattle.std.specs.Prelude.{Ok}
use Rattle.settings.specs.Versions.{settings_of, follows}
use Rattle.settings.specs.Store.{no_store_meant, versions_of, first_of, opened, begin, with_one, all_follow, in_order_meant, judged}
use Rattle.settings.specs.At.{held_from, held_at, gap_at}
use Rattle.ride.specs.declared.Ran.{Ran}
use Rattle.ride.specs.declared.Ride.{Ride}
use Rattle.ride.specs.State.{fresh_ride}
use Rattle.ride.specs.Over.{records, ride_over}
use Rattle.ride.proofs.Under.{run_through}
use Rattle.ride_text.specs.Style.{plain}
use Rattle.ride_text.specs.declared.Listed.{Listed}
use Rattle.demands.specs.Table.{bad_length, not_seven}
use Rattle.demands.specs.Output.{Forty}
use Rattle.demands.specs.PlainGap.{Opened}
use Rattle.demands.specs.Sections.{Whole, Call, ByList, after_calls}
use Rattle.demands.specs.ByContract.{RunOver}
use Rattle.demands.specs.Stores.{BeginStore, Good}
use Rattle.demands.proofs.Witness.CallsMet.{lent}
use Rattle.demands.proofs.Witness.ListsMet.{the_call, list_met}
use Rattle.demands.proofs.Witness.SectionsMet.{first_card, second_card, whole_met}

-- ---- any card under any good store

module _ (store : Store) (ride : Ride) (card : List ℕ) (good : Good store) (whole : Whole card) where
  abbrev pub under_ran : Ran
  under_ran = record { ride = (ride_over (gap_at store) ride 1 (records card)).ride; way = Ok tt }

  pub ran_met : RunOver ride store card under_ran
  unfolding bad_length
  ran_met = (
    ([], tt),
    lent card,
    (ride, (store, (lent card, tt))),
    refl,
    run_through ride store card good (not-false (eqb (length card % 8) 0) whole),
  )

-- ---- one version, and two

abbrev one : Begun
one = record { store = opened (first_of 40 0x01 0x7E); verdict = Ok tt }

opened_met : (not_seven 0x01 0x7E ≡ false) × BeginStore 40 0x01 0x7E one
unfolding not_seven begin settings_of good_pair is_good differing
opened_met = (refl, ((40, (0x01, (0x7E, tt))), refl))

-- the gap 40, and from the second balise of document 01's ride on 20
abbrev two : Store
two = with_one one.store (record { place = 1030; gap = 20; s = 0x00; t = 0x7F })

two_good : Good two
unfolding judged versions_of with_one opened no_store_meant in_order_meant all_follow follows settings_of good_pair is_good differing
two_good = refl

two_gaps : (gap_at two 1029 ≡ 40) × (gap_at two 1030 ≡ 20)
unfolding gap_at held_at held_from versions_of with_one opened no_store_meant
two_gaps = (refl, refl)

-- the program's gap, and a plain gap
forty_met : Forty one.store
forty_met = record { s = 0x01; t = 0x7E; begun = one; pair = opened_met.0; opened = opened_met.1; is = refl }

plain_met : Opened 40 one
plain_met = record { s = 0x01; t = 0x7E; pair = opened_met.0; begun = opened_met.1 }

-- ---- its cards

abbrev first_call : Call Listed
first_call = the_call plain two fresh_ride 1 first_card

abbrev second_call : Call Listed
second_call = the_call plain two first_call.answer.ride 2 second_card

cards_met : ByList plain two fresh_ride 1 first_card (first_call ∷ []) × ByList plain two (after_calls fresh_ride (first_call ∷ [])) 2 second_card (second_call ∷ [])
cards_met = (
  list_met plain two fresh_ride 1 first_card two_good whole_met.0 (omega arith),
  list_met plain two first_call.answer.ride 2 second_card two_good whole_met.1 (omega arith),
)

abbrev first_ran : Ran
first_ran = under_ran two fresh_ride first_card two_good whole_met.0

runs_met : RunOver fresh_ride two first_card first_ran
    × RunOver first_ran.ride two second_card (under_ran two first_ran.ride second_card two_good whole_met.1)
runs_met = (ran_met two fresh_ride first_card two_good whole_met.0, ran_met two first_ran.ride second_card two_good whole_met.1)
