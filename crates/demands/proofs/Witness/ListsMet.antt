-- The hypotheses on calls of `list` are met, in either style and under any good store: any card of
-- whole records is listed by one call with room for all of it.
-- Assumes nothing.
use Rattle.std.specs.Prelude.{Ok}
use Prim.Native.Nat.{ℕ, ◌+◌, ◌*◌, ◌%◌, ◌≤◌}
use native.Mathlib.Omega.{arith}
use mathlib.Core.Path.{◌≡◌, refl, sym, ap, ◌∙◌}
use mathlib.Core.List.{List, [], ◌∷◌, append-nil}
use lib.ListN.{length, take, replicate, length-replicate, drop_of_length-le}
use lib.Seq.{take-length}
use borrow.Author.Tests.{eq-eqb}
use Rattle.words.specs.Answer.{gives}
use Rattle.words.specs.Limits.{largest64}
use Rattle.text.specs.Put.{placed}
use Rattle.settings.specs.declared.Store.{Store}
use Rattle.settings.specs.At.{gap_at}
use Rattle.ride.specs.declared.Ride.{Ride}
use Rattle.ride.specs.Over.{records}
use Rattle.ride.proofs.Cutting.{records_length}
use Rattle.ride_text.specs.Style.{Style}
use Rattle.ride_text.specs.Told.{Told, tell_over}
use Rattle.ride_text.specs.declared.Listed.{Listed}
use Rattle.ride_text.specs.List.{Listing, room_for, taken, list_of, list_taken}
use Rattle.ride_text.specs.Says.{says_listed}
use Rattle.ride_text.proofs.Judging.{list_taken_law}
use Rattle.ride_text.proofs.Taken.{all_taken}
use Rattle.demands.specs.Output.{records_in}
use Rattle.demands.specs.Stores.{Good}
use Rattle.demands.specs.TraceCalls.{Whole, Call}
use Rattle.demands.specs.ListCalls.{ListCall, ByList}
use Rattle.demands.proofs.Beside.Cards.{eights}
use Rattle.demands.proofs.Witness.CallsMet.{lent, lent_out}

module _ (style : Style) (store : Store) (ride : Ride) (number : ℕ) (card : List ℕ) where
  abbrev rs : List (List ℕ)
  rs = records card

  abbrev told : Told
  told = tell_over style (gap_at store) ride number rs

  -- a buffer with room for each record
  abbrev room : List ℕ
  room = replicate (length rs * room_for style) 0

  -- one call with the whole card
  abbrev pub the_call : Call Listed
  the_call =
      record {
        block = card;
        before = room;
        answer = record { ride = told.ride; number = number + length rs; done = Ok (record { records = length rs; bytes = length told.text }) };
        after = placed told.text room 0;
      }

  abbrev listing_of : ℕ → List (List ℕ) → Listing
  listing_of k first =
      let t : Told = tell_over style (gap_at store) ride number first in
      record { answer = gives (record { records = k; bytes = length t.text }); ride = t.ride; number = number + k; out = placed t.text room 0 }

  all_listed : number + records_in card ≤ largest64 → says_listed the_call.answer the_call.after ≡ list_taken style (gap_at store) ride number rs room
  unfolding list_of
  all_listed small =
      let enough : length rs * room_for style ≤ length room = omega (arith, length-replicate {A = ℕ} (length rs * room_for style) 0) in
      let few : number + length rs ≤ largest64 = omega (arith, small, records_length (records_in card) card) in
      let k : taken style (gap_at store) ride number (length room) rs ≡ length rs = all_taken style (gap_at store) rs ride number (length room) enough few in
      sym (ap (λ (n : ℕ). listing_of n (take n rs)) k ∙ ap (listing_of (length rs)) (take-length rs))

  pub list_met : Good store → Whole card → number + records_in card ≤ largest64 → ByList style store ride number card (the_call ∷ [])
  list_met good whole small =
      let call : ListCall style store (ride, number) the_call = (
        ([], ([], tt)),
        lent card,
        lent_out room,
        (style, (ride, (store, (number, (lent card, (lent_out the_call.after, tt)))))),
        refl,
        refl,
        refl,
        all_listed small ∙ list_taken_law style ride store number card room good (eq-eqb (length card % 8) 0 (eights card whole)),
      ) in
      let behind : length card ≤ length rs * 8 = omega (arith, records_length (records_in card) card, eights card whole) in
      (record { rest = []; front = sym (append-nil card); whole = whole }, call, drop_of_length-le card behind)
