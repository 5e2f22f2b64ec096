-- What a listing comes to.
-- Assumes nothing.
use Rattle.std.specs.Prelude.{Ok}
use Prim.Native.Nat.{ℕ, ◌+◌, ◌*◌, ◌%◌, ◌≤◌}
use native.Mathlib.Omega.{arith}
use native.Mathlib.Nat.{zero-add}
use mathlib.Core.Path.{◌≡◌, refl, sym, ap, ap₂, ◌∙◌, subst}
use mathlib.Core.Bool.{false}
use mathlib.Core.List.{List, ◌++◌}
use lib.Dec.{eqb}
use lib.ListN.{length, take, drop}
use lib.Seq.{take_at, drop_at}
use borrow.Author.Tests.{not-false}
use Rattle.words.specs.Limits.{largest64}
use Rattle.words.proofs.Told.{told}
use Rattle.settings.specs.declared.Store.{Store}
use Rattle.settings.specs.At.{gap_at}
use Rattle.ride.specs.Over.{records, ride_over}
use Rattle.ride.specs.declared.Ride.{Ride}
use Rattle.ride.proofs.Cutting.{records_length}
use Rattle.text.specs.Put.{placed}
use Rattle.ride_text.specs.Style.{plain}
use Rattle.ride_text.specs.Text.{text_of}
use Rattle.ride_text.specs.List.{taken, Listing, list_taken, list}
use Rattle.ride_text.specs.Says.{says_done, says_listed}
use Rattle.ride_text.specs.declared.Listed.{Listed}
use Rattle.ride_text.proofs.Judging.{list_taken_law}
use Rattle.ride_text.proofs.SameLines.{plain_listed}
use Rattle.ride_text.proofs.Taken.{few_taken, one_taken, all_taken}
use Rattle.ride_text.proofs.Determined as listing_is
use Rattle.demands.specs.Table.{bad_length}
use Rattle.demands.specs.ByContract.{ListInto}
use Rattle.demands.specs.Stores.{Good}
use Rattle.demands.specs.Output.{records_in, Takes}

-- A text put at the beginning.
pub at_first : (t before : List ℕ) → placed t before 0 ≡ t ++ drop (length t) before
unfolding placed
at_first t before = ap (λ (k : ℕ). t ++ drop k before) (zero-add (length t))

-- whatever gives the gap
takes_by : (gaps : ℕ → ℕ) (ride : Ride) (number : ℕ) (trace before : List ℕ) (l : Listed) (after : List ℕ)
    → says_listed l after ≡ list_taken plain gaps ride number (records trace) before → Takes gaps ride number trace before l after
takes_by gaps ride number trace before l after listed =
    let n = taken plain gaps ride number (length before) (records trace) in
    let is = listed ∙ plain_listed gaps ride number n (records trace) before in
    let w = text_of (ride_over gaps ride number (take n (records trace))).lines in
    let holds : after ≡ w ++ drop (length w) before = ap (λ (v : Listing). v.out) is ∙ at_first w before in
    let many : length (records trace) ≡ records_in trace = records_length (records_in trace) trace in
    record {
      n = n;
      bytes = length w;
      took = told says_done listing_is.done_of listing_is.done_back l.done (Ok (record { records = n; bytes = length w })) (ap (λ (v : Listing). v.answer) is) refl;
      of_these = subst (λ (k : ℕ). n ≤ k) many (few_taken plain gaps (records trace) ride number (length before));
      one_at_least = λ some room small. one_taken plain gaps (records trace) ride number (length before) (subst (λ (k : ℕ). 1 ≤ k) (sym many) some) room small;
      all_with_room = λ enough small.
          all_taken plain gaps (records trace) ride number (length before) (subst (λ (k : ℕ). k * 128 ≤ length before) (sym many) (omega arith))
          (subst (λ (k : ℕ). number + k ≤ largest64) (sym many) small)
          ∙ many;
      written = ap (take (length w)) holds ∙ take_at w (drop (length w) before) (length w) refl;
      rest_stays = ap (drop (length w)) holds ∙ drop_at w (drop (length w) before) (length w) refl;
      ridden_so = ap (λ (v : Listing). v.ride) is;
      counted_on = ap (λ (v : Listing). v.number) is;
    }

pub takes_so : (ride : Ride) (store : Store) (number : ℕ) (trace before : List ℕ) (l : Listed) (after : List ℕ) → Good store
    → bad_length trace ≡ false → ListInto plain ride store number trace before l after → Takes (gap_at store) ride number trace before l after
unfolding bad_length
takes_so ride store number trace before l after good_store good c =
    takes_by (gap_at store) ride number trace before l after
    (ap (says_listed l) (sym c.6) ∙ c.7 ∙ ap₂ (λ (v w : List ℕ). list plain ride store number v w) c.4 c.5
    ∙ sym (list_taken_law plain ride store number trace before good_store (not-false (eqb (length trace % 8) 0) good)))
