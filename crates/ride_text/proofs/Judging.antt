-- What decides a listing first: the settings, then the trace's length.
-- Assumes nothing.
use Prim.Native.Nat.{ℕ, ◌%◌}
use mathlib.Core.Path.{◌≡◌}
use mathlib.Core.Bool.{true, false}
use mathlib.Core.List.{List}
use lib.Dec.{eqb}
use lib.ListN.{length}
use Rattle.words.specs.Answer.{gives, refuses}
use Rattle.settings.specs.declared.Store.{Store}
use Rattle.settings.specs.Versions.{kept}
use Rattle.settings.specs.Store.{judged}
use Rattle.settings.specs.At.{gap_at}
use Rattle.ride.specs.declared.Ride.{Ride}
use Rattle.ride.specs.Over.{records}
use Rattle.ride_text.specs.Style.{Style}
use Rattle.ride_text.specs.List.{list_taken, unlisted, list}

pub list_refused : (style : Style) (ride : Ride) (store : Store) (number : ℕ) (trace out : List ℕ) (n : ℕ) → judged store ≡ refuses n
    → unlisted ride number out n ≡ list style ride store number trace out
unfolding list
list_refused style ride store number trace out n e = rw e

pub list_length : (style : Style) (ride : Ride) (store : Store) (number : ℕ) (trace out : List ℕ) → judged store ≡ gives kept → eqb (length trace % 8) 0 ≡ false
    → unlisted ride number out 16 ≡ list style ride store number trace out
unfolding list
list_length style ride store number trace out e h = rw (e, h)

pub list_taken_law : (style : Style) (ride : Ride) (store : Store) (number : ℕ) (trace out : List ℕ) → judged store ≡ gives kept → eqb (length trace % 8) 0 ≡ true
    → list_taken style (gap_at store) ride number (records trace) out ≡ list style ride store number trace out
unfolding list
list_taken_law style ride store number trace out e h = rw (e, h)
