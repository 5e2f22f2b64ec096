-- A listing in either style refuses as the settings' judgement and document 01's table say, and
-- then leaves everything as it was.
-- Assumes nothing.
use Prim.Native.Nat.{ℕ}
use mathlib.Core.Path.{◌≡◌, refl, sym, ap, ap₂, subst, ◌∙◌}
use mathlib.Core.List.{List}
use Rattle.words.specs.Answer.{Outcome, refuses}
use Rattle.settings.specs.declared.Store.{Store}
use Rattle.settings.specs.At.{gap_at}
use Rattle.ride.specs.declared.Ride.{Ride}
use Rattle.ride.specs.Over.{records}
use Rattle.ride_text.specs.declared.Listed.{Listed}
use Rattle.ride_text.specs.Style.{Style}
use Rattle.ride_text.specs.List.{Taken, Listing, list_of, list_taken, unlisted, list}
use Rattle.ride_text.specs.Says.{says_done, says_listed}
use Rattle.ride_text.proofs.Judging.{list_refused, list_length, list_taken_law}
use Rattle.demands.specs.ByContract.{ListInto}
use Rattle.demands.specs.Rules.{Decided, Given}
use Rattle.demands.specs.Stores.{trace_rules}
use Rattle.demands.proofs.Demand1.JudgedFirst.{JudgedFirst, decided, untouched}

module _ (style : Style) (ride : Ride) (store : Store) (number : ℕ) (trace out : List ℕ) where
  tests : JudgedFirst (λ (l : Listing). l.answer) (unlisted ride number out) store trace
      (list_taken style (gap_at store) ride number (records trace) out) (list style ride store number trace out)
  tests = record {
    bare = λ n. refl;
    refused = list_refused style ride store number trace out;
    short = list_length style ride store number trace out;
    whole = list_taken_law style ride store number trace out;
  }

  pub list_so : Decided Given (trace_rules store trace) (list style ride store number trace out).answer
  unfolding list_of
  list_so = decided tests Given (_, refl)

  pub list_stays : (n : ℕ) → (list style ride store number trace out).answer ≡ refuses n → list style ride store number trace out ≡ unlisted ride number out n
  unfolding list_of
  list_stays n e = untouched tests (_, refl) n e

module _ (style : Style) (ride : Ride) (store : Store) (number : ℕ) (trace before : List ℕ) (r : Listed) (after : List ℕ)
    (c : ListInto style ride store number trace before r after) where
  is : says_listed r after ≡ list style ride store number trace before
  is = ap (says_listed r) (sym c.6) ∙ c.7 ∙ ap₂ (λ (x y : List ℕ). list style ride store number x y) c.4 c.5

  pub list_decided : Decided Given (trace_rules store trace) (says_done r.done)
  list_decided = subst (λ (o : Outcome Taken). Decided Given (trace_rules store trace) o) (sym (ap (λ (l : Listing). l.answer) is)) (list_so style ride store number trace before)

  pub list_left : (n : ℕ) → says_done r.done ≡ refuses n → (r.ride ≡ ride) × (r.number ≡ number) × (after ≡ before)
  list_left n e =
      let stays = is ∙ list_stays style ride store number trace before n (sym (ap (λ (l : Listing). l.answer) is) ∙ e) in
      (ap (λ (l : Listing). l.ride) stays, ap (λ (l : Listing). l.number) stays, ap (λ (l : Listing). l.out) stays)
