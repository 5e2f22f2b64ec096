-- `atc2_ride_list` lists with the ride and the settings that the bytes hold, and leaves the ride
-- after it; refused, all stays.
-- Assumes nothing.
use mathlib.Core.Path.{◌≡◌, refl, sym, ap, ap₂, ◌∙◌}
use Rattle.settings.specs.declared.Store.{Store}
use Rattle.settings.specs.Says.{says_bad}
use Rattle.ride.specs.declared.Ride.{Ride}
use Rattle.ride_text.specs.Style.{Style}
use Rattle.ride_text.specs.List.{Listing, list}
use Rattle.ride_text.specs.declared.Took.{Took}
use Rattle.ride.specs.declared.TraceRefused.{TraceRefused}
use Rattle.std.specs.Prelude.{Result, Err}
use Rattle.ride_text.specs.Says.{says_done, says_listed}
use Rattle.ride_bytes.specs.Rides.{ride_in}
use Rattle.abi.specs.Rides.{style_of, listed}
use Rattle.abi.proofs.Minus.{back}
use Rattle.abi.proofs.Listed.{took, untaken}
use Rattle.abi.proofs.rides.atc2_ride_list.Goals.{After-list-listed}
use Rattle.abi.proofs.rides.atc2_ride_list.Goals as goal

-- What is specified.
all : After-list-listed → Listing
all w =
    let a = w.args in
    listed a.state.now a.store.now a.trace.now a.number a.style a.text.now

-- What `list` came to.
came : (w : After-list-listed) → says_listed w.list-listed.result w.list-listed.new.out ≡ all w
unfolding all
came w =
    let a = w.args in
    w.list-listed.ensures
    ∙ ap₂ (λ (s : Style) (r : Ride). list s r w.store_in-versions.result a.number a.trace.now a.text.now) w.with_reasons-reasons.ensures w.ride_in-held.ensures
    ∙ ap (λ (v : Store). list (style_of a.style) (ride_in a.state.now) v a.number a.trace.now a.text.now) w.store_in-versions.ensures

-- Its answer, by the case at hand.
went : (w : After-list-listed) {d : Result Took TraceRefused} → w.list-listed.result.done ≡ d → says_done d ≡ (all w).answer
went w e = ap says_done (sym e) ∙ ap (λ (x : Listing). x.answer) (came w)

pub returns-in-Ok : goal.returns-in-Ok
unfolding all
returns-in-Ok c =
    let a = c.args in
    let both = took a.state.now a.store.now a.trace.now a.number a.style a.text.now a.out.now
    (record { records = c.in-Ok.took.records; bytes = c.in-Ok.took.bytes }) c.list-listed.result.ride c.ride_bytes-made.result c.list-listed.new.out
    (went (goal.at-returns-in-Ok c).After-list-listed c.in-Ok.is) (ap (λ (x : Listing). x.ride) (came (goal.at-returns-in-Ok c).After-list-listed)) (ap (λ (x : Listing). x.out) (came (goal.at-returns-in-Ok c).After-list-listed)) c.ride_bytes-made.ensures.value c.ride_bytes-made.ensures.result_value in
    record { value = both.0; state_after = both.1.0; state_after_2 = both.1.1.0; text_after = both.1.1.1.0; out_after = both.1.1.1.1 }

pub returns-in-Err-Settings : goal.returns-in-Err-Settings
unfolding all
returns-in-Err-Settings c =
    let a = c.args in
    let both = untaken a.state.now a.store.now a.trace.now a.number a.style a.text.now a.out.now
    (says_bad c.in-Err-Settings.bad) _ c.list-listed.new.out (went (goal.at-returns-in-Err-Settings c).After-list-listed (c.in-Err-Settings.is ∙ ap Err (rw c.in-Err-Settings.is at c.in-Err-Settings.field-0-is))) (back c.of_settings.result (says_bad c.in-Err-Settings.bad) c.of_settings.ensures.0 c.of_settings.ensures.1) (ap (λ (x : Listing). x.out) (came (goal.at-returns-in-Err-Settings c).After-list-listed)) in
    record { value = both.0; state_after = both.1.0; state_after_2 = both.1.1.0; text_after = both.1.1.1.0; out_after = both.1.1.1.1 }

pub returns-in-Err-Length : goal.returns-in-Err-Length
unfolding all
returns-in-Err-Length c =
    let a = c.args in
    let both = untaken a.state.now a.store.now a.trace.now a.number a.style a.text.now a.out.now
    16 _ c.list-listed.new.out (went (goal.at-returns-in-Err-Length c).After-list-listed (c.in-Err-Length.is ∙ ap Err (rw c.in-Err-Length.is at c.in-Err-Length.field-0-is))) refl (ap (λ (x : Listing). x.out) (came (goal.at-returns-in-Err-Length c).After-list-listed)) in
    record { value = both.0; state_after = both.1.0; state_after_2 = both.1.1.0; text_after = both.1.1.1.0; out_after = both.1.1.1.1 }
