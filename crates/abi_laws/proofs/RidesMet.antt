-- The hypotheses on pieces are met: a ride is begun; and any trace of whole records is listed by
-- one call with room for all of it, where the ride after it reads back from its bytes, as every
-- ride does that `ride_bytes` is handed.
-- Assumes nothing.
use Prim.Native.Nat.{ℕ, ◌+◌, ◌*◌, ◌/◌, ◌%◌, ◌≤◌}
use native.Mathlib.Omega.{arith}
use mathlib.Core.Path.{◌≡◌, refl, sym, ap, ◌∙◌, subst}
use mathlib.Core.Bool.{Bool}
use mathlib.Core.List.{List, [], ◌∷◌, ◌++◌, append-nil}
use lib.IntN.{pos}
use lib.ListN.{length, take, drop, replicate, length-replicate}
use lib.Seq.{take-length, drop-length}
use borrow.Author.Tests.{eq-eqb, le-leb}
use Rattle.words.specs.Answer.{Outcome, gives, refuses, pick}
use Rattle.words.specs.Limits.{largest64}
use Rattle.text.specs.Put.{placed, Put, put}
use Rattle.settings.specs.Store.{versions_of}
use Rattle.settings.specs.At.{held_from, held_at, gap_at}
use Rattle.ride.specs.declared.Ride.{Ride}
use Rattle.ride.specs.State.{no_group, nothing_known, fresh_ride}
use Rattle.ride.specs.Record.{odometer_of, passed_of, in_order_meant, check_record}
use Rattle.ride.specs.Joining.{join, take_up}
use Rattle.ride.specs.Closing.{leave}
use Rattle.ride.specs.Step.{close_behind, missed_lines, after_missed, go_on, treat}
use Rattle.ride.specs.Over.{first_records, records}
use Rattle.ride.proofs.Cutting.{records_length}
use Rattle.ride_text.specs.Style.{Style}
use Rattle.ride_text.specs.Told.{Told, tell_over, end_text}
use Rattle.ride_text.specs.List.{Listing, room_for, taken, list_of}
use Rattle.ride_text.proofs.Judging.{list_taken_law}
use Rattle.ride_text.proofs.Taken.{all_taken}
use Rattle.state_bytes.specs.Figures.{each, byte_of, spread, eight_at, figure_at_meant}
use Rattle.state_bytes.specs.Stores.{store_in}
use Rattle.ride_bytes.specs.Things.{told_of, number_of, linking_of, heard_of}
use Rattle.ride_bytes.specs.Rides.{known_figures, group_figures, ride_bytes, ride_of, ride_in}
use Rattle.abi.specs.Face.{returned, left, itself}
use Rattle.abi.specs.Rides.{style_of, listed, listed_number, listed_put, ride_left, ending}
use Rattle.demands.specs.Stores.{Good}
use Rattle.demands.proofs.Witness.CallsMet.{lent, lent_out}
use Rattle.abi_laws.specs.RideCalls.{RideBegin, RideList, RideEnd, InPieces, none, more}
use Rattle.abi_laws.proofs.SettingsMet.{settings, settings_good}

pub fresh_back : ride_in (ride_bytes fresh_ride) ≡ fresh_ride
unfolding ride_bytes ride_of known_figures group_figures spread each byte_of eight_at figure_at_meant told_of number_of linking_of heard_of fresh_ride no_group nothing_known
fresh_back = refl

pub begin_met : (before : List ℕ) → RideBegin before (pos 0) (ride_bytes fresh_ride)
begin_met before = (([], tt), lent_out before, (lent_out (ride_bytes fresh_ride), tt), refl, refl, (refl, (refl, fresh_back)))

-- A ride ends in a text that has room for its line.
pub end_met : (ride : List ℕ) (style : ℕ) (before : List ℕ) → length (end_text (style_of style) (ride_in ride)) ≤ length before
    → RideEnd ride style before (pos (length (end_text (style_of style) (ride_in ride)))) (placed (end_text (style_of style) (ride_in ride)) before 0)
unfolding ending put
end_met ride style before fits =
    let line : List ℕ = end_text (style_of style) (ride_in ride) in
    let low : 0 + length line ≤ length before = omega arith in
    let said = ap (λ (w : Bool). returned itself (pick {A = Outcome ℕ} w (gives (length line)) (refuses 21))) (le-leb (length line) (length before) fits) in
    let wrote = ap (λ (w : Bool). (pick {A = Put} w (record { next = 0 + length line; buffer = placed line before 0 }) (record { next = 0; buffer = before })).buffer) (le-leb (0 + length line) (length before) low) in
    (([], ([], tt)), lent ride, lent_out before, (lent ride, (style, (lent_out (placed line before 0), tt))), refl, refl, refl, (sym said, sym wrote))

-- Any trace of whole records by one call with room for all of it.
module _ (store ride : List ℕ) (number style : ℕ) (trace : List ℕ) (good : Good (store_in store)) (whole : length trace % 8 ≡ 0) where
  abbrev form : Style
  form = style_of style

  abbrev rs : List (List ℕ)
  rs = records trace

  abbrev told : Told
  told = tell_over form (gap_at (store_in store)) (ride_in ride) number rs

  -- A text with room for all, before and after, and the counts.
  abbrev before : List ℕ
  before = replicate (length rs * room_for form) 0

  abbrev after : List ℕ
  after = placed told.text before 0

  abbrev counts : List ℕ
  counts = length rs ∷ length told.text ∷ []

  abbrev listing_of : ℕ → List (List ℕ) → Listing
  listing_of k first =
      let t : Told = tell_over form (gap_at (store_in store)) (ride_in ride) number first in
      record { answer = gives (record { records = k; bytes = length t.text }); ride = t.ride; number = number + k; out = placed t.text before 0 }

  all_listed : number + length rs ≤ largest64 → listing_of (length rs) rs ≡ listed ride store trace number style before
  unfolding list_of
  all_listed small =
      let room : length rs * room_for form ≤ length before = omega (arith, length-replicate {A = ℕ} (length rs * room_for form) 0) in
      let k : taken form (gap_at (store_in store)) (ride_in ride) number (length before) rs ≡ length rs = all_taken form (gap_at (store_in store)) rs (ride_in ride) number (length before) room small in
      sym (ap (λ (n : ℕ). listing_of n (take n rs)) k ∙ ap (listing_of (length rs)) (take-length rs))
      ∙ list_taken_law form (ride_in ride) (store_in store) number trace before good (eq-eqb (length trace % 8) 0 whole)

  pub pieces_met : number + length rs ≤ largest64 → ride_in (ride_bytes told.ride) ≡ told.ride
      → (text : List ℕ) × InPieces store style ride number trace text (ride_bytes told.ride)
  pieces_met small back =
      let e = all_listed small in
      let moved : List ℕ = ride_bytes told.ride in
      let c : RideList ride store trace number style before (0 ∷ 0 ∷ []) (pos 0) moved after counts = (
        ([], ([], ([], ([], ([], tt))))),
        lent_out ride,
        lent store,
        lent trace,
        lent_out before,
        lent_out (0 ∷ 0 ∷ []),
        (lent_out moved, (lent store, (lent trace, (number, (style, (lent_out after, (lent_out counts, tt))))))),
        refl,
        refl,
        refl,
        refl,
        refl,
        refl,
        refl,
        refl,
        (
          ap (λ (l : Listing). returned listed_number l.answer) e,
          (
            ap (λ (l : Listing). ride_left l ride) e,
            (back ∙ ap (λ (l : Listing). l.ride) e, (ap (λ (l : Listing). l.out) e, ap (λ (l : Listing). left listed_put l.answer (0 ∷ 0 ∷ [])) e)),
          ),
        ),
      ) in
      let long : length rs * 8 ≡ length trace = omega (arith, records_length (length trace / 8) trace) in
      let gone : [] ≡ drop (length rs * 8) trace = sym (ap (λ (n : ℕ). drop n trace) long ∙ drop-length trace) in
      let rest : InPieces store style moved (number + length rs) (drop (length rs * 8) trace) [] moved =
      subst (λ (x : List ℕ). InPieces store style moved (number + length rs) x [] moved) gone none in
      (take (length told.text) after ++ [], more trace [] before (0 ∷ 0 ∷ []) after (length rs) (length told.text) (sym (append-nil trace)) whole c rest)

-- ---- a ride with one record

-- A position at 1000, and the ride after it.
abbrev position : List ℕ
position = 0 ∷ 0 ∷ 3 ∷ 232 ∷ 3 ∷ 0 ∷ 0 ∷ 0 ∷ []

abbrev there : Ride
there = record { odometer = 1000; group = no_group; known = nothing_known }

there_back : ride_in (ride_bytes there) ≡ there
unfolding ride_bytes ride_of known_figures group_figures spread each byte_of eight_at figure_at_meant told_of number_of linking_of heard_of no_group nothing_known
there_back = refl

one_told : (tell_over (style_of 0) (gap_at (store_in settings)) fresh_ride 1 (records position)).ride ≡ there
unfolding tell_over first_records gap_at held_at held_from versions_of store_in each eight_at figure_at_meant fresh_ride no_group nothing_known odometer_of passed_of in_order_meant check_record join take_up close_behind missed_lines after_missed go_on treat leave
one_told = refl

-- So all are met together: a fresh ride, the record listed, and the end.
pub one_met : (text last : List ℕ) × InPieces settings 0 (ride_bytes fresh_ride) 1 position text last
one_met =
    let is : (tell_over (style_of 0) (gap_at (store_in settings)) (ride_in (ride_bytes fresh_ride)) 1 (records position)).ride ≡ there =
    ap (λ (r : Ride). (tell_over (style_of 0) (gap_at (store_in settings)) r 1 (records position)).ride) fresh_back ∙ one_told in
    let met = pieces_met settings (ride_bytes fresh_ride) 1 0 position settings_good refl (omega (arith, records_length (length position / 8) position)) (ap (λ (r : Ride). ride_in (ride_bytes r)) is ∙ there_back ∙ sym is) in
    (met.0, ride_bytes _, met.1)
