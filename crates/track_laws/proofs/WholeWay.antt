-- The law of the whole way holds.
-- Assumes nothing.
use Prim.Native.Nat.{ℕ, ◌+◌, ◌-◌, ◌*◌, ◌/◌, ◌^◌, ◌≤◌, ◌<◌}
use mathlib.Core.Path.{◌≡◌, refl, ap, ap₂, ◌∙◌, subst}
use mathlib.Core.Bool.{false}
use mathlib.Core.List.{List, [], ◌∷◌, ◌++◌, append-nil}
use native.Mathlib.Omega.{arith}
use native.Mathlib.Nat.{mul-le-mul_right, mul_comm, div-lt_iff_lt-mul}
use Rattle.words.specs.Answer.{gives}
use Rattle.words.proofs.Never.{cannot_be}
use Rattle.settings.specs.declared.Store.{Store}
use Rattle.contact.specs.History.{sixteen_ones}
use Rattle.contact.specs.Contacts.{outside, contacts}
use Rattle.contact_laws.proofs.Over.{ones_still}
use Rattle.antenna.specs.declared.Stand.{Stand}
use Rattle.antenna.specs.Hearing as hearing
use Rattle.antenna.specs.Line.{after, judged_all, cut, is_inside}
use Rattle.recording.specs.Recording.{recorded, frames_of}
use Rattle.recording.specs.Contacts.{line_in, s_in, t_in, records_for, cut_at, without_positions, bits_of}
use Rattle.recording.specs.Document.{whole_line}
use Rattle.recording.proofs.Contacts.{one_each}
use Rattle.recording.proofs.Document.{the_contacts}
use Rattle.track_lead.specs.declared.Thing.{Thing}
use Rattle.track_lead.specs.declared.TrackWay.{TrackWay}
use Rattle.track_lead.specs.Way.{highest, from, until, fresh}
use Rattle.track_lead.specs.Sent.{sends}
use Rattle.track_lead.specs.Lead.{Item, way_from, way_of, nothing, odometer_at, frames_at, lead_of}
use Rattle.track_lead.proofs.Latest.{reaches}
use Rattle.track_laws.specs.Sure.{Pair, Sure, records_of}
use Rattle.track_laws.specs.WholeWay.{Throughout, WholeWay}
use Rattle.track_laws.proofs.Frames.{frames_long}
use Rattle.track_laws.proofs.Stream.{ones_after}
use Rattle.track_laws.proofs.Apart.{Fit, fit_all, from_0}
use Rattle.track_laws.proofs.Chain.{chain}

-- No odometer lies above the highest place.
all_low : (n begin until : ℕ) → 0 < n → until ≤ highest + 1 → (k : ℕ) → k < n * (until - begin) → odometer_at n begin k ≤ highest
all_low n begin until some ends k soon =
    let turned : k < (until - begin) * n = omega (arith, mul_comm n (until - begin)) in
    let less : k / n < until - begin = (div-lt_iff_lt-mul some).1 turned in
    omega arith

-- Its bits can be counted.
all_small : (n begin until : ℕ) → n ≤ 1000 → until ≤ highest + 1 → 96 * (n * (until - begin)) < 2 ^ 64
all_small n begin until few ends = omega (arith, mul-le-mul_right (until - begin) few)

none_left : (lead : List ℕ) (n : ℕ) (stand : Stand) → is_inside stand ≡ false → cut_at lead n stand ≡ []
none_left lead n Stand.Outside e = refl
none_left lead n (Stand.Inside sound) e = cannot_be cc

-- From the contacts of the whole line to the records that are no positions.
recorded_so : (store : Store) (lead : List ℕ) (m : ℕ) (records : List (List ℕ)) → frames_of lead ≡ m → 96 * m < 2 ^ 64
    → (records_for lead (judged_all (whole_line lead) (s_in store lead) (t_in store lead) (contacts (whole_line lead) outside sixteen_ones 0 (96 * m - 0))) ≡ records)
    × (cut (contacts (whole_line lead) outside sixteen_ones 0 (96 * m - 0)) ≡ false)
    → without_positions (recorded store lead) ≡ records
recorded_so store lead m records frames small done =
    let bits : bits_of lead ≡ 96 * m - 0 = omega (arith, frames) in
    let fewer : bits_of lead < 2 ^ 64 = omega (arith, frames) in
    let known = the_contacts store lead fewer in
    let stand = (after (line_in lead) (s_in store lead) (t_in store lead) hearing.fresh 0 (bits_of lead)).stand in
    let closed : is_inside stand ≡ false = known.1 ∙ ap (λ (n : ℕ). cut (contacts (whole_line lead) outside sixteen_ones 0 n)) bits ∙ done.1 in
    one_each store lead fewer
    ∙ ap₂ (λ (a b : List (List ℕ)). a ++ b)
    (ap (records_for lead) known.0 ∙ ap (λ (n : ℕ). records_for lead (judged_all (whole_line lead) (s_in store lead) (t_in store lead) (contacts (whole_line lead) outside sixteen_ones 0 n))) bits ∙ done.0)
    (none_left lead (bits_of lead) stand closed)
    ∙ append-nil records

-- A text with its way's ends known.
with_ends : (n s t : ℕ) (items : List Item) (way : TrackWay) (store : Store) (some : 0 < n) → n ≤ 1000 → way_of items ≡ gives way → Pair s t → Sure s t items → Throughout store s t
    → until way ≤ highest + 1 → Fit n (from way) (n * (until way - from way)) items
    → without_positions (recorded store (lead_of n s t way items)) ≡ records_of items
unfolding way_of lead_of
with_ends n s t items way store some few is pair sure held ends fit =
    let m = n * (until way - from way) in
    let low = all_low n (from way) (until way) some ends in
    let small = all_small n (from way) (until way) few ends in
    let lead = frames_at n s t (from way) items 0 m in
    let frames : frames_of lead ≡ m = omega (arith, frames_long n s t (from way) items m 0) in
    recorded_so store lead m (records_of items) frames small
    (chain n s t (from way) items some m store pair held low small items fresh way nothing 0 sixteen_ones 0 is
    (record { same = λ k l. refl; began = omega arith; ones = λ j l. ones_after (sends s t Thing.Nothing) (j - 96 * 0) (omega arith) })
    ones_still (omega arith) (from_0 items) (omega arith) fit sure)

-- A way without a line has no end.
empty_ends : (way : TrackWay) → way_of [] ≡ gives way → until way ≤ highest + 1
unfolding way_of way_from fresh until
empty_ends way is = let same : fresh ≡ way = cc in subst (λ (w : TrackWay). until w ≤ highest + 1) same (omega arith)

pub whole_way : WholeWay
whole_way n s t [] way store some few is pair sure held = with_ends n s t [] way store some few is pair sure held (empty_ends way is) tt
whole_way n s t (item ∷ items) way store some few is pair sure held =
    let r = reaches item items way is in
    with_ends n s t (item ∷ items) way store some few is pair sure held r.low
    (fit_all n s t (from way) (until way) some (item ∷ items) (from way) way.last r.rising (omega arith) r.until_is sure)
