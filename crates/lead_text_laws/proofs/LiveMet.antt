-- The hypotheses of the law are met: for any good store and any pieces there are calls in full,
-- each with room for all that comes.
-- Assumes nothing.
use Rattle.std.specs.Prelude.{Ok}
use Prim.Native.Nat.{ℕ, suc, ◌+◌, ◌-◌, ◌≤◌, ◌<◌}
use native.Mathlib.Omega.{arith}
use mathlib.Core.Path.{◌≡◌, refl, sym, ap, ap₂, ◌∙◌}
use mathlib.Core.Bool.{Bool}
use mathlib.Core.List.{List, [], ◌∷◌, ◌++◌}
use lib.ListN.{length, take, drop, replicate, length-replicate, length-append}
use lib.Seq.{take-length, drop-length}
use borrow.Author.Tests.{le-leb, lt-ltb}
use Rattle.words.specs.Answer.{gives, pick}
use Rattle.words.specs.Limits.{largest64}
use Rattle.telegram.specs.Sync.{differing, is_good, good_pair}
use Rattle.text.specs.Put as texts
use Rattle.text.specs.Put.{placed}
use Rattle.settings.specs.declared.Store.{Store}
use Rattle.settings.specs.Versions.{settings_of, follows}
use Rattle.settings.specs.Store as stores
use Rattle.settings.specs.Store.{no_store_meant, versions_of, opened, begin, all_follow, in_order_meant}
use Rattle.settings.specs.At.{gap_at}
use Rattle.ride.specs.declared.Ride.{Ride}
use Rattle.ride.specs.Record.{odometer_of}
use Rattle.ride.specs.Step.{Step, treat}
use Rattle.recording.specs.Recording.{Taped, the_end_meant}
use Rattle.ride_text.specs.Style.{with_reasons}
use Rattle.ride_text.specs.Told.{step_text, Told, tell_over, end_text}
use Rattle.ride_text.specs.List.{taken}
use Rattle.ride_text.proofs.Taken.{end_short}
use Rattle.lead_text.specs.declared.HowFar.{HowFar}
use Rattle.lead_text.specs.declared.Underway.{Underway}
use Rattle.lead_text.specs.declared.Written.{Written}
use Rattle.lead_text.specs.Places.{Place, to_come, after, after_ends}
use Rattle.lead_text.specs.List as listing
use Rattle.lead_text.specs.List.{place_of, standing, Telling, none_left_meant, list_of, at_tape}
use Rattle.lead_text.specs.Says.{says_written}
use Rattle.lead_text.proofs.Judged.{frames_listed, end_listed}
use Rattle.demands.proofs.Witness.CallsMet.{lent, lent_out}
use Rattle.lead_text_laws.specs.Calls.{Fresh, ListFrames, ListEnd, PutEnd}
use Rattle.lead_text_laws.specs.Live.{Good, Heard, none, next, Closed, over, Ended, put}
use Rattle.lead_text_laws.proofs.Comes.{start, comes_all}

-- ---- one call that takes all

pub taken_all : (gaps : ℕ → ℕ) (ride : Ride) (number room : ℕ) (rs : List (List ℕ)) → 320 + length (tell_over with_reasons gaps ride number rs).text ≤ room → number + length rs ≤ largest64
    → taken with_reasons gaps ride number room rs ≡ length rs
unfolding taken tell_over
taken_all gaps ride number room [] wide small = refl
taken_all gaps ride number room (r ∷ rs) wide small =
    let s : Step = treat ride (gaps (odometer_of r)) r in
    let t : List ℕ = step_text with_reasons number s in
    let rest : Told = tell_over with_reasons gaps s.ride (suc number) rs in
    let long : length (t ++ rest.text) ≡ length t + length rest.text = length-append t rest.text in
    let enough : 320 ≤ room = omega arith in
    let low : number < largest64 = omega arith in
    let left : 320 + length rest.text ≤ room - length t = omega arith in
    let fewer : suc number + length rs ≤ largest64 = omega arith in
    rw (le-leb 320 room enough, lt-ltb number largest64 low) (ap suc (taken_all gaps s.ride (suc number) (room - length t) rs left fewer))

module _ (gaps : ℕ → ℕ) (u : Underway) (rs : List (List ℕ)) (last : Place) (up_to : ℕ → Place) where
  abbrev told : Told
  told = tell_over with_reasons gaps u.ride u.number rs

  -- A buffer with room for all, before and after.
  abbrev before : List ℕ
  before = replicate (320 + length told.text) 0

  abbrev written : List ℕ
  written = placed told.text before 0

  abbrev answer : Written
  answer = record { underway = standing last told.ride (u.number + length rs); how = Ok (HowFar.Over (length told.text)) }

  -- The listing of the first records a, where b are left.
  abbrev listing_of : ℕ → List (List ℕ) → List (List ℕ) → Telling
  listing_of k a b =
      let first : Told = tell_over with_reasons gaps u.ride u.number a in
      record {
        answer = gives (record { bytes = length first.text; all = none_left_meant b });
        underway = standing (pick (none_left_meant b) last (up_to k)) first.ride (u.number + k);
        out = placed first.text before 0;
      }

  all_written : u.number + length rs ≤ largest64 → says_written answer written ≡ list_of gaps u rs last up_to before
  unfolding list_of
  all_written small =
      let room : 320 + length told.text ≤ length before = omega (arith, length-replicate {A = ℕ} (320 + length told.text) 0) in
      let k : taken with_reasons gaps u.ride u.number (length before) rs ≡ length rs = taken_all gaps u.ride u.number (length before) rs room small in
      sym (ap (λ (n : ℕ). listing_of n (take n rs) (drop n rs)) k ∙ ap₂ (listing_of (length rs)) (take-length rs) (drop-length rs))

-- ---- calls

module _ (store : Store) (good : Good store) where
  heard_met : (pieces : List (List ℕ)) (u : Underway) → u.number + length (comes_all store (place_of u) pieces).records ≤ largest64
      → (text : List ℕ) × (last : Underway) × Heard store u pieces text last
  unfolding comes_all
  heard_met [] u small = ([], u, none)
  heard_met (piece ∷ pieces) u small =
      let x : Taped = to_come store piece (place_of u) in
      let more : List (List ℕ) = (comes_all store (start x.tape) pieces).records in
      let few : u.number + length x.records + length more ≤ largest64 = omega (arith, length-append x.records more) in
      let r : Written = answer (gap_at store) u x.records (start x.tape) (after store piece (place_of u)) in
      let b : List ℕ = before (gap_at store) u x.records (start x.tape) (after store piece (place_of u)) in
      let a : List ℕ = written (gap_at store) u x.records (start x.tape) (after store piece (place_of u)) in
      let says = all_written (gap_at store) u x.records (start x.tape) (after store piece (place_of u)) (omega arith) in
      let c : ListFrames u store piece b r a =
      (([], ([], tt)), lent piece, lent_out b, (u, (store, (lent piece, (lent_out a, tt)))), refl, refl, refl, says ∙ frames_listed u store piece b good) in
      let rest = heard_met pieces r.underway few in
      (take (length (tell_over with_reasons (gap_at store) u.ride u.number x.records).text) a ++ rest.0, rest.1, next b a r (length (tell_over with_reasons (gap_at store) u.ride u.number x.records).text) c refl rest.2)

  closed_met : (u : Underway) → u.number + length (the_end_meant u.tape).records ≤ largest64 → (text : List ℕ) × (last : Underway) × Closed store u text last
  closed_met u small =
      let x : Taped = the_end_meant u.tape in
      let up_to : ℕ → Place = λ m. at_tape u (after_ends u.tape m) in
      let r : Written = answer (gap_at store) u x.records (at_tape u x.tape) up_to in
      let b : List ℕ = before (gap_at store) u x.records (at_tape u x.tape) up_to in
      let a : List ℕ = written (gap_at store) u x.records (at_tape u x.tape) up_to in
      let says = all_written (gap_at store) u x.records (at_tape u x.tape) up_to small in
      let c : ListEnd u store b r a = (([], tt), lent_out b, (u, (store, (lent_out a, tt))), refl, refl, says ∙ end_listed u store b good) in
      let n : ℕ = length (tell_over with_reasons (gap_at store) u.ride u.number x.records).text in
      (take n a, r.underway, over b a r n c refl)

ended_met : (ride : Ride) → (text : List ℕ) × Ended ride text
unfolding texts.put
ended_met ride =
    let t : List ℕ = end_text with_reasons ride in
    let b : List ℕ = replicate 320 0 in
    let a : List ℕ = placed t b 0 in
    let wide : 320 ≤ length b = omega (arith, length-replicate {A = ℕ} 320 0) in
    let fits : 0 + length t ≤ length b = omega (arith, end_short with_reasons ride) in
    let says : texts.came (0 + length t) a ≡ texts.put t b 0 =
    sym (ap (λ (x : Bool). pick x (texts.came (0 + length t) a) (texts.came 0 b)) (le-leb (0 + length t) (length b) fits)) in
    let c : PutEnd ride b 0 (0 + length t) a = (([], tt), lent_out b, (with_reasons, (ride, (lent_out a, (0, tt)))), refl, refl, says) in
    (take (0 + length t) a, put b a (0 + length t) wide c)

fresh_met : Fresh listing.fresh
fresh_met = (tt, refl)

-- The settings 40, 72 and 0D hex are good.
store_met : Good (begin 40 0x72 0x0d).store
unfolding stores.judged in_order_meant all_follow versions_of opened begin no_store_meant settings_of follows good_pair is_good differing
store_met = refl
