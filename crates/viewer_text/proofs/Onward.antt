-- A record listed alone, and a turn of the search over those that are left.
-- Assumes nothing.
use Rattle.std.proofs.Common.{Option, Some, None}
use Prim.Native.Nat.{ℕ, suc, ◌+◌, ◌*◌, ◌/◌, ◌%◌, ◌≤◌, ◌<◌}
use mathlib.Core.Path.{◌≡◌, refl, sym, ap, ap₂, ◌∙◌}
use mathlib.Core.Bool.{Bool, true, false}
use mathlib.Core.List.{List, [], ◌∷◌, append-nil}
use native.Mathlib.Omega.{arith}
use native.Mathlib.Numerals.{add-one}
use borrow.Author.Tests.{eq-eqb}
use lib.ListN.{length, take, drop, length-drop}
use lib.Seq.{length-take-le, take-length, drop-drop}
use Rattle.words.specs.Answer.{gives, refuses, pick}
use Rattle.words.specs.Limits.{largest64}
use Rattle.settings.specs.declared.Store.{Store}
use Rattle.settings.specs.Versions.{kept}
use Rattle.settings.specs.Store.{judged}
use Rattle.settings.specs.At.{gap_at}
use Rattle.ride.specs.declared.Ride.{Ride}
use Rattle.ride.specs.Record.{odometer_of}
use Rattle.ride.specs.Step.{Step, treat}
use Rattle.ride.specs.At.{record_at}
use Rattle.ride.specs.Over.{first_records, records}
use Rattle.text.specs.Put.{placed}
use Rattle.text.proofs.Placing.{placed_length, placed_start}
use Rattle.ride_text.specs.Style.{with_reasons}
use Rattle.ride_text.specs.Told.{step_text, tell_over}
use Rattle.ride_text.specs.List.{Listing, list_of, list_taken, list}
use Rattle.ride_text.specs.declared.Listed.{Listed}
use Rattle.ride_text.specs.Says.{says_done, says_listed}
use Rattle.ride_text.proofs.Taken.{all_taken, step_short}
use Rattle.viewer_text.specs.Finding.{has}
use Rattle.viewer_text.specs.Seeking.{further, seek_in, bytes_of, seek}

-- ---- records before the first

pub further_none : (x : Option ℕ) → further 0 x ≡ x
further_none (Some n) =
    let e : 0 + n ≡ n = omega arith in
    ap Some e
further_none None = refl

pub further_on : (m : ℕ) (x : Option ℕ) → further m (further 1 x) ≡ further (m + 1) x
further_on m (Some n) =
    let e : m + (1 + n) ≡ m + 1 + n = omega arith in
    ap Some e
further_on m None = refl

-- ---- the records that are left

pub left_one : (trace : List ℕ) (i : ℕ) → i < length trace / 8 → records (drop (i * 8) trace) ≡ record_at trace i ∷ records (drop ((i + 1) * 8) trace)
unfolding first_records
left_one trace i less =
    let many : length (drop (i * 8) trace) / 8 ≡ suc (length (drop ((i + 1) * 8) trace) / 8) = omega (arith, length-drop (i * 8) trace, length-drop ((i + 1) * 8) trace) in
    let far : i * 8 + 8 ≡ (i + 1) * 8 = omega arith in
    ap (λ (k : ℕ). first_records k (drop (i * 8) trace)) many
    ∙ ap (λ (l : List ℕ). record_at trace i ∷ first_records (length (drop ((i + 1) * 8) trace) / 8) l) (drop-drop 8 (i * 8) trace ∙ ap (λ (k : ℕ). drop k trace) far)

pub left_none : (trace : List ℕ) (i : ℕ) → length trace / 8 ≤ i → records (drop (i * 8) trace) ≡ []
unfolding first_records
left_none trace i past =
    let none : length (drop (i * 8) trace) / 8 ≡ 0 = omega (arith, length-drop (i * 8) trace) in
    ap (λ (k : ℕ). first_records k (drop (i * 8) trace)) none

-- a record alone
one_record : (r : List ℕ) → length r ≡ 8 → records r ≡ r ∷ []
unfolding first_records
one_record r e =
    let one : length r / 8 ≡ 1 = omega arith in
    ap (λ (k : ℕ). first_records k r) one ∙ ap (λ (l : List ℕ). l ∷ []) (ap (λ (k : ℕ). take k r) (sym e) ∙ take-length r)

-- ---- one record listed

module _ (store : Store) (ride : Ride) (i : ℕ) (trace : List ℕ) (less : i < length trace / 8) (good : judged store ≡ gives kept) where
  abbrev r : List ℕ
  r = record_at trace i

  abbrev pub step_here : Step
  step_here = treat ride (gap_at store (odometer_of r)) r

  abbrev pub text_here : List ℕ
  text_here = step_text with_reasons (i + 1) step_here

  long : length r ≡ 8
  long = length-take-le 8 (drop (i * 8) trace) (omega (arith, length-drop (i * 8) trace))

  abbrev whole : List ℕ → Listing
  whole out = record { answer = gives (record { records = 1; bytes = length text_here }); ride = step_here.ride; number = i + 1 + 1; out = placed text_here out 0 }

  told : (out : List ℕ) → list_of with_reasons (gap_at store) ride (i + 1) 1 (r ∷ []) out ≡ whole out
  unfolding list_of tell_over
  told out =
      ap {B = Listing} (λ (t : List ℕ). record { answer = gives (record { records = 1; bytes = length t }); ride = step_here.ride; number = i + 1 + 1; out = placed t out 0 })
      (append-nil text_here)

  pub listed : (out : List ℕ) → 320 ≤ length out → i + 1 < largest64 → list with_reasons ride store (i + 1) r out ≡ whole out
  unfolding list
  listed out room small =
      let even : length r % 8 ≡ 0 = omega (arith, long) in
      let enough : length (r ∷ []) * 320 ≤ length out = omega arith in
      let few : i + 1 + length (r ∷ []) ≤ largest64 = omega arith in
      rw (good, eq-eqb (length r % 8) 0 even)
      (ap (λ (rs : List (List ℕ)). list_taken with_reasons (gap_at store) ride (i + 1) rs out) (one_record r long)
      ∙ ap (λ (n : ℕ). list_of with_reasons (gap_at store) ride (i + 1) n (r ∷ []) out) (all_taken with_reasons (gap_at store) (r ∷ []) ride (i + 1) (length out) enough few)
      ∙ told out)

-- what the answer then says
pub record Here (store : Store) (ride : Ride) (i : ℕ) (trace : List ℕ) (out : List ℕ) (l : Listed) (bytes : ℕ) : Type 0 where
  pub ride_is : l.ride ≡ (treat ride (gap_at store (odometer_of (record_at trace i))) (record_at trace i)).ride
  pub text_is : take bytes out ≡ step_text with_reasons (i + 1) (treat ride (gap_at store (odometer_of (record_at trace i))) (record_at trace i))
  pub within : bytes ≤ 320
  pub long : length out ≡ 320

pub here : (store : Store) (ride : Ride) (i : ℕ) (trace before out : List ℕ) (l : Listed) (bytes : ℕ) → i < length trace / 8 → judged store ≡ gives kept
    → length before ≡ 320 → i + 1 < largest64 → says_listed l out ≡ list with_reasons ride store (i + 1) (record_at trace i) before → bytes ≡ bytes_of (says_done l.done)
    → Here store ride i trace out l bytes
here store ride i trace before out l bytes less good room small is b =
    let t : List ℕ = text_here store ride i trace less good in
    let enough : 320 ≤ length before = omega arith in
    let e = is ∙ listed store ride i trace less good before enough small in
    let short : length t ≤ 320 = step_short with_reasons ride (gap_at store (odometer_of (record_at trace i))) (i + 1) (record_at trace i) in
    let size : bytes ≡ length t = b ∙ ap (λ (x : Listing). bytes_of x.answer) e in
    let from : bytes ≡ 0 + length t = omega arith in
    let fits : 0 + length t ≤ length before = omega arith in
    let filled : out ≡ placed t before 0 = ap (λ (x : Listing). x.out) e in
    record {
      ride_is = ap (λ (x : Listing). x.ride) e;
      text_is = ap₂ take from filled ∙ placed_start t before;
      within = omega arith;
      long = ap length filled ∙ placed_length t before 0 fits ∙ room;
    }

-- ---- a turn

pub seek_here : (word : List ℕ) (store : Store) (ride : Ride) (i : ℕ) (trace : List ℕ) → i < length trace / 8 →
    let r = record_at trace i in
    let s = treat ride (gap_at store (odometer_of r)) r in
    has (step_text with_reasons (i + 1) s) word ≡ true
    → seek_in word (gap_at store) ride (i + 1) (records (drop (i * 8) trace)) ≡ Some 1
unfolding seek_in
seek_here word store ride i trace less e =
    ap (seek_in word (gap_at store) ride (i + 1)) (left_one trace i less) ∙ rw e refl

pub seek_next : (word : List ℕ) (store : Store) (ride : Ride) (i : ℕ) (trace : List ℕ) → i < length trace / 8 →
    let r = record_at trace i in
    let s = treat ride (gap_at store (odometer_of r)) r in
    has (step_text with_reasons (i + 1) s) word ≡ false
    → seek_in word (gap_at store) ride (i + 1) (records (drop (i * 8) trace)) ≡ further 1 (seek_in word (gap_at store) s.ride (i + 1 + 1) (records (drop ((i + 1) * 8) trace)))
unfolding seek_in
seek_next word store ride i trace less e =
    let r : List ℕ = record_at trace i in
    let s : Step = treat ride (gap_at store (odometer_of r)) r in
    ap (seek_in word (gap_at store) ride (i + 1)) (left_one trace i less)
    ∙ ap (λ (b : Bool). pick b (Some 1) (further 1 (seek_in word (gap_at store) s.ride (suc (i + 1)) (records (drop ((i + 1) * 8) trace))))) e
    ∙ ap (λ (n : ℕ). further 1 (seek_in word (gap_at store) s.ride n (records (drop ((i + 1) * 8) trace)))) (sym (add-one (i + 1)))

pub seek_none : (word : List ℕ) (store : Store) (ride : Ride) (i : ℕ) (trace : List ℕ) → length trace / 8 ≤ i
    → seek_in word (gap_at store) ride (i + 1) (records (drop (i * 8) trace)) ≡ None
unfolding seek_in
seek_none word store ride i trace past = ap (seek_in word (gap_at store) ride (i + 1)) (left_none trace i past)

-- ---- by the settings

pub seek_good : (word : List ℕ) (store : Store) (ride : Ride) (number : ℕ) (trace : List ℕ) → judged store ≡ gives kept
    → seek_in word (gap_at store) ride (number + 1) (records (drop (number * 8) trace)) ≡ seek word store ride number trace
unfolding seek
seek_good word store ride number trace good = rw good refl

pub seek_bad : (word : List ℕ) (store : Store) (ride : Ride) (number : ℕ) (trace : List ℕ) (n : ℕ) → judged store ≡ refuses n → None ≡ seek word store ride number trace
unfolding seek
seek_bad word store ride number trace n bad = rw bad refl
