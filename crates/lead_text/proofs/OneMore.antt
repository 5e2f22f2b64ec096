-- One record, listed by itself behind what stands in the buffer.
-- Assumes nothing.
use Prim.Native.Nat.{ℕ, zero, suc, ◌+◌, ◌-◌, ◌/◌, ◌%◌, ◌≤◌}
use mathlib.Core.Path.{◌≡◌, sym, ap, ◌∙◌}
use mathlib.Core.Bool.{Bool, true, false}
use mathlib.Core.List.{List, [], ◌∷◌, ◌++◌, append_assoc, append-nil}
use native.Mathlib.Omega.{arith}
use native.Mathlib.Numerals.{add-one}
use native.Mathlib.Nat.{add-zero}
use lib.Dec.{ltb}
use lib.ListN.{length, take, drop, length-append, length-drop, length-take}
use lib.Seq.{take_all, drop-drop, drop-length}
use borrow.Author.Tests.{eq-eqb}
use borrow.Rule.Slice.PartMut.{put_mid, mid_of, post_of}
use Rattle.words.specs.Answer.{Outcome, gives, refuses, pick}
use Rattle.words.proofs.Never.{cannot_be}
use Rattle.text.specs.Put.{placed}
use Rattle.text.proofs.Placing.{placed_none}
use Rattle.settings.specs.declared.Store.{Store}
use Rattle.settings.specs.Versions.{kept}
use Rattle.settings.specs.Store.{judged}
use Rattle.settings.specs.At.{gap_at}
use Rattle.ride.specs.declared.Ride.{Ride}
use Rattle.ride.specs.Record.{odometer_of}
use Rattle.ride.specs.Step.{Step, treat}
use Rattle.ride.specs.Over.{first_records, records}
use Rattle.ride_text.specs.Style.{with_reasons}
use Rattle.ride_text.specs.declared.Took.{Took}
use Rattle.ride.specs.declared.TraceRefused.{TraceRefused}
use Rattle.std.specs.Prelude.{Result, Ok}
use Rattle.ride_text.specs.declared.Listed.{Listed as Answer}
use Rattle.ride_text.specs.List.{Taken, Listing}
use Rattle.ride_text.specs.Says.{says_done, says_listed}
use Rattle.ride_text.specs.Told.{step_text, tell_over}
use Rattle.ride_text.specs.List.{is_taken, taken, list_of, list_taken}
use Rattle.ride_text.specs.List as explaining
use Rattle.ride_text.proofs.Judging.{list_taken_law}
use Rattle.lead_text.specs.Inside.{Listed, says_one, list_one}
use Rattle.lead_text.specs.declared.record_lines.One.{One}

-- Eight bytes are one record.
pub only : (r : List ℕ) → length r ≡ 8 → records r ≡ r ∷ []
unfolding first_records
only r e =
    let one : length r / 8 ≡ suc zero = omega arith in
    let long : length r ≤ 8 = omega arith in
    ap (λ (n : ℕ). first_records n r) one ∙ ap (λ (x : List ℕ). x ∷ []) (take_all 8 r long)

-- The part of a buffer from a place on is the rest of it.
pub part_is : (out : List ℕ) (at : ℕ) → mid_of at (length out - at) out ≡ drop at out
part_is out at = take_all (length out - at) (drop at out) (simp length-drop (omega arith))

-- A text that leaves a buffer as long as it was has room there.
pub has_room : (t b : List ℕ) (at : ℕ) → at ≤ length b → length (placed t b at) ≡ length b → at + length t ≤ length b
unfolding placed
has_room t b at low e =
    let h = simp (length-append, length-take, length-drop) at e in
    omega arith

-- A text at the start of the rest stands behind what is before it.
behind : (t out : List ℕ) (at : ℕ) → put_mid at (length out - at) out (placed t (drop at out) 0) ≡ placed t out at
unfolding placed
behind t out at =
    let none : post_of at (length out - at) out ≡ [] = drop_all in
    ap (λ (l : List ℕ). take at out ++ (placed t (drop at out) 0 ++ l)) none
    ∙ ap (λ (l : List ℕ). take at out ++ l) (append-nil (placed t (drop at out) 0))
    ∙ ap (λ (l : List ℕ). take at out ++ (t ++ l)) rest
    ∙ sym (append_assoc (take at out) t (drop (at + length t) out))
  where
    drop_all : drop (length out - at) (drop at out) ≡ []
    drop_all =
        let n : length out - at ≡ length (drop at out) = simp length-drop in
        ap (λ (k : ℕ). drop k (drop at out)) n ∙ drop-length (drop at out)

    rest : drop (0 + length t) (drop at out) ≡ drop (at + length t) out
    rest =
        let n : 0 + length t ≡ length t = omega arith in
        ap (λ (k : ℕ). drop k (drop at out)) n ∙ drop-drop (length t) at out

-- The answer of `list_one` for so many records and bytes.
abbrev pub answered : Answer → ℕ → ℕ → ℕ → One
answered l at records count = record { taken = ltb 0 records; ride = l.ride; number = l.number; at = at + count }

-- How many records a listing took, and how many bytes it wrote; and that it was refused.
abbrev records_in : Outcome Taken → ℕ
records_in (gives t) = t.records
records_in (refuses n) = 0

abbrev bytes_in : Outcome Taken → ℕ
bytes_in (gives t) = t.bytes
bytes_in (refuses n) = 0

abbrev refused_in : Outcome Taken → ℕ
refused_in (gives t) = 0
refused_in (refuses n) = 1

counted : (f : Outcome Taken → ℕ) (l : Answer) (part : List ℕ) (k count : ℕ) (x : Listing) → says_listed l part ≡ x → l.done ≡ Ok (record { records = k; bytes = count })
    → f (gives (record { records = k; bytes = count })) ≡ f x.answer
counted f l part k count x says done = sym (ap (λ (d : Result Took TraceRefused). f (says_done d)) done) ∙ ap (λ (y : Listing). f y.answer) says

module _ (gaps : ℕ → ℕ) (ride : Ride) (number : ℕ) (r out : List ℕ) (at : ℕ) where
  -- The listing of the one record in the rest of the buffer, by whether it is taken.
  abbrev listing_by : Bool → Listing
  listing_by b = list_of with_reasons gaps ride number (pick b (suc zero) 0) (r ∷ []) (drop at out)

  abbrev one_by : Bool → Listed
  one_by b =
      let s : Step = treat ride (gaps (odometer_of r)) r in
      let text : List ℕ = step_text with_reasons number s in
      pick b
      (record { is_taken = true; ride = s.ride; number = suc number; next = at + length text; out = placed text out at })
      (record { is_taken = false; ride = ride; number = number; next = at; out = out })

  took_by : (b : Bool) (l : Answer) (part : List ℕ) (k count : ℕ) → says_listed l part ≡ listing_by b → l.done ≡ Ok (record { records = k; bytes = count })
      → says_one (answered l at k count) (put_mid at (length out - at) out part) ≡ one_by b
  unfolding list_of tell_over
  took_by true l part k count says done =
      let s : Step = treat ride (gaps (odometer_of r)) r in
      let t : List ℕ = step_text with_reasons number s in
      let n : k ≡ 1 = counted records_in l part k count (listing_by true) says done in
      let taken_is : ltb 0 k ≡ true = ap (ltb 0) n in
      let ride_is : l.ride ≡ s.ride = ap (λ (x : Listing). x.ride) says in
      let number_is : l.number ≡ suc number = ap (λ (x : Listing). x.number) says ∙ add-one number in
      let next_is : at + count ≡ at + length t = ap (λ (m : ℕ). at + m) (counted bytes_in l part k count (listing_by true) says done ∙ ap length (append-nil t)) in
      let out_is : put_mid at (length out - at) out part ≡ placed t out at =
      ap (put_mid at (length out - at) out) (ap (λ (x : Listing). x.out) says ∙ ap (λ (v : List ℕ). placed v (drop at out) 0) (append-nil t)) ∙ behind t out at in
      cc
  took_by false l part k count says done =
      let n : k ≡ 0 = counted records_in l part k count (listing_by false) says done in
      let taken_is : ltb 0 k ≡ false = ap (ltb 0) n in
      let ride_is : l.ride ≡ ride = ap (λ (x : Listing). x.ride) says in
      let number_is : l.number ≡ number = ap (λ (x : Listing). x.number) says ∙ add-zero number in
      let next_is : at + count ≡ at = ap (λ (m : ℕ). at + m) (counted bytes_in l part k count (listing_by false) says done) ∙ add-zero at in
      let out_is : put_mid at (length out - at) out part ≡ out =
      ap (put_mid at (length out - at) out) (ap (λ (x : Listing). x.out) says) ∙ behind [] out at ∙ placed_none out at in
      cc

  pub took : (l : Answer) (part : List ℕ) (k count : ℕ) → says_listed l part ≡ list_taken with_reasons gaps ride number (r ∷ []) (drop at out) → l.done ≡ Ok (record { records = k; bytes = count })
      → says_one (answered l at k count) (put_mid at (length out - at) out part) ≡ list_one gaps ride number r out at
  unfolding list_one taken
  took l part k count says done =
      let room : length (drop at out) ≡ length out - at = simp length-drop in
      took_by (is_taken with_reasons number (length out - at)) l part k count (says ∙ ap (λ (n : ℕ). listing_by (is_taken with_reasons number n)) room) done

  -- What is written lies in the buffer.
  pub written_in : (l : Answer) (part : List ℕ) (k count : ℕ) → says_listed l part ≡ list_taken with_reasons gaps ride number (r ∷ []) (drop at out) → l.done ≡ Ok (record { records = k; bytes = count })
      → at ≤ length out → length part ≡ length (mid_of at (length out - at) out) → at + count ≤ length out
  unfolding list_of
  written_in l part k count says done low same =
      let n : ℕ = taken with_reasons gaps ride number (length (drop at out)) (r ∷ []) in
      let t : List ℕ = (tell_over with_reasons gaps ride number (take n (r ∷ []))).text in
      let x = list_taken with_reasons gaps ride number (r ∷ []) (drop at out) in
      let bytes : count ≡ length t = counted bytes_in l part k count x says done in
      let long : length (placed t (drop at out) 0) ≡ length (drop at out) = sym (ap (λ (y : Listing). length y.out) says) ∙ same ∙ ap length (part_is out at) in
      let fits : 0 + length t ≤ length (drop at out) = has_room t (drop at out) 0 (omega arith) long in
      let rest : length (drop at out) ≡ length out - at = simp length-drop in
      omega arith

  -- It is not refused.
  pub not_refused : {A : Type 0} (l : Answer) (part : List ℕ) (n : ℕ) → says_listed l part ≡ list_taken with_reasons gaps ride number (r ∷ []) (drop at out) → says_done l.done ≡ refuses n → A
  unfolding list_of
  not_refused l part n says e = cannot_be (sym (ap (λ (x : Listing). refused_in x.answer) says) ∙ ap refused_in e)

-- ---- what `ride_text::list` says of one record

module _ (store : Store) (ride : Ride) (number : ℕ) (r out : List ℕ) (at : ℕ) (good : judged store ≡ gives kept) (eight : length r ≡ 8) where
  pub alone : (l : Answer) (part : List ℕ) → says_listed l part ≡ explaining.list with_reasons ride store number r (mid_of at (length out - at) out)
      → says_listed l part ≡ list_taken with_reasons (gap_at store) ride number (r ∷ []) (drop at out)
  alone l part says =
      let whole : length r % 8 ≡ 0 = omega arith in
      says ∙ ap (explaining.list with_reasons ride store number r) (part_is out at) ∙ sym (list_taken_law with_reasons ride store number r (drop at out) good (eq-eqb (length r % 8) 0 whole))
      ∙ ap (λ (rs : List (List ℕ)). list_taken with_reasons (gap_at store) ride number rs (drop at out)) (only r eight)
