-- Records told in a style: a ride told in two parts is the whole, and calls of `list` come to it,
-- whatever their blocks.
-- Assumes nothing.
use Rattle.std.specs.Prelude.{Ok, Result}
use Rattle.ride_text.specs.declared.Took.{Took}
use Rattle.ride.specs.declared.TraceRefused.{TraceRefused}
use Prim.Native.Nat.{ℕ, suc, ◌+◌, ◌%◌, ◌≤◌}
use native.Mathlib.Omega.{arith}
use native.Mathlib.Nat.{add-zero, zero-add}
use mathlib.Core.Path.{◌≡◌, refl, sym, ap, ap₂, ◌∙◌}
use mathlib.Core.List.{List, [], ◌∷◌, ◌++◌, append_assoc}
use lib.ListN.{length, take, length-append}
use lib.Seq.{length-take-le}
use borrow.Author.Tests.{eq-eqb}
use Rattle.words.specs.Answer.{Outcome, gives, refuses}
use Rattle.text.proofs.Placing.{placed_start}
use Rattle.settings.specs.declared.Store.{Store}
use Rattle.settings.specs.At.{gap_at}
use Rattle.ride.specs.declared.Ride.{Ride}
use Rattle.ride.specs.Record.{odometer_of}
use Rattle.ride.specs.Step.{Step, treat}
use Rattle.ride.specs.Over.{records}
use Rattle.ride.proofs.Cutting.{records_length}
use Rattle.ride_text.specs.Style.{Style}
use Rattle.ride_text.specs.Told.{step_text, Told, tell_over}
use Rattle.ride_text.specs.declared.Listed.{Listed}
use Rattle.ride_text.specs.List.{Taken, Listing, list_of, list_taken, list}
use Rattle.ride_text.specs.List as listing
use Rattle.ride_text.specs.Says.{says_listed}
use Rattle.ride_text.proofs.Judging.{list_taken_law}
use Rattle.ride_text.proofs.Taken.{few_taken}
use Rattle.ride_text.proofs.Determined.{done_of, done_back}
use Rattle.demands.specs.Stores.{Good}
use Rattle.demands.specs.Output.{records_in}
use Rattle.demands.specs.TraceCalls.{Whole, Call}
use Rattle.demands.specs.ListCalls.{taken, bytes_of, ListCall, ByList, text_from, after_calls, number_after}
use Rattle.demands.proofs.Beside.Cards.{eights}
use Rattle.demands.proofs.Beside.TraceCalls.{Gone, gone, on_from, part_of, TakesFront, comes}

-- ---- a ride told on

pub tell_on : (style : Style) (gaps : ℕ → ℕ) (ride : Ride) (number : ℕ) (rs qs : List (List ℕ)) →
    let first : Told = tell_over style gaps ride number rs in
    let second : Told = tell_over style gaps first.ride (number + length rs) qs in
    tell_over style gaps ride number (rs ++ qs) ≡ record { text = first.text ++ second.text; ride = second.ride }
unfolding tell_over
tell_on style gaps ride number [] qs = ap (λ (n : ℕ). tell_over style gaps ride n qs) (sym (add-zero number))
tell_on style gaps ride number (r ∷ rs) qs =
    let s : Step = treat ride (gaps (odometer_of r)) r in
    let t : List ℕ = step_text style number s in
    let rest : Told = tell_over style gaps s.ride (suc number) rs in
    let same : suc number + length rs ≡ number + suc (length rs) = omega arith in
    ap (λ (x : Told). record { text = t ++ x.text; ride = x.ride }) (tell_on style gaps s.ride (suc number) rs qs)
    ∙ ap (λ (n : ℕ). record { text = t ++ (rest.text ++ (tell_over style gaps rest.ride n qs).text); ride = (tell_over style gaps rest.ride n qs).ride }) same
    ∙ ap (λ (x : List ℕ). record { text = x; ride = (tell_over style gaps rest.ride (number + suc (length rs)) qs).ride })
    (sym (append_assoc t rest.text (tell_over style gaps rest.ride (number + suc (length rs)) qs).text))

module _ (style : Style) (gaps : ℕ → ℕ) where
  -- Some records told, from a state and the first one's number.
  abbrev pub told : Ride × ℕ → List (List ℕ) → Gone (Ride × ℕ)
  told s rs = gone (tell_over style gaps s.0 s.1 rs).text ((tell_over style gaps s.0 s.1 rs).ride, s.1 + length rs)

  none : (s : Ride × ℕ) → gone [] s ≡ told s []
  unfolding tell_over
  none (ride, number) = ap (λ (k : ℕ). gone [] (ride, k)) (sym (add-zero number))

  pub on : (s : Ride × ℕ) (xs ys : List (List ℕ)) → told s (xs ++ ys) ≡ on_from (told s xs) (λ (t : Ride × ℕ). told t ys)
  on (ride, number) xs ys =
      let many : number + length (xs ++ ys) ≡ number + length xs + length ys = omega (arith, length-append xs ys) in
      ap₂ (λ (t : Told) (k : ℕ). gone t.text (t.ride, k)) (tell_on style gaps ride number xs ys) many

  -- ---- one call

  -- A listing of a block took no more records than it has, and came to what they tell.
  pub front : (ride : Ride) (number : ℕ) (block before after : List ℕ) (k n : ℕ) (next : Ride) →
      let l : Listing = list_taken style gaps ride number (records block) before in
      l.answer ≡ gives (record { records = k; bytes = n }) → next ≡ l.ride → after ≡ l.out
      → (k ≤ records_in block) × (gone (take n after) (next, number + k) ≡ told (ride, number) (take k (records block)))
  unfolding list_of
  front ride number block before after k n next answer next_is after_is =
      let m : ℕ = listing.taken style gaps ride number (length before) (records block) in
      let t : Told = tell_over style gaps ride number (take m (records block)) in
      let few : m ≤ length (records block) = few_taken style gaps (records block) ride number (length before) in
      let counts : (m ≡ k) × (length t.text ≡ n) = (ap records_in_law answer, ap bytes_in answer) in
      let size : n ≡ 0 + length t.text = sym counts.1 ∙ sym (zero-add (length t.text)) in
      let long : m ≡ length (take m (records block)) = sym (length-take-le m (records block) few) in (
        omega (arith, few, counts.0, records_length (records_in block) block),
        ap₂ (λ (x : List ℕ) (r : Ride). gone x (r, number + k)) (ap₂ take size after_is ∙ placed_start t.text before) next_is
            ∙ ap (λ (j : ℕ). gone t.text (t.ride, number + j)) (sym counts.0 ∙ long)
            ∙ ap (λ (j : ℕ). told (ride, number) (take j (records block))) counts.0,
      )
    where
      records_in_law : Outcome Taken → ℕ
      records_in_law (gives t) = t.records
      records_in_law (refuses n) = 0

      bytes_in : Outcome Taken → ℕ
      bytes_in (gives t) = t.bytes
      bytes_in (refuses n) = 0

-- ---- calls of `list`

module _ (style : Style) (store : Store) (good : Good store) where
  takes : (s : Ride × ℕ) (c : Call Listed) → Whole c.block → ListCall style store s c
      → TakesFront (told style (gap_at store)) (λ c. taken c.answer.done) (λ c. bytes_of c.answer.done) (λ l. (l.ride, l.number)) s c
  unfolding list_of
  takes (ride, number) c whole call =
      let rs : List (List ℕ) = records c.block in
      let k : ℕ = listing.taken style (gap_at store) ride number (length c.before) rs in
      let is : says_listed c.answer c.after ≡ list_taken style (gap_at store) ride number rs c.before =
      ap (says_listed c.answer) (sym call.6) ∙ call.7 ∙ ap₂ (λ (x y : List ℕ). list style ride store number x y) call.4 call.5
      ∙ sym (list_taken_law style ride store number c.block c.before good (eq-eqb (length c.block % 8) 0 (eights c.block whole))) in
      let n : ℕ = length (tell_over style (gap_at store) ride number (take k rs)).text in
      let done : c.answer.done ≡ Ok (record { records = k; bytes = n }) = sym (done_back c.answer.done) ∙ ap (λ (l : Listing). done_of l.answer) is in
      let f = front style (gap_at store) ride number c.block c.before c.after k n c.answer.ride refl (ap (λ (l : Listing). l.ride) is) (ap (λ (l : Listing). l.out) is) in
      record {
        of_these = omega (arith, f.0, ap taken done);
        goes =
            ap₂ (λ (d : Result Took TraceRefused) (j : ℕ). gone (take (bytes_of d) c.after) (c.answer.ride, j)) done (ap (λ (l : Listing). l.number) is)
            ∙ f.1 ∙ ap (λ (d : Result Took TraceRefused). told style (gap_at store) (ride, number) (take (taken d) rs)) (sym done);
      }

  -- What they come to over a trace: its text, the state after it, and the next record's number.
  pub listed : (ride : Ride) (number : ℕ) (trace : List ℕ) (calls : List (Call Listed)) → ByList style store ride number trace calls →
      let t : Told = tell_over style (gap_at store) ride number (records trace) in
      (text_from calls ≡ t.text) × (after_calls ride calls ≡ t.ride) × (number_after number calls ≡ number + records_in trace)
  listed ride number trace calls by =
      let next : Listed → Ride × ℕ = λ l. (l.ride, l.number) in
      let all = comes (λ c. taken c.answer.done) (λ c. bytes_of c.answer.done) next (told style (gap_at store)) (on style (gap_at store))
      (ListCall style store) (none style (gap_at store)) takes (ride, number) trace calls by in (
        ap (λ (g : Gone (Ride × ℕ)). g.text) all,
        sym (part_of (λ (s : Ride × ℕ). s.0) next (ride, number) calls) ∙ ap (λ (g : Gone (Ride × ℕ)). g.state.0) all,
        sym (part_of (λ (s : Ride × ℕ). s.1) next (ride, number) calls) ∙ ap (λ (g : Gone (Ride × ℕ)). g.state.1) all
            ∙ ap (λ (k : ℕ). number + k) (records_length (records_in trace) trace),
      )
