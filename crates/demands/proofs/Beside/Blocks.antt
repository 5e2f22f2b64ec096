-- Cards by `list`: whatever blocks it is called with, what it writes is the text of the ride over
-- all of their records.
-- Assumes nothing.
use Prim.Native.Nat.{ℕ, ◌+◌, ◌*◌, ◌≤◌, ◌<◌}
use native.Mathlib.Omega.{arith}
use mathlib.Core.Path.{◌≡◌, sym, ap, ap₂, ◌∙◌}
use mathlib.Core.Bool.{Bool, false}
use mathlib.Core.List.{List, [], ◌++◌, append_assoc}
use lib.ListN.{length, take, length-append}
use Rattle.words.specs.Answer.{pick}
use Rattle.words.specs.Limits.{largest64}
use Rattle.settings.specs.declared.Store.{Store}
use Rattle.settings.specs.At.{gap_at}
use Rattle.ride.specs.State.{fresh_ride}
use Rattle.ride.specs.Step.{end}
use Rattle.ride.specs.Over.{first_records, records, Ridden, ride_over}
use Rattle.ride.specs.declared.Line.{Line}
use Rattle.ride.specs.declared.Ride.{Ride}
use Rattle.ride.proofs.Sections.{ride_joined}
use Rattle.text.specs.Put as texts
use Rattle.ride_text.specs.Style.{plain}
use Rattle.ride_text.specs.Text.{text, text_of}
use Rattle.ride_text.specs.Told.{end_text}
use Rattle.ride_text.specs.declared.Listed.{Listed}
use Rattle.ride_text.proofs.Texts.{text_join, plain_is}
use Rattle.ride_text.proofs.SameLines.{same_lines}
use Rattle.ride_text.proofs.Taken.{end_spelled}
use Rattle.demands.specs.ByContract.{Fresh, PutEnd, ListInto}
use Rattle.demands.specs.Stores.{Good}
use Rattle.demands.specs.Output.{records_in}
use Rattle.demands.specs.Sections.{Whole, Call, taken, ByList, text_from, after_calls, number_after, joined, any_bad, output_by}
use Rattle.demands.proofs.Demand2.Taking.{takes_so}
use Rattle.demands.proofs.Beside.Cards.{eights, whole_join}
use Rattle.demands.proofs.Beside.Told.{listed}

module _ (store : Store) (good : Good store) where
  abbrev gaps : ℕ → ℕ
  gaps = gap_at store

  -- ---- all calls

  -- What calls over a trace come to: the text of its lines, the state after it, and the next
  -- record's number.
  pub comes : (ride : Ride) (number : ℕ) (trace : List ℕ) (calls : List (Call Listed)) → ByList plain store ride number trace calls
      → (text_from calls ≡ text_of (ride_over gaps ride number (records trace)).lines)
      × (after_calls ride calls ≡ (ride_over gaps ride number (records trace)).ride)
      × (number_after number calls ≡ number + records_in trace)
  comes ride number trace calls by =
      let all = listed plain store good ride number trace calls by in
      let same = same_lines gaps ride number (records trace) in
      (all.0 ∙ same.document, all.1 ∙ same.state plain, all.2)

  -- ---- cards

  -- two cards, each by its calls, come to what the joined card does
  pub comes_joined : (ride : Ride) (number : ℕ) (a b : List ℕ) (p q : List (Call Listed)) → Whole a
      → ByList plain store ride number a p → ByList plain store (after_calls ride p) (number + records_in a) b q
      → (text_from p ++ text_from q ≡ text_of (ride_over gaps ride number (records (a ++ b))).lines)
      × (after_calls (after_calls ride p) q ≡ (ride_over gaps ride number (records (a ++ b))).ride)
      × (number_after (number + records_in a) q ≡ number + records_in a + records_in b)
  comes_joined ride number a b p q whole c d =
      let first : Ridden = ride_over gaps ride number (records a) in
      let then : Ridden = ride_over gaps first.ride (number + records_in a) (records b) in
      let one = comes ride number a p c in
      let two = comes (after_calls ride p) (number + records_in a) b q d in
      let then_is : ride_over gaps (after_calls ride p) (number + records_in a) (records b) ≡ then =
      ap (λ (r : Ride). ride_over gaps r (number + records_in a) (records b)) one.1 in
      let all = ride_joined gaps ride number a b (eights a whole) in (
        ap₂ ◌++◌ one.0 (two.0 ∙ ap (λ (r : Ridden). text_of r.lines) then_is)
            ∙ sym (text_join first.lines then.lines)
            ∙ ap (λ (r : Ridden). text_of r.lines) (sym all),
        two.1 ∙ ap (λ (r : Ridden). r.ride) then_is ∙ ap (λ (r : Ridden). r.ride) (sym all),
        two.2,
      )

  pub two_by_calls : (ride : Ride) (number : ℕ) (a b : List ℕ) (p q both : List (Call Listed)) → Whole a → Whole b
      → ByList plain store ride number a p → ByList plain store (after_calls ride p) (number + records_in a) b q → ByList plain store ride number (a ++ b) both
      → (text_from both ≡ text_from p ++ text_from q) × (after_calls ride both ≡ after_calls (after_calls ride p) q)
      × (number_after number both ≡ number_after (number + records_in a) q)
  two_by_calls ride number a b p q both v w c d e =
      let parts = comes_joined ride number a b p q v c d in
      let all = comes ride number (a ++ b) both e in
      let many : number + records_in (a ++ b) ≡ number + records_in a + records_in b = omega (arith, eights a v, length-append a b) in
      (all.0 ∙ sym parts.0, all.1 ∙ sym parts.1, all.2 ∙ many ∙ sym parts.2)

  pub three_by_calls : (ride : Ride) (number : ℕ) (a b c : List ℕ) (ab last a' bc : List (Call Listed)) → Whole a → Whole b → Whole c
      → ByList plain store ride number (a ++ b) ab → ByList plain store (after_calls ride ab) (number + records_in (a ++ b)) c last
      → ByList plain store ride number a a' → ByList plain store (after_calls ride a') (number + records_in a) (b ++ c) bc
      → (text_from ab ++ text_from last ≡ text_from a' ++ text_from bc) × (after_calls (after_calls ride ab) last ≡ after_calls (after_calls ride a') bc)
  three_by_calls ride number a b c ab last a' bc u v w p q r s =
      let one = comes_joined ride number (a ++ b) c ab last (whole_join a b u v) p q in
      let two = comes_joined ride number a (b ++ c) a' bc u r s in
      let same : ride_over gaps ride number (records ((a ++ b) ++ c)) ≡ ride_over gaps ride number (records (a ++ (b ++ c))) =
      ap (λ (t : List ℕ). ride_over gaps ride number (records t)) (append_assoc a b c) in
      (one.0 ∙ ap (λ (x : Ridden). text_of x.lines) same ∙ sym two.0, one.1 ∙ ap (λ (x : Ridden). x.ride) same ∙ sym two.1)

  pub empty_by_calls : (ride : Ride) (number : ℕ) (q : List (Call Listed)) → ByList plain store ride number [] q
      → (text_from q ≡ []) × (after_calls ride q ≡ ride) × (number_after number q ≡ number)
  unfolding first_records ride_over text_of
  empty_by_calls ride number q c =
      let e = comes ride number [] q c in
      let none : number + records_in [] ≡ number = omega arith in
      (e.0, e.1, e.2 ∙ none)

  -- ---- the program's blocks

  pub goes_on_by : (ride : Ride) (number : ℕ) (c : Call Listed) → Whole c.block → 1 ≤ records_in c.block → 128 ≤ length c.before
      → number < largest64 → ListInto plain ride store number c.block c.before c.answer c.after → 1 ≤ taken c.answer.done
  goes_on_by ride number c whole some room small call =
      let t = takes_so ride store number c.block c.before c.answer c.after good whole call in
      omega (arith, ap taken t.took, t.one_at_least some room small)

  pub at_once_by : (ride : Ride) (number : ℕ) (c : Call Listed) → Whole c.block → 128 * records_in c.block ≤ length c.before
      → number + records_in c.block ≤ largest64 → ListInto plain ride store number c.block c.before c.answer c.after
      → taken c.answer.done ≡ records_in c.block
  at_once_by ride number c whole room small call =
      let t = takes_so ride store number c.block c.before c.answer c.after good whole call in
      ap taken t.took ∙ t.all_with_room room small

  pub program_by : (f : Ride) (cards : List (List ℕ)) (calls : List (Call Listed)) (room : List ℕ) (n : ℕ) (after : List ℕ) → any_bad cards ≡ false → Fresh f
      → ByList plain store f 1 (joined cards) calls → 128 ≤ length room → PutEnd plain (after_calls f calls) room 0 n after → text_from calls ++ take n after ≡ output_by gaps cards
  unfolding output_by end_text
  program_by f cards calls room n after fine fresh c wide ended =
      let came = comes f 1 (joined cards) calls c in
      let all : Ridden = ride_over gaps fresh_ride 1 (records (joined cards)) in
      let last : Ride = after_calls f calls in
      let ride_is : last ≡ all.ride = came.1 ∙ ap (λ (r : Ride). (ride_over gaps r 1 (records (joined cards))).ride) fresh.1 in
      let says : texts.came n after ≡ texts.put (end_text plain last) room 0 =
      ap (texts.came n) (sym ended.4) ∙ ended.5 ∙ ap (λ (b : List ℕ). texts.put (end_text plain last) b 0) ended.3 in
      let written : take n after ≡ text_of (end all.ride).lines =
      end_spelled plain last room wide says ∙ plain_is (end last).closed (end last).lines ∙ ap (λ (r : Ride). text_of (end r).lines) ride_is in
      ap₂ ◌++◌ (came.0 ∙ ap (λ (r : Ride). text_of (ride_over gaps r 1 (records (joined cards))).lines) fresh.1) written
      ∙ sym (text_join all.lines (end all.ride).lines)
      ∙ ap (λ (b : Bool). pick b (text (Line.Trace 16)) (text_of (all.lines ++ (end all.ride).lines))) (sym fine)
