-- The promises hold: what a compaction made is the kept records' bytes, and the laws of
-- compaction/specs/Smaller.antt are about those.
-- Assumes nothing.
use Prim.Native.Nat.{ℕ, ◌%◌}
use mathlib.Core.Path.{◌≡◌, sym, ap, ap₂, subst, ◌∙◌}
use mathlib.Core.Bool.{true}
use mathlib.Core.List.{List}
use lib.Dec.{eqb}
use lib.ListN.{length, take}
use borrow.Author.Tests.{eq-eqb}
use Rattle.words.specs.Answer.{gives}
use Rattle.words.proofs.Told.{told}
use Rattle.settings.specs.declared.Store.{Store}
use Rattle.settings.specs.Versions.{kept}
use Rattle.settings.specs.Store.{judged}
use Rattle.settings.specs.At.{gap_at}
use Rattle.ride.specs.declared.Ride.{Ride}
use Rattle.ride.specs.declared.Ran.{Ran}
use Rattle.ride.specs.Over.{records, ride_over, through, Run, run}
use Rattle.ride.specs.Says.{says_ran}
use Rattle.ride.proofs.Determined as ride_is
use Rattle.ride.proofs.Under.{run_through}
use Rattle.compaction.specs.Dropped.{compact_over}
use Rattle.compaction.specs.Smaller.{KeptOf}
use Rattle.compaction.specs.Compact.{bytes_of, Compaction, smaller_trace, compact}
use Rattle.compaction.specs.Says.{says_size, says_compacted}
use Rattle.ride.specs.declared.TraceRefused.{TraceRefused}
use Rattle.std.specs.Prelude.{Result, Ok, Err}
use Rattle.compaction.specs.declared.Compacted.{Compacted}
use Rattle.compaction.proofs.Trace.{new_whole, compacted_again}
use Rattle.compaction.proofs.Judging.{compact_whole}
use Rattle.compaction.proofs.Smaller.{smaller}
use Rattle.compaction.proofs.Determined as compaction_is
use Rattle.demands.specs.ByContract.{RunOver}
use Rattle.demands.specs.Compacting.{CompactIn}
use Rattle.compaction_laws.specs.Trace.{Compacting, small_of, SmallerTrace}
use Rattle.compaction_laws.proofs.Made.{Was, was_made, Made, made_so, same_lines}
use Rattle.compaction_laws.proofs.Missing.{left_is}

-- ---- from the contracts

-- what is said of an answer of n bytes
said : (c : Compacted) (after : List ℕ) (n : ℕ) → c.size ≡ Ok n → says_compacted c after ≡ record { answer = gives n; ride = c.ride; buffer = after }
said c after n e = ap (λ (s : Result ℕ TraceRefused). record { answer = says_size s; ride = c.ride; buffer = after }) e

compacted_is : (ride : Ride) (store : Store) (before : List ℕ) (c : Compacted) (after : List ℕ) → CompactIn ride store before c after
    → says_compacted c after ≡ compact ride store before
compacted_is ride store before c after h =
    ap (λ (b : List ℕ). says_compacted c b) (sym h.4) ∙ h.5 ∙ ap (compact ride store) h.3

-- what was made
pub record Under (ride : Ride) (store : Store) (before : List ℕ) (c : Compacted) (after : List ℕ) (n : ℕ) : Type 0 where
  pub judged_so : judged store ≡ gives kept
  pub was : Was (gap_at store) ride before (compact ride store before)
  pub made : Made (gap_at store) ride before n c.ride after

pub under_made : (ride : Ride) (store : Store) (before : List ℕ) (c : Compacted) (after : List ℕ) (n : ℕ) → CompactIn ride store before c after → c.size ≡ Ok n
    → Under ride store before c after n
under_made ride store before c after n h e =
    let is = sym (said c after n e) ∙ compacted_is ride store before c after h in
    let was = was_made ride store before n (sym (ap (λ (x : Compaction). x.answer) is)) in
    record { judged_so = was.1; was = was.0; made = made_so (gap_at store) ride before n c.ride after (is ∙ was.0.is) }

abbrev made_of : (c : Compacting) → Under c.ride c.store c.before c.answer c.after c.n
made_of c = under_made c.ride c.store c.before c.answer c.after c.n c.called c.size

-- ---- by `run`

-- a run that goes through all records of this trace
abbrev over : (ℕ → ℕ) → Ride → List ℕ → Run
over gaps ride trace = record { answer = gives through; ride = (ride_over gaps ride 1 (records trace)).ride }

ran : (ride : Ride) (store : Store) (trace : List ℕ) (p : Ran) → RunOver ride store trace p → judged store ≡ gives kept → length trace % 8 ≡ 0
    → says_ran p ≡ over (gap_at store) ride trace
ran ride store trace p c good whole =
    c.4 ∙ ap (run ride store) c.3 ∙ sym (run_through ride store trace good (eq-eqb (length trace % 8) 0 whole))

-- the compacted trace has whole records too
whole_again : (gaps : ℕ → ℕ) (ride : Ride) (before : List ℕ) (n : ℕ) (end : Ride) (after : List ℕ) → Made gaps ride before n end after → length (take n after) % 8 ≡ 0
whole_again gaps ride before n end after made = ap (λ (b : List ℕ). length b % 8) made.small ∙ new_whole gaps ride before

-- runs over the original and over what was made
same_run : (gaps : ℕ → ℕ) (ride : Ride) (before : List ℕ) (n : ℕ) (end : Ride) (after : List ℕ) → Made gaps ride before n end after → (p q : Ran)
    → says_ran p ≡ over gaps ride before → says_ran q ≡ over gaps ride (take n after) → (q ≡ p) × (end ≡ p.ride)
same_run gaps ride before n end after made p q first second =
    let state : (ride_over gaps ride 1 (records (take n after))).ride ≡ (ride_over gaps ride 1 (records before)).ride =
    ap (λ (rs : List (List ℕ)). (ride_over gaps ride 1 rs).ride) made.records_are ∙ smaller.end_state gaps ride 1 1 (records before) in
    let same = second ∙ ap (λ (s : Ride). record { answer = gives through; ride = s }) state in
    (told says_ran ride_is.ran_of ride_is.ran_back q p same first, made.state ∙ sym (ap (λ (r : Run). r.ride) first))

-- ---- once more

-- the compaction of what was made
again : (gaps : ℕ → ℕ) (ride : Ride) (before : List ℕ) (c : Compacted) (after : List ℕ) (n : ℕ) → c.size ≡ Ok n → Made gaps ride before n c.ride after
    → smaller_trace gaps ride (take n after) ≡ says_compacted c (take n after)
again gaps ride before c after n e made =
    let bytes : List ℕ = bytes_of (compact_over gaps ride (records before)) in
    ap (smaller_trace gaps ride) made.small ∙ compacted_again gaps ride before
    ∙ ap (λ (k : ℕ). record { answer = gives k; ride = (ride_over gaps ride 1 (records before)).ride; buffer = bytes }) (sym made.long)
    ∙ ap₂ (λ (s : Ride) (b : List ℕ). record { answer = gives n; ride = s; buffer = b }) (sym made.state) (sym made.small)
    ∙ sym (said c (take n after) n e)

-- ---- all of it

pub smaller_trace_law : SmallerTrace
smaller_trace_law = record {
  by_run = λ c p q f g.
      let x = made_of c in
      same_run (gap_at c.store) c.ride c.before c.n c.answer.ride c.after x.made p q (ran c.ride c.store c.before p f x.judged_so x.was.whole)
      (ran c.ride c.store (small_of c) q g x.judged_so (whole_again (gap_at c.store) c.ride c.before c.n c.answer.ride c.after x.made));
  by_step = λ c k m all small p q.
      let x = made_of c in
      same_lines (gap_at c.store) x.was.good c.ride c.before c.n c.answer.ride c.after x.made k m all small p q;
  exactly = λ c all p.
      let x = made_of c in
      x.made.records_are ∙ left_is (gap_at c.store) x.was.good c.ride (records c.before) all p;
  in_order = λ c.
      let x = made_of c in
      subst (λ (ks : List (List ℕ)). KeptOf ks (records c.before)) (sym x.made.records_are) (smaller.in_order (gap_at c.store) c.ride (records c.before));
  beyond = λ c. (made_of c).made.rest;
  once = λ c again-answer after h.
      let x = made_of c in
      let whole : eqb (length (small_of c) % 8) 0 ≡ true =
      eq-eqb _ 0 (whole_again (gap_at c.store) c.ride c.before c.n c.answer.ride c.after x.made) in
      compaction_is.same_compaction again-answer c.answer after (small_of c)
      (compacted_is c.ride c.store (small_of c) again-answer after h ∙ sym (compact_whole c.ride c.store (small_of c) x.judged_so whole)
      ∙ again (gap_at c.store) c.ride c.before c.answer c.after c.n c.size x.made);
}
