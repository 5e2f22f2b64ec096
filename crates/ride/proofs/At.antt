-- The record at an index of a trace: what the reply tells of it. Whoever goes over a trace has
-- these for each of its turns.
-- Assumes nothing.
use Prim.Native.Nat.{ℕ, ◌/◌, ◌≤◌, ◌<◌}
use native.Mathlib.Omega.{arith}
use mathlib.Core.Path.{◌≡◌, refl, sym, ap, ◌∙◌}
use mathlib.Core.Bool.{Bool, true, false}
use mathlib.Core.Logic.{⊎_elim}
use mathlib.Core.List.{List, [], ◌∷◌}
use lib.Dec.{ltb}
use lib.ListN.{length}
use borrow.Author.Tests.{lt-ltb, le-ltb, ltb-true, ltb-false}
use types.Run.{OneOf}
use denote.Enum.Declared.{tag_of}
use Rattle.words.specs.Answer.{Outcome, gives, refuses}
use Rattle.ride.specs.declared.Line.{Line}
use Rattle.ride.specs.declared.Ride.{Ride}
use Rattle.std.specs.Prelude.{Result}
use Rattle.ride.specs.declared.Lines.{Lines}
use Rattle.ride.specs.declared.Wrong.{Wrong}
use Rattle.ride.specs.declared.trace.Reply.{Reply}
use Rattle.ride.specs.declared.trace.Treated.{Treated}
use Rattle.ride.specs.Joining.{allowed}
use Rattle.ride.specs.Step.{Step, treat}
use Rattle.ride.specs.At.{record_at, Standing, no_record, treated, Treatment, by_step, stays, treat_at}
use Rattle.ride.specs.Says.{says_given, says_reply, says_treated}
use Rattle.ride.specs.contracts.trace.Reply.{the_type}
use Rattle.words.proofs.Never.{cannot_be}

-- ---- the definition, from what its tests say

pub at_gap : (ride : Ride) (gap : ℕ) (trace : List ℕ) (i : ℕ) → allowed gap ≡ false → stays ride (refuses 19) ≡ treat_at ride gap trace i
unfolding treat_at
at_gap ride gap trace i e = rw e

pub at_none : (ride : Ride) (gap : ℕ) (trace : List ℕ) (i : ℕ) → allowed gap ≡ true → length trace / 8 ≤ i → stays ride (gives no_record) ≡ treat_at ride gap trace i
unfolding treat_at
at_none ride gap trace i e h = rw (e, le-ltb i (length trace / 8) h)

pub at_record : (ride : Ride) (gap : ℕ) (trace : List ℕ) (i : ℕ) → allowed gap ≡ true → i < length trace / 8
    → by_step (treat ride gap (record_at trace i)) ≡ treat_at ride gap trace i
unfolding treat_at
at_record ride gap trace i e h = rw (e, lt-ltb i (length trace / 8) h)

-- ---- what a reply tells

never : (A : Type 0) (s : Standing) (n : ℕ) → ◌≡◌ {A = Outcome Standing} (gives s) (refuses n) → A
never A s n e = cannot_be cc

never_both : (A : Type 0) (o : Outcome (List Line)) → ◌≡◌ {A = Outcome Standing} (gives no_record) (gives (treated o)) → A
never_both A o e = cannot_be cc

-- A reply with a record: it stands in the trace, and its step is what was answered.
pub record Took (ride : Ride) (gap : ℕ) (trace : List ℕ) (i : ℕ) (t : Treated) (g : Result Lines Wrong) : Type 0 where
  pub there : i < length trace / 8
  pub step : ◌≡◌ {A = Step} (record { lines = says_given g; closed = t.closed; ride = t.ride }) (treat ride gap (record_at trace i))

same_lines : (s : Step) (t : Treated) (g : Result Lines Wrong) → t.reply ≡ Reply.Record g → says_treated t ≡ by_step s
    → ◌≡◌ {A = Step} (record { lines = says_given g; closed = t.closed; ride = t.ride }) s
same_lines s t g e h =
    let reply : gives (treated (says_given g)) ≡ gives (treated s.lines) = ap says_reply (sym e) ∙ ap (λ (x : Treatment). x.reply) h in
    let lines : says_given g ≡ s.lines = cc in
    let closed : t.closed ≡ s.closed = ap (λ (x : Treatment). x.closed) h in
    let after : t.ride ≡ s.ride = ap (λ (x : Treatment). x.ride) h in
    rw (lines, closed, after)

took_by : (b : Bool) (ride : Ride) (gap : ℕ) (trace : List ℕ) (i : ℕ) (t : Treated) (g : Result Lines Wrong) → allowed gap ≡ true → ltb i (length trace / 8) ≡ b
    → says_treated t ≡ treat_at ride gap trace i → t.reply ≡ Reply.Record g → Took ride gap trace i t g
took_by true ride gap trace i t g a l h e =
    let there : i < length trace / 8 = ltb-true i (length trace / 8) l in
    record { there = there; step = same_lines _ t g e (h ∙ sym (at_record ride gap trace i a there)) }
took_by false ride gap trace i t g a l h e =
    let none = h ∙ sym (at_none ride gap trace i a (ltb-false i (length trace / 8) l)) in
    never_both _ (says_given g) (sym (ap (λ (x : Treatment). x.reply) none) ∙ ap says_reply e)

pub took : (ride : Ride) (gap : ℕ) (trace : List ℕ) (i : ℕ) (t : Treated) (g : Result Lines Wrong) → allowed gap ≡ true
    → says_treated t ≡ treat_at ride gap trace i → t.reply ≡ Reply.Record g → Took ride gap trace i t g
took ride gap trace i t g a h e = took_by (ltb i (length trace / 8)) ride gap trace i t g a refl h e

-- A reply without one, where the gap is allowed: the trace has no record there.
no_other : (A : Type 0) (r : Reply) (o : Outcome (List Line)) → says_reply r ≡ gives (treated o) → OneOf (0 ∷ 1 ∷ []) (tag_of the_type r) → A
no_other A Reply.Gap o e h = never A (treated o) 19 (sym e)
no_other A Reply.NoRecord o e h = never_both A o e
no_other A (Reply.Record g) o e h = absurd (⊎_elim (λ z. omega arith) (λ z. omega arith) h)

past_by : (b : Bool) (ride : Ride) (gap : ℕ) (trace : List ℕ) (i : ℕ) (t : Treated) → allowed gap ≡ true → ltb i (length trace / 8) ≡ b
    → says_treated t ≡ treat_at ride gap trace i → OneOf (0 ∷ 1 ∷ []) (tag_of the_type t.reply) → length trace / 8 ≤ i
past_by true ride gap trace i t a l h other =
    no_other _ t.reply (treat ride gap (record_at trace i)).lines
    (ap (λ (x : Treatment). x.reply) (h ∙ sym (at_record ride gap trace i a (ltb-true i (length trace / 8) l))))
    other
past_by false ride gap trace i t a l h other = ltb-false i (length trace / 8) l

pub past : (ride : Ride) (gap : ℕ) (trace : List ℕ) (i : ℕ) (t : Treated) → allowed gap ≡ true
    → says_treated t ≡ treat_at ride gap trace i → OneOf (0 ∷ 1 ∷ []) (tag_of the_type t.reply) → length trace / 8 ≤ i
past ride gap trace i t a h other = past_by (ltb i (length trace / 8)) ride gap trace i t a refl h other
