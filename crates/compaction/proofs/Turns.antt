-- The records of a block one after the other: what one turn comes to.
-- Assumes nothing.
use Prim.Native.Nat.{ℕ, ◌/◌, ◌<◌}
use native.Mathlib.Omega.{arith}
use mathlib.Core.Path.{◌≡◌, refl, sym, ap, ap₂, ◌∙◌}
use mathlib.Core.Bool.{Bool, true, false, not, ◌&&◌}
use mathlib.Core.List.{List, [], ◌∷◌}
use lib.Dec.{eqb}
use lib.ListN.{length, take}
use lib.Seq.{take-length}
use Rattle.words.specs.Answer.{Outcome, gives, pick}
use Rattle.settings.specs.declared.Store.{Store}
use Rattle.settings.specs.declared.Held.{Held}
use Rattle.settings.specs.Versions.{kept}
use Rattle.settings.specs.Store.{judged}
use Rattle.settings.specs.At.{gap_at, held_for}
use Rattle.settings.proofs.Holding.{Holding, keeps}
use Rattle.ride.specs.declared.Ride.{Ride}
use Rattle.ride.specs.declared.trace.Treated.{Treated}
use Rattle.ride.specs.Record.{odometer_of, kind_of, check_record}
use Rattle.ride.specs.Joining.{allowed}
use Rattle.ride.specs.Step.{Step, treat}
use Rattle.ride.specs.Says.{says_reply, says_treated}
use Rattle.ride.specs.At.{odometer_at, Standing, treated, Treatment, by_step, treat_at}
use Rattle.ride.proofs.At.{at_record}
use Rattle.ride.proofs.Under.{odometer_there, treat_held}
use Rattle.compaction.specs.declared.Waiting.{Waiting}
use Rattle.compaction.specs.Dropped.{is_quiet, is_accepted, is_dropped}
use Rattle.compaction.specs.Blocks.{settled, waits_next}
use Rattle.compaction.specs.Inside.{quiet_reply, Serves}

-- ---- the next record settles the one that waits

-- where none waits
pub none_waits : (gaps : ℕ → ℕ) (w : Waiting) (next : List ℕ) → w.waits ≡ false
    → ◌≡◌ {A = Waiting} (record { ride = w.ride; bytes = next; waits = true }) (waits_next gaps w next)
    × ◌≡◌ {A = List (List ℕ)} [] (settled gaps w next)
unfolding waits_next settled
none_waits gaps w next e = (rw e, rw e)

-- where one waits
settled_so : (d : Bool) (x : List ℕ) → pick (not d) (x ∷ []) [] ≡ pick d [] (x ∷ [])
settled_so true x = refl
settled_so false x = refl

pub one_waits : (gaps : ℕ → ℕ) (w : Waiting) (next : List ℕ) (ride : Ride) (dropped : Bool) → w.waits ≡ true
    → ride ≡ (treat w.ride (gaps (odometer_of w.bytes)) w.bytes).ride → dropped ≡ is_dropped w.ride (gaps (odometer_of w.bytes)) w.bytes next
    → ◌≡◌ {A = Waiting} (record { ride = ride; bytes = next; waits = true }) (waits_next gaps w next)
    × (pick (not dropped) (w.bytes ∷ []) [] ≡ settled gaps w next)
unfolding waits_next settled
one_waits gaps w next ride dropped e h d = (rw (e, h), settled_so dropped w.bytes ∙ rw (e, d))

-- ---- a gap that serves the waiting record settles as the rule's own does

drops_same : (ride : Ride) (gap other : ℕ) (r next : List ℕ) → treat ride gap r ≡ treat ride other r → is_dropped ride gap r next ≡ is_dropped ride other r next
unfolding is_dropped
drops_same ride gap other r next e =
    ap (λ (s : Step). eqb (kind_of r) 3 && (is_quiet s.lines && is_accepted (check_record s.ride.odometer next))) e

-- what treating the waiting record and looking at the next one say
pub settles : (gaps : ℕ → ℕ) (gap : ℕ) (w : Waiting) (next : List ℕ) (t : Treated) (dropped : Bool) → Serves gaps gap w.bytes → w.waits ≡ true
    → says_treated t ≡ by_step (treat w.ride gap w.bytes)
    → dropped ≡ (eqb (kind_of w.bytes) 3 && (quiet_reply (says_reply t.reply) && is_accepted (check_record t.ride.odometer next)))
    → ◌≡◌ {A = Waiting} (record { ride = t.ride; bytes = next; waits = true }) (waits_next gaps w next)
    × (pick (not dropped) (w.bytes ∷ []) [] ≡ settled gaps w next)
unfolding is_dropped
settles gaps gap w next t dropped s e is d =
    let own : ℕ = gaps (odometer_of w.bytes) in
    let ride_is : t.ride ≡ (treat w.ride gap w.bytes).ride = ap (λ (x : Treatment). x.ride) is in
    let reply_is : says_reply t.reply ≡ gives (treated (treat w.ride gap w.bytes).lines) = ap (λ (x : Treatment). x.reply) is in
    let dropped_is : dropped ≡ is_dropped w.ride gap w.bytes next =
    d ∙ ap₂ (λ (o : Outcome Standing) (x : Ride). eqb (kind_of w.bytes) 3 && (quiet_reply o && is_accepted (check_record x.odometer next))) reply_is ride_is in
    one_waits gaps w next t.ride dropped e (ride_is ∙ ap (λ (x : Step). x.ride) (s.treats w.ride))
    (dropped_is ∙ drops_same w.ride gap own w.bytes next (s.treats w.ride))

-- what is held for a record serves it
pub held_serves : (store : Store) (held next : Held) (r : List ℕ) → judged store ≡ gives kept → Holding store held → next ≡ held_for store held (odometer_of r)
    → Holding store next × Serves (gap_at store) next.gap r
held_serves store held next r good hold for =
    let on : Holding store (held_for store held (odometer_of r)) = keeps store held (odometer_of r) good hold in (
      rw for on,
      rw for (record { good = on.gap; treats = λ ride. treat_held store held ride r good hold }),
    )

-- ---- the odometer of eight bytes

pub odometer_whole : (bytes : List ℕ) → length bytes ≡ 8 → odometer_at bytes 0 ≡ odometer_of bytes
odometer_whole bytes e =
    let one : 0 < length bytes / 8 = omega arith in
    sym (odometer_there bytes 0 one) ∙ ap odometer_of (ap (λ (n : ℕ). take n bytes) (sym e) ∙ take-length bytes)

-- ---- the only record of eight bytes

pub treated_whole : (ride : Ride) (gap : ℕ) (bytes : List ℕ) (t : Treated) → length bytes ≡ 8 → allowed gap ≡ true → says_treated t ≡ treat_at ride gap bytes 0
    → says_treated t ≡ by_step (treat ride gap bytes)
treated_whole ride gap bytes t e good is =
    let one : 0 < length bytes / 8 = omega arith in
    is ∙ sym (at_record ride gap bytes 0 good one) ∙ ap (λ (b : List ℕ). by_step (treat ride gap b)) (ap (λ (n : ℕ). take n bytes) (sym e) ∙ take-length bytes)
