-- Compacting once more drops nothing: what kept a record still keeps it.
-- Assumes nothing.
use Prim.Native.Nat.{ℕ}
use mathlib.Core.Path.{◌≡◌, refl, ap, ◌∙◌}
use mathlib.Core.Bool.{Bool, true, false, ◌&&◌}
use mathlib.Core.List.{List, [], ◌∷◌}
use lib.Dec.{eqb}
use Rattle.words.specs.Answer.{pick}
use Rattle.ride.specs.declared.Ride.{Ride}
use Rattle.ride.specs.Record.{odometer_of, kind_of, check_record}
use Rattle.ride.specs.Step.{Step, treat}
use Rattle.compaction.specs.Dropped.{is_quiet, is_accepted, is_dropped, is_dropped_before, compact_over}
use Rattle.compaction.proofs.Laws.{quiet_accepted}
use Rattle.compaction.proofs.Lower.{Lower, level, first_step, still_lower, was_quiet, by_pick}
use Rattle.words.proofs.Never.{cannot_be}

-- whether a record is dropped goes by its step
by_step : (ride low : Ride) (gap : ℕ) (r : List ℕ) (ks : List (List ℕ)) → treat low gap r ≡ treat ride gap r
    → is_dropped_before low gap r ks ≡ is_dropped_before ride gap r ks
unfolding is_dropped
by_step ride low gap r [] e = refl
by_step ride low gap r (next ∷ ks) e =
    ap (λ (s : Step). eqb (kind_of r) 3 && (is_quiet s.lines && is_accepted (check_record s.ride.odometer next))) e

neither : (a b c d : Bool) → (a && (b && c)) ≡ false → c ≡ true → (a && (b && d)) ≡ false
neither true true true d e f = cannot_be cc
neither true true false d e f = cannot_be cc
neither true false c d e f = refl
neither false b c d e f = refl

-- a record that was kept although the next one was accepted is kept before whatever follows
kept_before : (ride : Ride) (gap : ℕ) (r next : List ℕ) (ks : List (List ℕ)) → is_dropped ride gap r next ≡ false
    → is_accepted (check_record (treat ride gap r).ride.odometer next) ≡ true → is_dropped_before ride gap r ks ≡ false
unfolding is_dropped
kept_before ride gap r next [] e a = refl
kept_before ride gap r next (k ∷ ks) e a =
    neither (eqb (kind_of r) 3) (is_quiet (treat ride gap r).lines) (is_accepted (check_record (treat ride gap r).ride.odometer next))
    (is_accepted (check_record (treat ride gap r).ride.odometer k)) e a

-- what kept a record among the original ones keeps it among those that are left
still_kept : (gaps : ℕ → ℕ) (ride : Ride) (gap : ℕ) (r : List ℕ) (rs : List (List ℕ)) → is_dropped_before ride gap r rs ≡ false
    → is_dropped_before ride gap r (compact_over gaps (treat ride gap r).ride rs) ≡ false
unfolding compact_over
still_kept gaps ride gap r [] e = refl
still_kept gaps ride gap r (next ∷ rs) e =
    let then : Ride = (treat ride gap r).ride in
    let its : ℕ = gaps (odometer_of next) in
    let rest = compact_over gaps (treat then its next).ride rs in
    by_pick (λ ks. is_dropped_before ride gap r ks ≡ false) (is_dropped_before then its next rs) rest (next ∷ rest)
    (λ d. kept_before ride gap r next rest e (quiet_accepted then its next (was_quiet then its next rs d)))
    (λ d. e)

pub once_more : (gaps : ℕ → ℕ) (ride low : Ride) (rs : List (List ℕ)) → Lower ride low rs → compact_over gaps low (compact_over gaps ride rs) ≡ compact_over gaps ride rs
unfolding compact_over
once_more gaps ride low [] l = refl
once_more gaps ride low (r ∷ rs) l =
    let gap : ℕ = gaps (odometer_of r) in
    let s : Step = treat ride gap r in
    let rest : List (List ℕ) = compact_over gaps s.ride rs in
    by_pick (λ ks. compact_over gaps low ks ≡ ks) (is_dropped_before ride gap r rs) rest (r ∷ rest)
    (λ e. once_more gaps s.ride low rs (still_lower ride low gap r rs l e))
    (λ e.
    let step : treat low gap r ≡ s = first_step ride low gap r rs l in
    let stays : is_dropped_before low gap r rest ≡ false = by_step ride low gap r rest step ∙ still_kept gaps ride gap r rs e in
    ap (λ (b : Bool). pick b (compact_over gaps (treat low gap r).ride rest) (r ∷ compact_over gaps (treat low gap r).ride rest)) stays
    ∙ ap (λ (t : Step). r ∷ compact_over gaps t.ride rest) step
    ∙ ap (λ (ks : List (List ℕ)). r ∷ ks) (once_more gaps s.ride s.ride rs level))
