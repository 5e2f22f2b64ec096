-- The compacted records ride as the original ones do: where a record is dropped, the next one is
-- accepted from the lower odometer too, and from there on all is the same.
-- Assumes nothing.
use Prim.Native.Nat.{ℕ, suc}
use mathlib.Core.Path.{◌≡◌, refl, sym, ap, subst}
use mathlib.Core.Bool.{true}
use mathlib.Core.List.{List, [], ◌∷◌, ◌++◌}
use Rattle.words.specs.Answer.{Outcome, gives, refuses}
use Rattle.ride.specs.declared.Line.{Line}
use Rattle.ride.specs.declared.Ride.{Ride}
use Rattle.ride.specs.Record.{odometer_of}
use Rattle.ride.specs.Step.{Step, treat}
use Rattle.ride.specs.Over.{lines_for, Ridden, before, ride_over}
use Rattle.compaction.specs.Dropped.{is_quiet, is_dropped_before, compact_over}
use Rattle.compaction.specs.Smaller.{without_refused, refusals, Agree, none, same, refused, KeptOf, nothing, kept, dropped, Smaller}
use Rattle.compaction.proofs.Lower.{Lower, level, first_step, still_lower, was_quiet, was_kind, by_pick}
use Rattle.compaction.proofs.Once.{once_more}
use Rattle.words.proofs.Never.{cannot_be}

-- ---- the same ride

-- Two rides with the same end state, whose lines agree but for the numbers of refused records.
record Alike (a b : Ridden) : Type 0 where
  pub ride : a.ride ≡ b.ride
  pub lines : Agree a.lines b.lines

agree_all : (ls : List Line) → Agree ls ls
agree_all [] = none
agree_all (l ∷ ls) = same l (agree_all ls)

agree_join : {ps qs : List Line} (ls ms : List Line) → Agree ps qs → Agree ls ms → Agree (ps ++ ls) (qs ++ ms)
agree_join ls ms none h = h
agree_join ls ms (same l a) h = same l (agree_join ls ms a h)
agree_join ls ms (refused i j n a) h = refused i j n (agree_join ls ms a h)

agree_for : (k m : ℕ) (o : Outcome (List Line)) → Agree (lines_for k o) (lines_for m o)
agree_for k m (gives ls) = agree_all ls
agree_for k m (refuses n) = refused k m n none

no_lines : (m : ℕ) (o : Outcome (List Line)) → is_quiet o ≡ true → lines_for m o ≡ []
no_lines m (gives []) q = refl
no_lines m (gives (l ∷ ls)) q = cannot_be cc
no_lines m (refuses n) q = cannot_be cc

-- a dropped record gave no line
after_dropped : (m : ℕ) (a b : Ridden) (o : Outcome (List Line)) → is_quiet o ≡ true → Alike a b → Alike a (before (lines_for m o) b)
after_dropped m a b o q h =
    record { ride = h.ride; lines = subst (λ (ls : List Line). Agree a.lines (ls ++ b.lines)) (sym (no_lines m o q)) h.lines }

-- a kept record gave the same lines, but for its number
after_kept : (k m : ℕ) (a b : Ridden) (o : Outcome (List Line)) → Alike a b → Alike (before (lines_for k o) a) (before (lines_for m o) b)
after_kept k m a b o h = record { ride = h.ride; lines = agree_join a.lines b.lines (agree_for k m o) h.lines }

alike : (gaps : ℕ → ℕ) (ride low : Ride) (k m : ℕ) (rs : List (List ℕ)) → Lower ride low rs
    → Alike (ride_over gaps low k (compact_over gaps ride rs)) (ride_over gaps ride m rs)
unfolding ride_over compact_over
alike gaps ride low k m [] level = record { ride = refl; lines = none }
alike gaps ride low k m (r ∷ rs) l =
    let gap : ℕ = gaps (odometer_of r) in
    let s : Step = treat ride gap r in
    let rest : List (List ℕ) = compact_over gaps s.ride rs in
    by_pick (λ ks. Alike (ride_over gaps low k ks) (ride_over gaps ride m (r ∷ rs))) (is_dropped_before ride gap r rs) rest (r ∷ rest)
    (λ e.
    after_dropped m (ride_over gaps low k rest) (ride_over gaps s.ride (suc m) rs) s.lines (was_quiet ride gap r rs e)
    (alike gaps s.ride low k (suc m) rs (still_lower ride low gap r rs l e)))
    (λ e.
    subst (λ (t : Step). Alike (before (lines_for k t.lines) (ride_over gaps t.ride (suc k) rest)) (ride_over gaps ride m (r ∷ rs)))
    (sym (first_step ride low gap r rs l))
    (after_kept k m (ride_over gaps s.ride (suc k) rest) (ride_over gaps s.ride (suc m) rs) s.lines
    (alike gaps s.ride s.ride (suc k) (suc m) rs level)))

others_agree : {ps qs : List Line} → Agree ps qs → without_refused ps ≡ without_refused qs
others_agree none = refl
others_agree (same (Line.Group seen) a) = ap (λ (ls : List Line). Line.Group seen ∷ ls) (others_agree a)
others_agree (same (Line.Fault place n) a) = ap (λ (ls : List Line). Line.Fault place n ∷ ls) (others_agree a)
others_agree (same (Line.Missed place) a) = ap (λ (ls : List Line). Line.Missed place ∷ ls) (others_agree a)
others_agree (same (Line.Record number n) a) = others_agree a
others_agree (same (Line.Trace n) a) = ap (λ (ls : List Line). Line.Trace n ∷ ls) (others_agree a)
others_agree (refused number other n a) = others_agree a

refusals_agree : {ps qs : List Line} → Agree ps qs → refusals ps ≡ refusals qs
refusals_agree none = refl
refusals_agree (same (Line.Group seen) a) = refusals_agree a
refusals_agree (same (Line.Fault place n) a) = refusals_agree a
refusals_agree (same (Line.Missed place) a) = refusals_agree a
refusals_agree (same (Line.Record number n) a) = ap (λ (ns : List ℕ). n ∷ ns) (refusals_agree a)
refusals_agree (same (Line.Trace n) a) = refusals_agree a
refusals_agree (refused number other n a) = ap (λ (ns : List ℕ). n ∷ ns) (refusals_agree a)

-- ---- a subsequence

kept_of : (gaps : ℕ → ℕ) (ride : Ride) (rs : List (List ℕ)) → KeptOf (compact_over gaps ride rs) rs
unfolding compact_over
kept_of gaps ride [] = nothing
kept_of gaps ride (r ∷ rs) =
    let gap : ℕ = gaps (odometer_of r) in
    let rest = compact_over gaps (treat ride gap r).ride rs in
    by_pick (λ ks. KeptOf ks (r ∷ rs)) (is_dropped_before ride gap r rs) rest (r ∷ rest)
    (λ e. dropped (was_kind ride gap r rs e) (kept_of gaps (treat ride gap r).ride rs))
    (λ e. kept (kept_of gaps (treat ride gap r).ride rs))

-- ---- all of it

pub smaller : Smaller
smaller = record {
  end_state = λ gaps ride k m rs. (alike gaps ride ride k m rs level).ride;
  lines = λ gaps ride k m rs. (alike gaps ride ride k m rs level).lines;
  group_and_missed = λ gaps ride k m rs. others_agree (alike gaps ride ride k m rs level).lines;
  refused_lines = λ gaps ride k m rs. refusals_agree (alike gaps ride ride k m rs level).lines;
  in_order = kept_of;
  once = λ gaps ride rs. once_more gaps ride ride rs level;
}
