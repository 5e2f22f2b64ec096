-- Many at once is one after the other: a refusal leaves the viewer, where it stops the next call is
-- refused alike, and the lines of the records that are passed.
-- Assumes nothing.
use Prim.Native.Nat.{ℕ, zero, suc, ◌+◌, ◌/◌, ◌≤◌, ◌<◌}
use mathlib.Core.Path.{◌≡◌, refl, sym, ap, ◌∙◌}
use mathlib.Core.Bool.{Bool, true, false}
use mathlib.Core.List.{List, ◌++◌}
use native.Mathlib.Omega.{arith}
use native.Mathlib.Numerals.{add-one}
use lib.Dec.{eqb, ltb}
use lib.ListN.{length, take, drop}
use Rattle.words.specs.Answer.{Outcome, gives, refuses, pick}
use Rattle.settings.specs.Versions.{Kept, kept}
use Rattle.settings.specs.Store.{judged}
use Rattle.settings.specs.At.{gap_at}
use Rattle.ride.specs.At.{record_at}
use Rattle.ride.specs.Step.{Step}
use Rattle.ride.specs.Over.{records, lines_for, Ridden, before, ride_over}
use Rattle.viewer.specs.declared.Standing.{Standing}
use Rattle.viewer.specs.Stand.{passed, returned}
use Rattle.viewer.specs.Viewing.{Done, done, stays, by_step, under, step_of, Forward, forward, Back, back as goes_back}
use Rattle.viewer.specs.Going.{refused, answer_of, further, forwards, lines_passed, backs}
use Rattle.viewer.specs.Laws.{ManyAtOnce}
use Rattle.viewer.proofs.Calls.{forward_step}
use Rattle.viewer.proofs.Places.{left_next}
use Rattle.words.proofs.Never.{cannot_be}

-- ---- a refusal leaves the viewer

no_refusal : (A : Type 0) (n : ℕ) → ◌≡◌ {A = Outcome Done} (gives done) (refuses n) → A
no_refusal A n e = cannot_be cc

forward_by : (b : Bool) (o : Outcome Kept) (s : Standing) (t : Step) (n : ℕ) → (pick b (under s o (by_step s t)) (stays s 23)).answer ≡ refuses n → (pick b (under s o (by_step s t)) (stays s 23)).stand ≡ s
forward_by true (gives k) s t n e = no_refusal _ n e
forward_by true (refuses m) s t n e = refl
forward_by false o s t n e = refl

pub forward_stays : (trace : List ℕ) (s : Standing) (n : ℕ) → (forward trace s).answer ≡ refuses n → (forward trace s).stand ≡ s
unfolding forward
forward_stays trace s n e = forward_by (ltb s.number (length trace / 8)) (judged s.settings) s (step_of s (record_at trace s.number)) n e

back_by : (b : Bool) (s t : Standing) (n : ℕ) → (pick {A = Back} b (record { answer = refuses 22; stand = s }) (record { answer = gives done; stand = t })).answer ≡ refuses n
    → (pick {A = Back} b (record { answer = refuses 22; stand = s }) (record { answer = gives done; stand = t })).stand ≡ s
back_by true s t n e = refl
back_by false s t n e = no_refusal _ n e

pub back_stays : (s : Standing) (n : ℕ) → (goes_back s).answer ≡ refuses n → (goes_back s).stand ≡ s
unfolding goes_back
back_stays s n e = back_by (eqb s.kept 0) s (returned s) n e

-- ---- where it stops, the next call is refused alike

stopped_by : (o : Outcome Done) (m n : ℕ) (trace : List ℕ) (s : Standing) → (forward trace s).answer ≡ o
    → ((t : Standing) → (forwards m trace t).ending ≡ refused n → (forward trace (forwards m trace t).stand).answer ≡ refuses n)
    → (further o s (forwards m trace (forward trace s).stand)).ending ≡ refused n
    → (forward trace (further o s (forwards m trace (forward trace s).stand)).stand).answer ≡ refuses n
stopped_by (gives d) m n trace s h rest e = rest (forward trace s).stand e
stopped_by (refuses k) m n trace s h rest e = h ∙ ap answer_of e

pub forwards_stopped : (times n : ℕ) (trace : List ℕ) (s : Standing) → (forwards times trace s).ending ≡ refused n → (forward trace (forwards times trace s).stand).answer ≡ refuses n
unfolding forwards
forwards_stopped zero n trace s e = no_refusal _ n (ap answer_of e)
forwards_stopped (suc m) n trace s e = stopped_by (forward trace s).answer m n trace s refl (λ t h. forwards_stopped m n trace t h) e

back_stopped_by : (o : Outcome Done) (m n : ℕ) (s : Standing) → (goes_back s).answer ≡ o
    → ((t : Standing) → (backs m t).ending ≡ refused n → (goes_back (backs m t).stand).answer ≡ refuses n)
    → (further o s (backs m (goes_back s).stand)).ending ≡ refused n
    → (goes_back (further o s (backs m (goes_back s).stand)).stand).answer ≡ refuses n
back_stopped_by (gives d) m n s h rest e = rest (goes_back s).stand e
back_stopped_by (refuses k) m n s h rest e = h ∙ ap answer_of e

pub backs_stopped : (times n : ℕ) (s : Standing) → (backs times s).ending ≡ refused n → (goes_back (backs times s).stand).answer ≡ refuses n
unfolding backs
backs_stopped zero n s e = no_refusal _ n (ap answer_of e)
backs_stopped (suc m) n s e = back_stopped_by (goes_back s).answer m n s refl (λ t h. backs_stopped m n t h) e

-- ---- the lines

pub lines_passed_law : (n : ℕ) (trace : List ℕ) (s : Standing) → judged s.settings ≡ gives kept → s.number + n ≤ length trace / 8
    → ◌≡◌ {A = Ridden} (record { lines = lines_passed n trace s; ride = (forwards n trace s).stand.ride })
    (ride_over (gap_at s.settings) s.ride (s.number + 1) (take n (drop s.number (records trace))))
unfolding forwards lines_passed ride_over passed
lines_passed_law zero trace s good fits = refl
lines_passed_law (suc n) trace s good fits =
    let there : s.number < length trace / 8 = omega arith in
    let rest : s.number + 1 + n ≤ length trace / 8 = omega arith in
    let t : Step = step_of s (record_at trace s.number) in
    let gaps : ℕ → ℕ = gap_at s.settings in
    let left : List (List ℕ) = take n (drop (s.number + 1) (records trace)) in
    ap {B = Ridden}
    (λ (f : Forward). record { lines = f.lines ++ lines_passed n trace f.stand; ride = (further f.answer s (forwards n trace f.stand)).stand.ride })
    (sym (forward_step trace s there good))
    ∙ ap (before (lines_for (s.number + 1) t.lines)) (lines_passed_law n trace (passed s t.ride) good rest)
    ∙ ap (λ (m : ℕ). before (lines_for (s.number + 1) t.lines) (ride_over gaps t.ride m left)) (add-one (s.number + 1))
    ∙ ap (λ (rs : List (List ℕ)). ride_over gaps s.ride (s.number + 1) (take (suc n) rs)) (sym (left_next trace s.number there))

pub many_at_once : ManyAtOnce
many_at_once = record { lines = lines_passed_law }
