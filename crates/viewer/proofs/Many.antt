-- Many records at once: going forward again and again is as far as the loop has come, and going
-- back is one reading of the ring.
-- Assumes nothing.
use Prim.Native.Nat.{ℕ, zero, suc, ◌+◌, ◌-◌, ◌/◌, ◌%◌, ◌≤◌, ◌<◌}
use mathlib.Core.Path.{◌≡◌, refl, sym, ap, ◌∙◌}
use mathlib.Core.Bool.{Bool, true, false, ◌&&◌}
use mathlib.Core.List.{List}
use native.Mathlib.Omega.{arith}
use borrow.Author.Tests.{lt-ltb, ltb-true, ltb-false, ne_eqb, leb-true, leb-false}
use lib.Dec.{eqb, leb, ltb}
use lib.ListN.{length, get_or}
use Rattle.words.specs.Answer.{gives, refuses, pick}
use Rattle.settings.specs.Versions.{kept}
use Rattle.settings.specs.Store.{judged}
use Rattle.ride.specs.declared.Ride.{Ride}
use Rattle.ride.specs.State.{fresh_ride}
use Rattle.ride.specs.At.{record_at}
use Rattle.viewer.specs.declared.Standing.{Standing}
use Rattle.viewer.specs.Stand.{passed, returned}
use Rattle.viewer.specs.Viewing.{step_of, Forward, Back, back}
use Rattle.viewer.specs.Going.{Ending, all, refused, answer_of, Moved, stopped, after, further, forwards, backs}
use Rattle.viewer.proofs.Calls.{forward_end, forward_refused, forward_step, back_none, back_done}

-- calls made before others
pub after_after : (m n : ℕ) (x : Moved) → after m (after n x) ≡ after (m + n) x
after_after m n x =
    let e : m + (n + x.steps) ≡ m + n + x.steps = omega arith in
    ap (λ (k : ℕ). record { steps = k; ending = x.ending; stand = x.stand }) e

pub after_none : (n : ℕ) (x : Moved) → n ≡ 0 → after n x ≡ x
after_none n x none =
    let e : n + x.steps ≡ x.steps = omega arith in
    ap (λ (k : ℕ). record { steps = k; ending = x.ending; stand = x.stand }) e

-- ---- forward

pub forwards_none : (times : ℕ) (trace : List ℕ) (s : Standing) → times ≡ 0 → stopped all s ≡ forwards times trace s
unfolding forwards
forwards_none times trace s e = ap (λ (n : ℕ). forwards n trace s) (sym e)

-- one record more
pub forwards_next : (left : ℕ) (trace : List ℕ) (s : Standing) (next : Ride) → 0 < left → s.number < length trace / 8 → judged s.settings ≡ gives kept
    → next ≡ (step_of s (record_at trace s.number)).ride → after 1 (forwards (left - 1) trace (passed s next)) ≡ forwards left trace s
unfolding forwards
forwards_next left trace s next some there good is =
    let e : suc (left - 1) ≡ left = omega arith in
    ap (λ (x : Ride). after 1 (forwards (left - 1) trace (passed s x))) is
    ∙ ap (λ (f : Forward). further f.answer s (forwards (left - 1) trace f.stand)) (forward_step trace s there good)
    ∙ ap (λ (n : ℕ). forwards n trace s) e

-- no record more: none is asked for, or none is left
pub forwards_stop : (left : ℕ) (trace : List ℕ) (s : Standing) → (ltb 0 left && ltb s.number (length trace / 8)) ≡ false
    → stopped (pick (eqb left 0) all (refused 23)) s ≡ forwards left trace s
unfolding forwards
forwards_stop zero trace s h = refl
forwards_stop (suc n) trace s h =
    let some : 0 < suc n = omega arith in
    let past : ltb s.number (length trace / 8) ≡ false = rw (lt-ltb 0 (suc n) some) at h in
    rw (ne_eqb (suc n) 0 (λ z. omega arith))
    (ap (λ (f : Forward). further f.answer s (forwards n trace f.stand)) (forward_end trace s (ltb-false s.number (length trace / 8) past)))

-- settings that are refused: no forward is made
refused_by : (b : Bool) (m n : ℕ) (trace : List ℕ) (s : Standing) → ltb s.number (length trace / 8) ≡ b → judged s.settings ≡ refuses n
    → stopped (pick b (refused n) (refused 23)) s ≡ forwards (suc m) trace s
unfolding forwards
refused_by true m n trace s e h =
    ap (λ (f : Forward). further f.answer s (forwards m trace f.stand)) (forward_refused trace s n (ltb-true s.number (length trace / 8) e) h)
refused_by false m n trace s e h =
    ap (λ (f : Forward). further f.answer s (forwards m trace f.stand)) (forward_end trace s (ltb-false s.number (length trace / 8) e))

pub forwards_refused : (times : ℕ) (trace : List ℕ) (s : Standing) (n : ℕ) → (times ≡ 0 → ⊥) → judged s.settings ≡ refuses n
    → stopped (pick (ltb s.number (length trace / 8)) (refused n) (refused 23)) s ≡ forwards times trace s
forwards_refused zero trace s n some h = absurd (some refl)
forwards_refused (suc m) trace s n some h = refused_by (ltb s.number (length trace / 8)) m n trace s refl h

-- ---- back

-- so far back
abbrev pub far_back : ℕ → Standing → Standing
far_back k s =
    record { number = s.number - k; kept = s.kept - k; ride = get_or s.last ((s.number - k) % 256) fresh_ride; last = s.last; settings = s.settings }

-- so many backs that are made
abbrev made : ℕ → Ending → Standing → Moved
made k why s = record { steps = k; ending = why; stand = s }

one_back : (n : ℕ) (s : Standing) → 0 < s.kept → after 1 (backs n (returned s)) ≡ backs (suc n) s
unfolding backs
one_back n s some = ap (λ (b : Back). further b.answer s (backs n b.stand)) (back_done s (ne_eqb s.kept 0 (λ z. omega arith)))

further_back : (k : ℕ) (s : Standing) → far_back (suc (suc k)) s ≡ far_back (suc k) (returned s)
unfolding returned
further_back k s =
    let e : s.number - suc (suc k) ≡ s.number - 1 - suc k = omega arith in
    let f : s.kept - suc (suc k) ≡ s.kept - 1 - suc k = omega arith in
    ap (λ (n : ℕ). record { number = n; kept = s.kept - suc (suc k); ride = get_or s.last (n % 256) fresh_ride; last = s.last; settings = s.settings }) e
    ∙ ap (λ (n : ℕ). record { number = s.number - 1 - suc k; kept = n; ride = get_or s.last ((s.number - 1 - suc k) % 256) fresh_ride; last = s.last; settings = s.settings }) f

-- as many states are kept
backs_done : (k : ℕ) (s : Standing) → suc k ≤ s.kept → made (suc k) all (far_back (suc k) s) ≡ backs (suc k) s
unfolding backs returned
backs_done zero s h = one_back 0 s h
backs_done (suc k) s h =
    let some : 0 < s.kept = omega arith in
    let rest : suc k ≤ (returned s).kept = omega arith in
    let one : suc (suc k) ≡ 1 + suc k = omega arith in
    ap (λ (x : Standing). made (suc (suc k)) all x) (further_back k s)
    ∙ ap (λ (n : ℕ). made n all (far_back (suc k) (returned s))) one
    ∙ ap (after 1) (backs_done k (returned s) rest) ∙ one_back (suc k) s some

-- fewer are
backs_none : (n : ℕ) (s : Standing) → s.kept ≡ 0 → stopped (refused 22) s ≡ backs (suc n) s
unfolding backs
backs_none n s e = ap (λ (b : Back). further b.answer s (backs n b.stand)) (back_none s (ap (λ (k : ℕ). eqb k 0) e))

backs_short : (k times : ℕ) (s : Standing) → s.kept ≡ suc k → suc k < times → made (suc k) (refused 22) (far_back (suc k) s) ≡ backs times s
unfolding returned
backs_short zero times s e less =
    let some : 0 < s.kept = omega arith in
    let none : (returned s).kept ≡ 0 = omega arith in
    let more : suc (suc (times - 2)) ≡ times = omega arith in
    ap (after 1) (backs_none (times - 2) (returned s) none) ∙ one_back (suc (times - 2)) s some ∙ ap (λ (n : ℕ). backs n s) more
backs_short (suc k) times s e less =
    let some : 0 < s.kept = omega arith in
    let rest : (returned s).kept ≡ suc k = omega arith in
    let there : suc k < times - 1 = omega arith in
    let more : suc (times - 1) ≡ times = omega arith in
    let one : suc (suc k) ≡ 1 + suc k = omega arith in
    ap (λ (x : Standing). made (suc (suc k)) (refused 22) x) (further_back k s)
    ∙ ap (λ (n : ℕ). made n (refused 22) (far_back (suc k) (returned s))) one
    ∙ ap (after 1) (backs_short k (times - 1) (returned s) rest there)
    ∙ one_back (times - 1) s some
    ∙ ap (λ (n : ℕ). backs n s) more

-- by what the tests say
backs_at_once : (b : Bool) (times : ℕ) (s : Standing) → leb times s.kept ≡ b → pick b times s.kept ≡ 0 → stopped (pick b all (refused 22)) s ≡ backs times s
unfolding backs
backs_at_once true times s e h = ap (λ (n : ℕ). backs n s) (sym h)
backs_at_once false times s e h =
    let less : s.kept < times = leb-false times s.kept e in
    let more : suc (times - 1) ≡ times = omega arith in
    backs_none (times - 1) s h ∙ ap (λ (n : ℕ). backs n s) more

backs_far : (b : Bool) (times : ℕ) (s : Standing) → leb times s.kept ≡ b → (pick b times s.kept ≡ 0 → ⊥)
    → made (pick b times s.kept) (pick b all (refused 22)) (far_back (pick b times s.kept) s) ≡ backs times s
backs_far true zero s e h = absurd (h refl)
backs_far true (suc k) s e h = backs_done k s (leb-true (suc k) s.kept e)
backs_far false times s e h =
    let less : s.kept < times = leb-false times s.kept e in
    let some : 0 < s.kept = positive s.kept h in
    let kept_so : s.kept ≡ suc (s.kept - 1) = omega arith in
    let short : suc (s.kept - 1) < times = omega arith in
    ap (λ (n : ℕ). made n (refused 22) (far_back n s)) kept_so ∙ backs_short (s.kept - 1) times s kept_so short
  where
    positive : (n : ℕ) → (n ≡ 0 → ⊥) → 0 < n
    positive zero h = absurd (h refl)
    positive (suc n) h = omega arith

pub backs_stay : (times : ℕ) (s : Standing) → pick (leb times s.kept) times s.kept ≡ 0 → stopped (pick (leb times s.kept) all (refused 22)) s ≡ backs times s
backs_stay times s h = backs_at_once (leb times s.kept) times s refl h

pub backs_move : (times : ℕ) (s : Standing) → (pick (leb times s.kept) times s.kept ≡ 0 → ⊥)
    → ◌≡◌ {A = Moved} (record {
      steps = pick (leb times s.kept) times s.kept;
      ending = pick (leb times s.kept) all (refused 22);
      stand = far_back (pick (leb times s.kept) times s.kept) s;
    }) (backs times s)
backs_move times s h = backs_far (leb times s.kept) times s refl h

-- once is one back
one_by : (b : Bool) (s : Standing) → eqb s.kept 0 ≡ b → ◌≡◌ {A = Back} (record { answer = answer_of (backs 1 s).ending; stand = (backs 1 s).stand }) (back s)
unfolding backs
one_by true s e =
    ap {B = Back} (λ (b : Back). record { answer = answer_of (further b.answer s (stopped all b.stand)).ending; stand = (further b.answer s (stopped all b.stand)).stand })
    (sym (back_none s e))
    ∙ back_none s e
one_by false s e =
    ap {B = Back} (λ (b : Back). record { answer = answer_of (further b.answer s (stopped all b.stand)).ending; stand = (further b.answer s (stopped all b.stand)).stand })
    (sym (back_done s e))
    ∙ back_done s e

pub backs_one : (s : Standing) → ◌≡◌ {A = Back} (record { answer = answer_of (backs 1 s).ending; stand = (backs 1 s).stand }) (back s)
backs_one s = one_by (eqb s.kept 0) s refl
