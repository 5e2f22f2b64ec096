-- Cards by `run` and by `step`: the state goes on from card to card, and so do the answers of
-- `step`, one by one.
-- Assumes nothing.
use Prim.Native.Nat.{ℕ, suc, ◌+◌, ◌/◌, ◌%◌}
use native.Mathlib.Nat.{add-zero}
use native.Mathlib.Omega.{arith}
use mathlib.Core.Path.{◌≡◌, refl, sym, ap, ap₂, subst, ◌∙◌}
use mathlib.Core.Bool.{not}
use mathlib.Core.List.{List, [], ◌∷◌, ◌++◌, append_assoc}
use lib.Dec.{eqb}
use lib.ListN.{length, length-append}
use borrow.Author.Tests.{eq-eqb, eqb-true, not-false}
use Rattle.words.specs.Answer.{Outcome, gives, refuses}
use Rattle.words.proofs.Told.{told}
use Rattle.settings.specs.declared.Store.{Store}
use Rattle.settings.specs.Versions.{Kept}
use Rattle.settings.specs.Store.{judged}
use Rattle.settings.specs.At.{gap_at}
use Rattle.ride.specs.Over.{first_records, records, lines_for, Ridden, through, Run, judged_first, run}
use Rattle.ride.specs.Says.{says_stepped, says_ran}
use Rattle.ride.specs.declared.Line.{Line}
use Rattle.ride.specs.declared.Ran.{Ran}
use Rattle.ride.specs.declared.Ride.{Ride}
use Rattle.ride.specs.declared.Stepped.{Stepped}
use Rattle.ride.proofs.Cutting.{records_length, join_records}
use Rattle.ride.proofs.Sections.{ride_joined, unnumbered}
use Rattle.ride.proofs.Determined as ride_is
use Rattle.demands.specs.Table.{bad_length}
use Rattle.demands.specs.ByContract.{RunOver}
use Rattle.demands.specs.Output.{records_in}
use Rattle.demands.specs.Sections.{Whole, ByStep, lines_from, after_steps}
use Rattle.demands.proofs.Demand2.Runs.{over, good_run, ran}

-- ---- whole records

pub eights : (card : List ℕ) → Whole card → length card % 8 ≡ 0
unfolding bad_length
eights card whole = eqb-true (length card % 8) 0 (not-false (eqb (length card % 8) 0) whole)

pub are_whole : (card : List ℕ) → length card % 8 ≡ 0 → Whole card
unfolding bad_length
are_whole card e = ap not (eq-eqb (length card % 8) 0 e)

pub whole_join : (a b : List ℕ) → Whole a → Whole b → Whole (a ++ b)
whole_join a b p q = are_whole (a ++ b) (omega (arith, eights a p, eights b q, length-append a b))

-- ---- by `run`

-- a run over a card of whole records
good : (ride : Ride) (store : Store) (card : List ℕ) → Whole card → run ride store card ≡ judged_first ride (judged store) (over ride store card)
good ride store card whole = good_run ride store card (eq-eqb (length card % 8) 0 (eights card whole))

joined_by : (o : Outcome Kept) (ride : Ride) (store : Store) (a b : List ℕ) → Whole a
    → judged_first ride o (over ride store (a ++ b))
    ≡ judged_first (judged_first ride o (over ride store a)).ride o (over (judged_first ride o (over ride store a)).ride store b)
joined_by (gives k) ride store a b whole =
    ap (λ (r : Ride). record { answer = gives through; ride = r })
    (ap (λ (x : Ridden). x.ride) (ride_joined (gap_at store) ride 1 a b (eights a whole))
    ∙ unnumbered (gap_at store) (over ride store a).ride (1 + length a / 8) 1 (records b))
joined_by (refuses n) ride store a b whole = refl

run_joined : (ride : Ride) (store : Store) (a b : List ℕ) → Whole a → Whole b → run ride store (a ++ b) ≡ run (run ride store a).ride store b
run_joined ride store a b p q =
    good ride store (a ++ b) (whole_join a b p q) ∙ joined_by (judged store) ride store a b p
    ∙ ap (λ (r : Run). judged_first r.ride (judged store) (over r.ride store b)) (sym (good ride store a p))
    ∙ sym (good (run ride store a).ride store b q)

-- two runs that say the same are the same
same_run : (o : Run) (p q : Ran) → says_ran p ≡ o → says_ran q ≡ o → p ≡ q
same_run o p q e f = told says_ran ride_is.ran_of ride_is.ran_back p q e f

-- a run on from where another ended
ran_on : (ride : Ride) (store : Store) (a b : List ℕ) (p q : Ran) → Whole a → Whole b → RunOver ride store a p → RunOver p.ride store b q
    → says_ran q ≡ run ride store (a ++ b)
ran_on ride store a b p q v w c d =
    ran p.ride store b q d ∙ ap (λ (r : Run). run r.ride store b) (ran ride store a p c) ∙ sym (run_joined ride store a b v w)

pub two_by_run : (ride : Ride) (store : Store) (a b : List ℕ) (p q both : Ran) → Whole a → Whole b
    → RunOver ride store a p → RunOver p.ride store b q → RunOver ride store (a ++ b) both → both ≡ q
two_by_run ride store a b p q both v w c d e =
    same_run (run ride store (a ++ b)) both q (ran ride store (a ++ b) both e) (ran_on ride store a b p q v w c d)

pub three_by_run : (ride : Ride) (store : Store) (a b c : List ℕ) (ab last a' bc : Ran) → Whole a → Whole b → Whole c
    → RunOver ride store (a ++ b) ab → RunOver ab.ride store c last → RunOver ride store a a' → RunOver a'.ride store (b ++ c) bc → last ≡ bc
three_by_run ride store a b c ab last a' bc u v w p q r s =
    same_run (run ride store (a ++ (b ++ c))) last bc
    (ran_on ride store (a ++ b) c ab last (whole_join a b u v) w p q ∙ ap (run ride store) (append_assoc a b c))
    (ran_on ride store a (b ++ c) a' bc u (whole_join b c v w) r s)

-- ---- by `step`

-- the answers to the same records are the same
alike : (gaps : ℕ → ℕ) (ride : Ride) (rs : List (List ℕ)) (us vs : List Stepped) → ByStep gaps ride rs us → ByStep gaps ride rs vs → us ≡ vs
alike gaps ride [] [] [] p q = refl
alike gaps ride [] [] (v ∷ vs) p q = absurd q
alike gaps ride [] (u ∷ us) vs p q = absurd p
alike gaps ride (r ∷ rs) [] vs p q = absurd p
alike gaps ride (r ∷ rs) (u ∷ us) [] p q = absurd q
alike gaps ride (r ∷ rs) (u ∷ us) (v ∷ vs) p q =
    let same : u ≡ v = told says_stepped ride_is.stepped_of ride_is.stepped_back u v p.0.1 q.0.1 in
    ap₂ (λ (x : Stepped) (xs : List Stepped). x ∷ xs) same
    (alike gaps u.ride rs us vs p.1 (subst (λ (x : Stepped). ByStep gaps x.ride rs vs) (sym same) q.1))

-- the answers to the records of one card, and then of the next
on : (gaps : ℕ → ℕ) (ride : Ride) (rs qs : List (List ℕ)) (ss ts : List Stepped) → ByStep gaps ride rs ss → ByStep gaps (after_steps ride ss) qs ts
    → ByStep gaps ride (rs ++ qs) (ss ++ ts)
on gaps ride [] qs [] ts p q = q
on gaps ride [] qs (s ∷ ss) ts p q = absurd p
on gaps ride (r ∷ rs) qs [] ts p q = absurd p
on gaps ride (r ∷ rs) qs (s ∷ ss) ts p q = (p.0, on gaps s.ride rs qs ss ts p.1 q)

answered : (gaps : ℕ → ℕ) (ride : Ride) (rs : List (List ℕ)) (ss : List Stepped) → ByStep gaps ride rs ss → length ss ≡ length rs
answered gaps ride [] [] p = refl
answered gaps ride [] (s ∷ ss) p = absurd p
answered gaps ride (r ∷ rs) [] p = absurd p
answered gaps ride (r ∷ rs) (s ∷ ss) p = ap suc (answered gaps s.ride rs ss p.1)

lines_on : (number : ℕ) (ss ts : List Stepped) → lines_from number (ss ++ ts) ≡ lines_from number ss ++ lines_from (number + length ss) ts
lines_on number [] ts = ap (λ (n : ℕ). lines_from n ts) (sym (add-zero number))
lines_on number (s ∷ ss) ts =
    let first : List Line = lines_for number (says_stepped s).lines in
    let same : suc number + length ss ≡ number + suc (length ss) = omega arith in
    ap (λ (l : List Line). first ++ l) (lines_on (suc number) ss ts ∙ ap (λ (n : ℕ). lines_from (suc number) ss ++ lines_from n ts) same)
    ∙ sym (append_assoc first (lines_from (suc number) ss) (lines_from (number + suc (length ss)) ts))

after_on : (ride : Ride) (ss ts : List Stepped) → after_steps ride (ss ++ ts) ≡ after_steps (after_steps ride ss) ts
after_on ride [] ts = refl
after_on ride (s ∷ ss) ts = after_on s.ride ss ts

module _ (gaps : ℕ → ℕ) (ride : Ride) (a b : List ℕ) (p q : List Stepped) (whole : Whole a) (first : ByStep gaps ride (records a) p)
    (then : ByStep gaps (after_steps ride p) (records b) q) where
  -- one after the other they are the answers to the joined card
  as_joined : ByStep gaps ride (records (a ++ b)) (p ++ q)
  as_joined = subst (λ (rs : List (List ℕ)). ByStep gaps ride rs (p ++ q)) (sym (join_records a b (eights a whole))) (on gaps ride (records a) (records b) p q first then)

  numbered : (number : ℕ) → lines_from number (p ++ q) ≡ lines_from number p ++ lines_from (number + records_in a) q
  numbered number =
      lines_on number p q
      ∙ ap (λ (n : ℕ). lines_from number p ++ lines_from (number + n) q) (answered gaps ride (records a) p first ∙ records_length (records_in a) a)

pub two_by_step : (gaps : ℕ → ℕ) (ride : Ride) (number : ℕ) (a b : List ℕ) (p q both : List Stepped) → Whole a → Whole b
    → ByStep gaps ride (records a) p → ByStep gaps (after_steps ride p) (records b) q → ByStep gaps ride (records (a ++ b)) both
    → (lines_from number both ≡ lines_from number p ++ lines_from (number + records_in a) q) × (after_steps ride both ≡ after_steps (after_steps ride p) q)
two_by_step gaps ride number a b p q both v w c d e =
    let same : both ≡ p ++ q = alike gaps ride (records (a ++ b)) both (p ++ q) e (as_joined gaps ride a b p q v c d) in
    (ap (lines_from number) same ∙ numbered gaps ride a b p q v c d number, ap (after_steps ride) same ∙ after_on ride p q)

pub three_by_step : (gaps : ℕ → ℕ) (ride : Ride) (number : ℕ) (a b c : List ℕ) (ab last a' bc : List Stepped) → Whole a → Whole b → Whole c
    → ByStep gaps ride (records (a ++ b)) ab → ByStep gaps (after_steps ride ab) (records c) last
    → ByStep gaps ride (records a) a' → ByStep gaps (after_steps ride a') (records (b ++ c)) bc
    → (lines_from number ab ++ lines_from (number + records_in (a ++ b)) last ≡ lines_from number a' ++ lines_from (number + records_in a) bc)
    × (after_steps (after_steps ride ab) last ≡ after_steps (after_steps ride a') bc)
three_by_step gaps ride number a b c ab last a' bc u v w p q r s =
    let x = whole_join a b u v in
    let left = subst (λ (t : List ℕ). ByStep gaps ride (records t) (ab ++ last)) (append_assoc a b c) (as_joined gaps ride (a ++ b) c ab last x p q) in
    let same : ab ++ last ≡ a' ++ bc = alike gaps ride (records (a ++ (b ++ c))) (ab ++ last) (a' ++ bc) left (as_joined gaps ride a (b ++ c) a' bc u r s) in (
      sym (numbered gaps ride (a ++ b) c ab last x p q number) ∙ ap (lines_from number) same ∙ numbered gaps ride a (b ++ c) a' bc u r s number,
      sym (after_on ride ab last) ∙ ap (after_steps ride) same ∙ after_on ride a' bc,
    )

pub empty_by_step : (gaps : ℕ → ℕ) (ride : Ride) (number : ℕ) (q : List Stepped) → ByStep gaps ride (records []) q
    → (lines_from number q ≡ []) × (after_steps ride q ≡ ride)
unfolding first_records
empty_by_step gaps ride number [] p = (refl, refl)
empty_by_step gaps ride number (s ∷ ss) p = absurd p
