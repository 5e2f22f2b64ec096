-- Going over the first n entries of a plan one by one: what a test at one of them says of those
-- that are left.
-- Assumes nothing.
use Rattle.std.proofs.Common.{Option, Some, None, is_some}
use Prim.Native.Nat.{ℕ, suc, ◌+◌, ◌-◌, ◌*◌, ◌≤◌, ◌<◌}
use native.Mathlib.Omega.{arith}
use native.Mathlib.Numerals.{add-one}
use mathlib.Core.Path.{◌≡◌, refl, sym, ap, ◌∙◌}
use mathlib.Core.Bool.{Bool, true, false, not, ◌&&◌}
use mathlib.Core.List.{List, [], ◌∷◌}
use lib.Dec.{leb, ltb}
use lib.ListN.{length, take, drop, get_or, length-drop}
use lib.Seq.{drop-cons, get_or-take, length-take-le, drop-length}
use borrow.Author.Tests.{leb-true, leb-false, lt-ltb, le-ltb, lt-leb, le-leb}
use Rattle.words.specs.Answer.{pick}
use Rattle.group_rows.specs.declared.Kind.{Kind}
use Rattle.acceptance.specs.declared.Entry.{Entry}
use Rattle.acceptance.specs.Plan.{no_entry, is_beyond, apart}
use Rattle.acceptance.specs.Taking.{is_absent, waits, waiting}
use Rattle.acceptance.specs.Report.{met_in}

-- What is left from i on begins with entry i;
pub left_at : (es : List Entry) (n i : ℕ) → i < n → n ≤ length es → drop i (take n es) ≡ get_or es i no_entry ∷ drop (i + 1) (take n es)
left_at es n i h k =
    let size : i < length (take n es) = omega (arith, length-take-le n es k) in
    drop-cons (take n es) i no_entry size ∙ ap (λ (j : ℕ). get_or (take n es) i no_entry ∷ drop j (take n es)) (sym (add-one i))
    ∙ ap (λ (e : Entry). e ∷ drop (i + 1) (take n es)) (get_or-take n es i no_entry h)

-- from n on nothing is left.
pub none_left : (es : List Entry) (n : ℕ) → n ≤ length es → drop n (take n es) ≡ []
none_left es n k = ap (λ (j : ℕ). drop j (take n es)) (sym (length-take-le n es k)) ∙ drop-length (take n es)

-- ---- the entry that waits

-- Not below a place less the tolerance is not below it by more than the tolerance.
pub below : (at tolerance place : ℕ) → leb (at - tolerance) place ≡ leb at (place + tolerance)
below at tolerance place = by_test (leb (at - tolerance) place) refl
  where
    by_test : (b : Bool) → leb (at - tolerance) place ≡ b → leb (at - tolerance) place ≡ leb at (place + tolerance)
    by_test true e =
        let h : at ≤ place + tolerance = omega (arith, leb-true (at - tolerance) place e) in
        e ∙ sym (le-leb at (place + tolerance) h)
    by_test false e =
        let h : place + tolerance < at = omega (arith, leb-false (at - tolerance) place e) in
        e ∙ sym (lt-leb at (place + tolerance) h)

module _ (tolerance place : ℕ) (kind : Kind) (es : List Entry) (n i : ℕ) (h : i < n) (k : n ≤ length es) where
  pub wait_here : waits tolerance place kind (get_or es i no_entry) ≡ true → waiting tolerance place kind (drop i (take n es)) ≡ 0
  unfolding waiting
  wait_here e = ap (waiting tolerance place kind) (left_at es n i h k) ∙ ap (λ (b : Bool). pick b 0 (suc (waiting tolerance place kind (drop (i + 1) (take n es))))) e

  pub wait_on : waits tolerance place kind (get_or es i no_entry) ≡ false
      → waiting tolerance place kind (drop i (take n es)) ≡ suc (waiting tolerance place kind (drop (i + 1) (take n es)))
  unfolding waiting
  wait_on e = ap (waiting tolerance place kind) (left_at es n i h k) ∙ ap (λ (b : Bool). pick b 0 (suc (waiting tolerance place kind (drop (i + 1) (take n es))))) e

pub wait_none : (tolerance place : ℕ) (kind : Kind) (es : List Entry) (n : ℕ) → n ≤ length es → waiting tolerance place kind (drop n (take n es)) ≡ 0
unfolding waiting
wait_none tolerance place kind es n k = ap (waiting tolerance place kind) (none_left es n k)

-- ---- the entries met

pub not_twice : (b : Bool) → not (not b) ≡ b
not_twice true = refl
not_twice false = refl

-- An entry is absent where nothing met it.
pub absent_not : (m : Option ℕ) → is_absent m ≡ not (is_some m)
absent_not None = refl
absent_not (Some place) = refl

module _ (es : List Entry) (n i : ℕ) (h : i < n) (k : n ≤ length es) where
  pub met_not : is_absent (get_or es i no_entry).met ≡ true → met_in (drop i (take n es)) ≡ met_in (drop (i + 1) (take n es))
  unfolding met_in
  met_not e = ap met_in (left_at es n i h k) ∙ ap (λ (b : Bool). pick b (met_in (drop (i + 1) (take n es))) (suc (met_in (drop (i + 1) (take n es))))) e

  pub met_one : is_absent (get_or es i no_entry).met ≡ false → met_in (drop i (take n es)) ≡ suc (met_in (drop (i + 1) (take n es)))
  unfolding met_in
  met_one e = ap met_in (left_at es n i h k) ∙ ap (λ (b : Bool). pick b (met_in (drop (i + 1) (take n es))) (suc (met_in (drop (i + 1) (take n es))))) e

pub met_none : (es : List Entry) (n : ℕ) → n ≤ length es → met_in (drop n (take n es)) ≡ 0
unfolding met_in
met_none es n k = ap met_in (none_left es n k)

-- ---- neighbours

-- A list of one entry or none has no neighbours.
short_apart : (tolerance : ℕ) (l : List Entry) → length l ≤ 1 → apart tolerance l ≡ true
unfolding apart
short_apart tolerance [] h = refl
short_apart tolerance (e ∷ []) h = refl
short_apart tolerance (e ∷ f ∷ l) h = absurd (omega arith)

module _ (tolerance : ℕ) (es : List Entry) (n i : ℕ) (k : n ≤ length es) (p : 1 ≤ i) where
  module _ (h : i < n) where
    two_left : drop (i - 1) (take n es) ≡ get_or es (i - 1) no_entry ∷ drop i (take n es)
    two_left =
        let back : i - 1 + 1 ≡ i = omega arith in
        left_at es n (i - 1) (omega arith) k ∙ ap (λ (j : ℕ). get_or es (i - 1) no_entry ∷ drop j (take n es)) back

    step : apart tolerance (drop (i - 1) (take n es))
        ≡ (ltb ((get_or es (i - 1) no_entry).place + 2 * tolerance) (get_or es i no_entry).place && apart tolerance (drop i (take n es)))
    unfolding apart
    step =
        ap (apart tolerance) two_left
        ∙ ap (λ (l : List Entry). is_beyond tolerance (get_or es (i - 1) no_entry).place l && apart tolerance (drop i (take n es))) (left_at es n i h k)

    pub near : (get_or es i no_entry).place ≤ (get_or es (i - 1) no_entry).place + 2 * tolerance → apart tolerance (drop (i - 1) (take n es)) ≡ false
    near e = step ∙ ap (λ (b : Bool). b && apart tolerance (drop i (take n es))) (le-ltb _ _ e)

    pub beyond : (get_or es (i - 1) no_entry).place + 2 * tolerance < (get_or es i no_entry).place
        → apart tolerance (drop (i - 1) (take n es)) ≡ apart tolerance (drop i (take n es))
    beyond e = step ∙ ap (λ (b : Bool). b && apart tolerance (drop i (take n es))) (lt-ltb _ _ e)

  pub no_neighbour : n ≤ i → apart tolerance (drop (i - 1) (take n es)) ≡ true
  no_neighbour g = short_apart tolerance (drop (i - 1) (take n es)) (omega (arith, length-drop (i - 1) (take n es), length-take-le n es k))
