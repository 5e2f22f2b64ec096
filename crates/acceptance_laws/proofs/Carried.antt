-- What the library has taken is what `take` answers: the run, the text of the groups, and the
-- counts of what went wrong.
-- Assumes nothing.
use Prim.Native.Nat.{ℕ, suc, ◌+◌, ◌≤◌}
use native.Mathlib.Omega.{arith}
use native.Mathlib.Nat.{add-zero}
use mathlib.Core.Path.{◌≡◌, refl, sym, ap, ◌∙◌}
use mathlib.Core.Bool.{Bool, true, false}
use mathlib.Core.List.{List, [], ◌∷◌, ◌++◌, append-nil, append_assoc}
use lib.Dec.{leb, ltb}
use borrow.Author.Tests.{le-leb, leb-true, ltb-true, ltb-false}
use Rattle.words.specs.Answer.{pick}
use Rattle.words.specs.Limits.{largest64}
use Rattle.ride.specs.declared.Line.{Line}
use Rattle.acceptance.specs.Taking.{one_more, take_line}
use Rattle.acceptance.specs.Report.{up_to_most}
use Rattle.acceptance_text.specs.Taking.{part_line, Taking, take_one, take_all}
use Rattle.acceptance_laws.specs.Lines.{faults_in, refused_in}
use Rattle.acceptance_laws.specs.Depot.{group_lines}
use Rattle.acceptance_laws.proofs.Over.{run_over, answers_to}

pub run_taken : (t : Taking) (ls : List Line) → (take_all t ls).run ≡ run_over t.run ls
unfolding take_all take_one run_over
run_taken t [] = refl
run_taken t (l ∷ ls) = run_taken (take_one t l) ls

pub text_taken : (t : Taking) (ls : List Line) → (take_all t ls).text ≡ t.text ++ group_lines ls (answers_to t.run ls)
unfolding take_all take_one answers_to group_lines
text_taken t [] = sym (append-nil t.text)
text_taken t (l ∷ ls) =
    text_taken (take_one t l) ls ∙ append_assoc t.text (part_line l (take_line t.run l).answer) (group_lines ls (answers_to (take_line t.run l).state ls))

-- ---- counts up to the largest

up_within : (n : ℕ) → n ≤ largest64 → n ≡ up_to_most n
up_within n h = sym (ap (λ (b : Bool). pick b n largest64) (le-leb n largest64 h))

up_above : (n : ℕ) → largest64 ≤ n → up_to_most n ≡ largest64
up_above n h = by_test (leb n largest64) refl
  where
    by_test : (b : Bool) → leb n largest64 ≡ b → pick b n largest64 ≡ largest64
    by_test true e = omega (arith, leb-true n largest64 e)
    by_test false e = refl

one_more_within : (n : ℕ) → n ≤ largest64 → one_more n ≤ largest64
one_more_within n h = by_test (ltb n largest64) refl
  where
    by_test : (b : Bool) → ltb n largest64 ≡ b → pick b (n + 1) n ≤ largest64
    by_test true e = omega (arith, ltb-true n largest64 e)
    by_test false e = h

-- One more now, or one more to come.
one_on : (n c : ℕ) → n ≤ largest64 → up_to_most (one_more n + c) ≡ up_to_most (n + suc c)
one_on n c h = by_test (ltb n largest64) refl
  where
    by_test : (b : Bool) → ltb n largest64 ≡ b → up_to_most (pick b (n + 1) n + c) ≡ up_to_most (n + suc c)
    by_test true e = let same : n + 1 + c ≡ n + suc c = omega arith in ap up_to_most same
    by_test false e =
        let full : largest64 ≤ n = ltb-false n largest64 e in
        up_above (n + c) (omega (arith, full)) ∙ sym (up_above (n + suc c) (omega (arith, full)))

nothing_on : (n : ℕ) → n ≤ largest64 → n ≡ up_to_most (n + 0)
nothing_on n h = up_within n h ∙ ap up_to_most (sym (add-zero n))

pub faults_taken : (t : Taking) (ls : List Line) → t.troubles.faults ≤ largest64 → (take_all t ls).troubles.faults ≡ up_to_most (t.troubles.faults + faults_in ls)
unfolding take_all take_one faults_in
faults_taken t [] h = nothing_on t.troubles.faults h
faults_taken t (Line.Fault place n ∷ ls) h =
    faults_taken (take_one t (Line.Fault place n)) ls (one_more_within t.troubles.faults h) ∙ one_on t.troubles.faults (faults_in ls) h
faults_taken t (Line.Group g ∷ ls) h = faults_taken (take_one t (Line.Group g)) ls h
faults_taken t (Line.Missed place ∷ ls) h = faults_taken (take_one t (Line.Missed place)) ls h
faults_taken t (Line.Record number n ∷ ls) h = faults_taken (take_one t (Line.Record number n)) ls h
faults_taken t (Line.Trace n ∷ ls) h = faults_taken (take_one t (Line.Trace n)) ls h

pub refused_taken : (t : Taking) (ls : List Line) → t.troubles.refused ≤ largest64 → (take_all t ls).troubles.refused ≡ up_to_most (t.troubles.refused + refused_in ls)
unfolding take_all take_one refused_in
refused_taken t [] h = nothing_on t.troubles.refused h
refused_taken t (Line.Record number n ∷ ls) h =
    refused_taken (take_one t (Line.Record number n)) ls (one_more_within t.troubles.refused h) ∙ one_on t.troubles.refused (refused_in ls) h
refused_taken t (Line.Group g ∷ ls) h = refused_taken (take_one t (Line.Group g)) ls h
refused_taken t (Line.Fault place n ∷ ls) h = refused_taken (take_one t (Line.Fault place n)) ls h
refused_taken t (Line.Missed place ∷ ls) h = refused_taken (take_one t (Line.Missed place)) ls h
refused_taken t (Line.Trace n ∷ ls) h = refused_taken (take_one t (Line.Trace n)) ls h
