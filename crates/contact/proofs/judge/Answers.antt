-- The survey of the places decides; where there are not two places, the marker's rule does.
-- Assumes nothing.
use Prim.Native.Nat.{ℕ}
use mathlib.Core.Path.{◌≡◌, sym, ap, ◌∙◌}
use mathlib.Core.Bool.{Bool, true, false}
use mathlib.Core.List.{List}
use native.Mathlib.Omega.{arith}
use borrow.Author.Tests.{le-leb, lt-leb}
use lib.Dec.{leb}
use Rattle.words.specs.Answer.{Outcome, gives, refuses, pick}
use Rattle.telegram.specs.Stretch.{inside}
use Rattle.telegram.specs.Telegram.{Received}
use Rattle.telegram.specs.Survey.{Alike, alike, survey}
use Rattle.telegram.specs.Says.{says_surveyed}
use Rattle.std.specs.Prelude.{Result, Err}
use Rattle.telegram.specs.declared.Surveyed.{Surveyed}
use Rattle.telegram.specs.declared.NotAlike.{NotAlike}
use Rattle.telegram.proofs.Taken.{taken}
use Rattle.contact.specs.Judge.{read, judge}
use Rattle.contact.proofs.Judging.{marker_or, from_survey, by_survey, is_taken}
use Rattle.contact.proofs.judge.Goals as goal

-- A contact whose survey answered r.
module _ (b : List ℕ) (start len s t : ℕ) (r : Result Surveyed NotAlike) (says : says_surveyed r ≡ survey b start len s t) where
  -- What the survey said decides.
  decided : (o : Outcome Alike) → says_surveyed r ≡ o → from_survey (marker_or b start len) o ≡ judge b start len s t
  decided o e = sym (by_survey b start len s t ∙ ap (from_survey (marker_or b start len)) (sym says ∙ e))

  count_alike : (m : Received) (first count : ℕ) (x : Bool) → says_surveyed r ≡ gives (alike m first count) → leb 2 count ≡ x
      → pick x (gives (read m first count)) (marker_or b start len) ≡ judge b start len s t
  count_alike m first count x e x_is =
      ap (λ (y : Bool). pick y (gives (read m first count)) (marker_or b start len)) (sym x_is) ∙ decided (gives (alike m first count)) e

  -- One place or none: the stretch is taken.
  alike_taken : (a : Alike) → says_surveyed r ≡ gives a → inside b start len ≡ true
  alike_taken a e =
      is_taken b start len s t (gives a) (sym says ∙ e)
      (λ z. let q : ◌≡◌ {A = ℕ} 0 1 = cc in omega arith) (λ z. let q : ◌≡◌ {A = ℕ} 0 1 = cc in omega arith)

  none_taken : says_surveyed r ≡ refuses 6 → inside b start len ≡ true
  none_taken e =
      is_taken b start len s t (refuses 6) (sym says ∙ e)
      (λ z. let q : ◌≡◌ {A = ℕ} 6 4 = cc in omega arith) (λ z. let q : ◌≡◌ {A = ℕ} 6 5 = cc in omega arith)

pub returns-then-count-ge2 : goal.returns-then-count-ge2
returns-then-count-ge2 c =
    let a = c.args in
    count_alike a.buf.now a.start a.len a.s a.t c.survey.result c.survey.ensures
    (gives c.in-Ok.field-0.telegram) c.in-Ok.field-0.first c.in-Ok.field-0.count true (ap says_surveyed c.in-Ok.is) (le-leb _ _ c.if-count-ge2.true)

pub or_neither-requires : goal.or_neither-requires
or_neither-requires c =
    let a = c.args in
    let h = alike_taken a.buf.now a.start a.len a.s a.t c.survey.result c.survey.ensures (alike (gives c.in-Ok.field-0.telegram) c.in-Ok.field-0.first c.in-Ok.field-0.count) (ap says_surveyed c.in-Ok.is) in
    omega (arith, taken a.buf.now a.start a.len h)

pub or_neither-requires-in-Err-NoPlace : goal.or_neither-requires-in-Err-NoPlace
or_neither-requires-in-Err-NoPlace c =
    let a = c.args in
    let h = none_taken a.buf.now a.start a.len a.s a.t c.survey.result c.survey.ensures (ap says_surveyed (c.in-Err-NoPlace.is ∙ ap Err c.in-Err-NoPlace.field-0-is)) in
    omega (arith, taken a.buf.now a.start a.len h)

pub returns-else-count-ge2 : goal.returns-else-count-ge2
returns-else-count-ge2 c =
    let a = c.args in
    c.or_neither.ensures
    ∙ count_alike a.buf.now a.start a.len a.s a.t c.survey.result c.survey.ensures
    (gives c.in-Ok.field-0.telegram) c.in-Ok.field-0.first c.in-Ok.field-0.count false (ap says_surveyed c.in-Ok.is) (lt-leb _ _ c.if-count-ge2.false)

pub returns-in-Err-Differ : goal.returns-in-Err-Differ
returns-in-Err-Differ c =
    let a = c.args in
    decided a.buf.now a.start a.len a.s a.t c.survey.result c.survey.ensures (refuses 7) (ap says_surveyed (c.in-Err-Differ.is ∙ ap Err c.in-Err-Differ.field-0-is))

pub returns-in-Err-NotSeven : goal.returns-in-Err-NotSeven
returns-in-Err-NotSeven c =
    let a = c.args in
    decided a.buf.now a.start a.len a.s a.t c.survey.result c.survey.ensures (refuses 4) (ap says_surveyed (c.in-Err-NotSeven.is ∙ ap Err c.in-Err-NotSeven.field-0-is))

pub returns-in-Err-Beyond : goal.returns-in-Err-Beyond
returns-in-Err-Beyond c =
    let a = c.args in
    decided a.buf.now a.start a.len a.s a.t c.survey.result c.survey.ensures (refuses 5) (ap says_surveyed (c.in-Err-Beyond.is ∙ ap Err c.in-Err-Beyond.field-0-is))

pub returns-in-Err-NoPlace : goal.returns-in-Err-NoPlace
returns-in-Err-NoPlace c =
    let a = c.args in
    c.or_neither-in-Err-NoPlace.ensures
    ∙ decided a.buf.now a.start a.len a.s a.t c.survey.result c.survey.ensures (refuses 6) (ap says_surveyed (c.in-Err-NoPlace.is ∙ ap Err c.in-Err-NoPlace.field-0-is))
