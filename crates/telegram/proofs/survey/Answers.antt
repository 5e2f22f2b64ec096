-- The search finds the first place, or refuses; the places after it are walked from there.
-- Assumes nothing.
use Prim.Native.Nat.{ℕ, ◌+◌, ◌-◌}
use mathlib.Core.Path.{◌≡◌, refl, sym, ap, ◌∙◌}
use mathlib.Core.List.{List, ◌∷◌}
use native.Mathlib.Omega.{arith}
use Rattle.telegram.specs.Place.{places, find}
use Rattle.telegram.specs.Survey.{together, survey}
use Rattle.telegram.specs.Says.{none_alike, says_found, says_surveyed}
use Rattle.telegram.specs.declared.Found.{Found}
use Rattle.telegram.specs.declared.NotFound.{NotFound}
use Rattle.std.specs.Prelude.{Result, Err}
use Rattle.std.proofs.lemmas.Result.{err_from_is_err_and}
use Rattle.words.specs.Answer.{refuses, gives}
use Rattle.telegram.proofs.Taken.{taken}
use Rattle.telegram.proofs.Handed.{Handed, handed, as_refused}
use Rattle.telegram.proofs.survey.Goals.{In_ok-found}
use Rattle.telegram.proofs.survey.Goals as goal

-- the place that the search handed out
at_first : (c : In_ok-found) → let a = c.args in
    Handed a.buf.now a.start a.len a.s a.t c.in_ok-found.found.place (gives c.in_ok-found.found.telegram)
at_first c =
    let a = c.args in
    handed a.buf.now a.start a.len a.s a.t c.in_ok-found.found.place (gives c.in_ok-found.found.telegram)
    (sym c.find.ensures ∙ ap says_found c.in_ok-found.was)

-- what the search refuses
refused : (b : List ℕ) (start len s t : ℕ) (r : Result Found NotFound) → says_found r ≡ find b start len s t → (n : ℕ) → says_found r ≡ refuses n
    → refuses n ≡ survey b start len s t
refused b start len s t r says n e = sym (as_refused b start len s t n (sym says ∙ e))

pub overflow_sub-len : goal.overflow_sub-len
overflow_sub-len c = let f = (at_first c).first in omega arith

pub overflow_add-start : goal.overflow_add-start
overflow_add-start c =
    let a = c.args in
    let h = at_first c in
    omega (arith, h.first, taken a.buf.now a.start a.len h.taken)

pub to_first-requires : goal.to_first-requires
to_first-requires c =
    let a = c.args in
    let h = at_first c in
    let f = h.first in
    let i = taken a.buf.now a.start a.len h.taken in
    (omega arith, h.says)

pub returns : goal.returns
unfolding survey
returns c =
    let a = c.args in
    let h = at_first (goal.at-returns c).In_ok-found in
    let f = h.first in
    let e : a.start + (a.len - 39) - (c.in_ok-found.found.place + 1) + 39 ≡ a.start + a.len - (c.in_ok-found.found.place + 1) = omega arith in
    let ps : places a.buf.now (c.in_ok-found.found.place + 1) (a.start + (a.len - 39) - (c.in_ok-found.found.place + 1) + 39) a.s a.t ≡ h.rest =
    ap (λ (l : ℕ). places a.buf.now (c.in_ok-found.found.place + 1) l a.s a.t) e ∙ sym f.others in
    c.to_first.ensures ∙ ap (λ (qs : List ℕ). together a.buf.now (c.in_ok-found.found.place ∷ qs)) ps ∙ ap (together a.buf.now) (sym h.list)
    ∙ simp (h.good, h.taken)

-- what the survey says of what the search refuses is what the search says
same_number : (e : NotFound) → (n : ℕ) × (says_found (Err e) ≡ refuses n) × (says_surveyed (Err (none_alike e)) ≡ refuses n)
same_number NotFound.NotSeven = (4, refl, refl)
same_number NotFound.Beyond = (5, refl, refl)
same_number NotFound.NoPlace = (6, refl, refl)

pub returns-in_err-found : goal.returns-in_err-found
returns-in_err-found c =
    let p = err_from_is_err_and c.from_residual.result c.from_residual.ensures.1 in
    let n = same_number c.in_err-found.field-0.0 in
    ap says_surveyed (p.1 ∙ ap Err p.2) ∙ n.2
    ∙ refused c.args.buf.now _ _ _ _ c.find.result c.find.ensures n.0 (ap says_found c.in_err-found.was ∙ n.1)
