-- `seen` judges the settings, then the length; the part of a trace that has no byte is empty.
use mathlib.Core.Path.{◌≡◌, ap, sym, ◌∙◌}
use Prim.Native.Nat.{ℕ, ◌+◌}
use mathlib.Core.List.{List, []}
use native.Mathlib.Omega.{arith}
use denote.Ref.{Bor}
use Rattle.words.specs.Answer.{Outcome, refuses}
use borrow.Author.Tests.{eq-eqb, ne_eqb}
use Rattle.settings.specs.Says.{says_asked}
use Rattle.settings.proofs.Holding.{held_given, store_refused}
use Rattle.viewer.specs.Viewing.{Done, Start}
use Rattle.viewer.specs.Says.{lies, slice_of, lent_to}
use Rattle.viewer.proofs.Calls.{open_refused, open_length, open_done}
use Rattle.viewer.proofs.opening.seen.Goals as goal

-- an empty part at the front of the slice
abbrev front : Bor (List ℕ) → Bor (List ℕ)
front t = record { ref_ptr = (t.ref_ptr.0, 0 + t.ref_ptr.1); now = [] }

nothing_held : (o : Outcome Done) (n : ℕ) (t : Bor (List ℕ)) → refuses n ≡ o → slice_of o (front t) ≡ lent_to o t
nothing_held o n t e =
    let there : 0 + t.ref_ptr.1 ≡ t.ref_ptr.1 = omega arith in
    ap (λ (x : Outcome Done). slice_of x (front t)) (sym e)
    ∙ ap (λ (k : ℕ). lies (t.ref_ptr.0, k) []) there
    ∙ ap (λ (x : Outcome Done). lent_to x t) e

pub returns-in_default : goal.returns-in_default
returns-in_default c =
    let a = c.args in
    let none = open_refused a.store a.trace.now _ (store_refused a.store _ (sym c.at-asked.ensures ∙ ap says_asked c.in_default.is)) in
    nothing_held _ _ a.trace (ap (λ (s : Start). s.answer) none)

pub returns-then-trace-ne0 : goal.returns-then-trace-ne0
returns-then-trace-ne0 c =
    let a = c.args in
    let held = held_given a.store 0 _ (sym c.at-asked.ensures ∙ ap says_asked c.in-Ok.is) in
    let none = open_length a.store a.trace.now held.0 (ne_eqb _ _ c.if-trace-ne0.true) in
    nothing_held _ _ a.trace (ap (λ (s : Start). s.answer) none)

pub returns : goal.returns
returns c =
    let a = c.args in
    let held = held_given a.store 0 _ (sym c.at-asked.ensures ∙ ap says_asked c.in-Ok.is) in
    let done = open_done a.store a.trace.now held.0 (eq-eqb _ _ c.if-trace-ne0.false) in
    ap (λ (s : Start). slice_of s.answer a.trace) (sym done) ∙ ap (λ (s : Start). lent_to s.answer a.trace) done
