-- `put_next` asks whether a record is left, then what it says.
use mathlib.Core.Path.{◌≡◌, sym, ap, ◌∙◌}
use mathlib.Core.Bool.{Bool}
use Prim.Native.Nat.{ℕ, ◌*◌, ◌/◌, ◌<◌, ◌≤◌}
use mathlib.Core.List.{List}
use lib.ListN.{length}
use borrow.Author.Tests.{lt-ltb, le-ltb}
use Rattle.words.specs.Answer.{pick}
use Rattle.text.specs.Put.{put}
use Rattle.trace_text.specs.Thing.{thing_at}
use Rattle.viewer_text.specs.Text.{no_next, next_said, next}
use Rattle.viewer_text.proofs.ahead.put_next.Goals as goal

none_left : (trace : List ℕ) (n : ℕ) → length trace / 8 ≤ n → no_next ≡ next trace n
unfolding next
none_left trace n h = ap (λ (b : Bool). pick b (next_said (thing_at trace (n * 8))) no_next) (sym (le-ltb n (length trace / 8) h))

one_left : (trace : List ℕ) (n : ℕ) → n < length trace / 8 → next_said (thing_at trace (n * 8)) ≡ next trace n
unfolding next
one_left trace n h = ap (λ (b : Bool). pick b (next_said (thing_at trace (n * 8))) no_next) (sym (lt-ltb n (length trace / 8) h))

pub returns-then-number-trace : goal.returns-then-number-trace
returns-then-number-trace c =
    let a = c.args in
    c.put.ensures ∙ ap (λ (t : List ℕ). put t a.buf.now a.at) (none_left a.trace.now a.number c.if-number-trace.true)

pub returns-in-Nothing : goal.returns-in-Nothing
returns-in-Nothing c =
    let a = c.args in
    c.put-in-Nothing.ensures
    ∙ ap (λ (x : List ℕ). put x a.buf.now a.at) (ap next_said (sym c.in-Nothing.is ∙ c.thing_at-said.ensures) ∙ one_left a.trace.now a.number c.if-number-trace.false)

pub returns-in-Thing : goal.returns-in-Thing
returns-in-Thing c =
    let a = c.args in
    c.put_ahead.ensures
    ∙ ap (λ (x : List ℕ). put x a.buf.now a.at) (ap next_said (sym c.in-Thing.is ∙ c.thing_at-said.ensures) ∙ one_left a.trace.now a.number c.if-number-trace.false)

pub returns-in-Unreadable : goal.returns-in-Unreadable
returns-in-Unreadable c =
    let a = c.args in
    c.put-in-Unreadable.ensures
    ∙ ap (λ (x : List ℕ). put x a.buf.now a.at) (ap next_said (sym c.in-Unreadable.is ∙ c.thing_at-said.ensures) ∙ one_left a.trace.now a.number c.if-number-trace.false)
